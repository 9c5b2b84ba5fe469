-- The fields of a record by their places.
use Rattle.std.proofs.Common.{◌≡◌, refl, ◌∙◌, ap, ℕ, zero, suc, List, [], ◌∷◌, length, arith}
use Rattle.std.specs.Prelude.{unwrap_or, Option, None, Some}
use Rattle.std.specs.Option.{option_map}
use denote.Ref.{Bor}
use Rattle.csv.specs.Records.{field_at}
use Rattle.conc_data_records.specs.Records.{Record}
use Rattle.conc_repeat.specs.Series.{field}

field_or : (r : Record) (n : ℕ) → unwrap_or (field_at r n) [] ≡ field n r
unfolding field_at
field_or [] n = refl
field_or (x ∷ r) zero = refl
field_or (x ∷ r) (suc n) = field_or r n

-- what `get` gives, or nothing
pub field_is : (r : Record) (n : ℕ) (got : Option (Bor (List ℕ))) (none : Bor (List ℕ)) → none.now ≡ [] → option_map (λ x. x.now) got ≡ field_at r n → (unwrap_or got none).now ≡ field n r
field_is r n None none e h = e ∙ (ap (λ (x : Option (List ℕ)). unwrap_or x []) h ∙ field_or r n)
field_is r n (Some x) none e h = ap (λ (y : Option (List ℕ)). unwrap_or y []) h ∙ field_or r n

-- nine fields are all that there are
pub nine_are : (r : Record) → length r ≡ 9
    → r ≡ field 0 r ∷ field 1 r ∷ field 2 r ∷ field 3 r ∷ field 4 r ∷ field 5 r ∷ field 6 r ∷ field 7 r ∷ field 8 r ∷ []
nine_are [] e = absurd (omega arith)
nine_are (a ∷ []) e = absurd (omega arith)
nine_are (a ∷ b ∷ []) e = absurd (omega arith)
nine_are (a ∷ b ∷ c ∷ []) e = absurd (omega arith)
nine_are (a ∷ b ∷ c ∷ d ∷ []) e = absurd (omega arith)
nine_are (a ∷ b ∷ c ∷ d ∷ f ∷ []) e = absurd (omega arith)
nine_are (a ∷ b ∷ c ∷ d ∷ f ∷ g ∷ []) e = absurd (omega arith)
nine_are (a ∷ b ∷ c ∷ d ∷ f ∷ g ∷ h ∷ []) e = absurd (omega arith)
nine_are (a ∷ b ∷ c ∷ d ∷ f ∷ g ∷ h ∷ i ∷ []) e = absurd (omega arith)
nine_are (a ∷ b ∷ c ∷ d ∷ f ∷ g ∷ h ∷ i ∷ j ∷ []) e = refl
nine_are (a ∷ b ∷ c ∷ d ∷ f ∷ g ∷ h ∷ i ∷ j ∷ k ∷ r) e = absurd (omega arith)
