-- Fields by their places, and lines with too many.
use Rattle.std.proofs.Common.{◌≡◌, refl, ◌∙◌, ap, ℕ, zero, suc, false, List, [], ◌∷◌, length, get_or, arith}
use Rattle.std.specs.Prelude.{unwrap_or, Option, None, Some}
use Rattle.std.specs.Option.{option_map}
use Rattle.std.proofs.lemmas.Bool.{ne_eqb}
use denote.Ref.{Bor}
use Rattle.csv.specs.Records.{field_at}
use Rattle.conc_types.specs.Words.{has_length}
use Rattle.conc_history_lines.proofs.Splits.{some_part}
use Rattle.conc_data_records.specs.Records.{Record}
use Rattle.conc_show_plan.specs.Lines.{fields_of}

-- a line that is cut eight times has more than eight fields
pub many_fields : (line a b c d e f g h : List ℕ) (s t u v w x y z : List ℕ) → fields_of line ≡ s ∷ fields_of a → fields_of a ≡ t ∷ fields_of b → fields_of b ≡ u ∷ fields_of c
    → fields_of c ≡ v ∷ fields_of d → fields_of d ≡ w ∷ fields_of e → fields_of e ≡ x ∷ fields_of f → fields_of f ≡ y ∷ fields_of g → fields_of g ≡ z ∷ fields_of h
    → has_length 8 (fields_of line) ≡ false
many_fields line a b c d e f g h s t u v w x y z i j k l m n o p =
    let more = some_part 9 h in
    let all : fields_of line ≡ s ∷ t ∷ u ∷ v ∷ w ∷ x ∷ y ∷ z ∷ more.0 ∷ more.1 = cc (i, j, k, l, m, n, o, p, more.2) in
    let many : length (fields_of line) ≡ length (s ∷ t ∷ u ∷ v ∷ w ∷ x ∷ y ∷ z ∷ more.0 ∷ more.1) = ap length all in
    ne_eqb (length (fields_of line)) 8 (λ q. omega (arith, many, q))

field_or : (r : Record) (n : ℕ) → unwrap_or (field_at r n) [] ≡ get_or r n []
unfolding field_at
field_or [] n = refl
field_or (x ∷ r) zero = refl
field_or (x ∷ r) (suc n) = field_or r n

-- the field of a record at a place, or nothing
pub field_is : (r : Record) (n : ℕ) (got : Option (Bor (List ℕ))) (none : Bor (List ℕ)) → none.now ≡ [] → option_map (λ x. x.now) got ≡ field_at r n → (unwrap_or got none).now ≡ get_or r n []
field_is r n None none e h = e ∙ (ap (λ (x : Option (List ℕ)). unwrap_or x []) h ∙ field_or r n)
field_is r n (Some x) none e h = ap (λ (y : Option (List ℕ)). unwrap_or y []) h ∙ field_or r n
