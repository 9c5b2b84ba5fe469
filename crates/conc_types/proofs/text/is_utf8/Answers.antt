use Rattle.std.proofs.Common.{◌≡◌, sym, ◌∙◌, ℕ, false, List, Result, Ok, Err}
use Rattle.std.specs.Result.{MatchResult, is_ok}
use Rattle.std.specs.Str.{is_utf8 as is_utf8_of, IsUtf8}
use Rattle.std.proofs.lemmas.Bool.Decides.{same_from_decides}
use Rattle.std.proofs.lemmas.Str.{IsUtf8-from_is_utf8, is_utf8-from_IsUtf8}
use Rattle.conc_types.proofs.text.is_utf8.Goals as goal

found : {T E : Type 0} → (bs : List ℕ) (r : Result T E) (P : T → Type 0) (Q : E → Type 0) → MatchResult r (λ x. P x × IsUtf8 bs) (λ x. ¬ (IsUtf8 bs) × Q x) → is_ok r ≡ is_utf8_of bs
found bs (Ok x) P Q h = sym (is_utf8-from_IsUtf8 bs h.1)
found bs (Err x) P Q h = same_from_decides false (is_utf8_of bs) (λ e. absurd cc, λ u. absurd (h.0 u)) (IsUtf8-from_is_utf8 bs, is_utf8-from_IsUtf8 bs)

-- src/name.rt:55:1
pub returns : goal.returns
returns c = c.is_ok.ensures.value ∙ found c.args.bytes.now c.from_utf8.result _ _ c.from_utf8.ensures.cases
