-- The table's lines, one by one, beside those of a text.
use Rattle.std.proofs.Common.{◌≡◌, refl, sym, ◌∙◌, ap, ◌+◌, ◌-◌, ◌<◌, ◌≤◌, ℕ, List, [], ◌∷◌, ◌++◌, length, append_assoc, arith}
use Rattle.std.specs.Prelude.{Some, slice_get}
use Rattle.std.proofs.Math.Seq.{take-append_seam}
use Rattle.std.proofs.lemmas.Bool.{ne_eqb}
use Rattle.std.proofs.lemmas.List.{append-nil, length-append, length_push}
use Rattle.conc_types.specs.Words.{numbered}
use Rattle.conc_history_lines.specs.History.{whole_lines}
use Rattle.conc_history_check.specs.Verdicts.{BeginsWith, IsFirstOther}

-- the lines that are gone through stand in both, and this is the number of the next one
pub record Agrees (table text due left : List ℕ) (number : ℕ) : Type 0 where
  pub done : List (List ℕ)
  pub table_is : whole_lines table ≡ done ++ whole_lines due
  pub text_is : whole_lines text ≡ done ++ whole_lines left
  pub number_is : number ≡ length done + 1
  pub few : length done + length due ≤ length table

pub agrees_more : (table text due left line rest after : List ℕ) (number : ℕ) → Agrees table text due left number
    → whole_lines due ≡ line ∷ whole_lines rest → length rest < length due → whole_lines left ≡ line ∷ whole_lines after
    → Agrees table text rest after (number + 1)
agrees_more table text due left line rest after number a d short l =
    let n = a.number_is in
    let f = a.few in
    let longer : length (a.done ++ line ∷ []) ≡ length a.done + 1 = length_push a.done line in
    record {
      done = a.done ++ line ∷ [];
      table_is = a.table_is ∙ (ap (λ x. a.done ++ x) d ∙ sym (append_assoc a.done (line ∷ []) (whole_lines rest)));
      text_is = a.text_is ∙ (ap (λ x. a.done ++ x) l ∙ sym (append_assoc a.done (line ∷ []) (whole_lines after)));
      number_is = omega arith;
      few = omega arith;
    }

begins : (done table lines left : List (List ℕ)) → table ≡ done → lines ≡ done ++ left → BeginsWith table lines
begins done table lines left t l = rw (t, l) (take-append_seam done left)

-- no line is left of the table
pub agrees_end : (table text due left : List ℕ) (number : ℕ) → Agrees table text due left number → whole_lines due ≡ []
    → BeginsWith (whole_lines table) (whole_lines text)
agrees_end table text due left number a d =
    begins a.done (whole_lines table) (whole_lines text) (whole_lines left) (a.table_is ∙ (ap (λ x. a.done ++ x) d ∙ append-nil a.done)) a.text_is

get_next : (done more : List (List ℕ)) → slice_get (done ++ more) (length done) ≡ slice_get more 0
get_next [] more = refl
get_next (x ∷ done) more = get_next done more

-- the one after those that are done
numbered_next : (done more : List (List ℕ)) → numbered (done ++ more) (length done + 1) ≡ slice_get more 0
numbered_next done more =
    let same : length done + 1 - 1 ≡ length done = omega arith in
    rw (ne_eqb (length done + 1) 0 (λ e. omega arith), same) (get_next done more)

first_other : (done left more : List (List ℕ)) (line : List ℕ) → (slice_get left 0 ≡ Some line → ⊥)
    → IsFirstOther (done ++ line ∷ more) (done ++ left) (length done + 1)
first_other done left more line other =
    let back : length done + 1 - 1 ≡ length done = omega arith in
    let long : length (done ++ line ∷ more) ≡ length done + length (line ∷ more) = length-append done (line ∷ more) in
    record {
      first = omega arith;
      within = omega arith;
      before = rw back (take-append_seam done left ∙ sym (take-append_seam done (line ∷ more)));
      other = λ same. other (sym (numbered_next done left) ∙ (same ∙ numbered_next done (line ∷ more)));
    }

-- the next line of the table does not stand in the text
pub agrees_until : (table text due left line rest : List ℕ) (number : ℕ) → Agrees table text due left number
    → whole_lines due ≡ line ∷ whole_lines rest → (slice_get (whole_lines left) 0 ≡ Some line → ⊥)
    → IsFirstOther (whole_lines table) (whole_lines text) number
agrees_until table text due left line rest number a d other =
    rw (a.number_is, a.table_is, a.text_is, d) (first_other a.done (whole_lines left) (whole_lines rest) line other)
