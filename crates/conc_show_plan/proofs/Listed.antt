-- What is read of the listing of a plan, line by line.
use Rattle.std.proofs.Common.{◌≡◌, refl, sym, ◌∙◌, ap, ◌+◌, ℕ, Bool, true, false, List, [], ◌∷◌, ◌++◌, append_assoc, length, arith}
use Rattle.std.specs.Prelude.{Option, None, Some}
use Rattle.std.proofs.lemmas.Bool.{eq-eqb, ne_eqb}
use Rattle.std.proofs.lemmas.List.{append-nil, length_push}
use Rattle.std.proofs.lemmas.List.Sums.{sum_by-cons}
use Rattle.conc_types.specs.declared.event.RequestId.{RequestId}
use Rattle.conc_history_lines.specs.History.{whole_lines}
use Rattle.conc_show_model.specs.Rows.{bytes_of_lines, is_whole}
use Rattle.conc_show_model.proofs.Tabled.{whole_rest}
use Rattle.conc_show_plan.specs.Lines.{plan_line}
use Rattle.conc_show_plan.specs.Listing.{line_fault, line_fault_of, sets_from, sets_of}

-- some lines are read, of which these are the sets; the rest is left
pub record IsRead (listing rest : List ℕ) (sets : List (Option RequestId)) : Type 0 where
  pub list : sets_of listing ≡ sets ++ sets_from (length sets + 1) (whole_lines rest)
  pub fault : line_fault_of listing ≡ line_fault (is_whole listing) (length sets + 1) (whole_lines rest)
  pub bytes : bytes_of_lines (whole_lines listing) + length rest ≡ length listing + bytes_of_lines (whole_lines rest)

pub read_none : (listing : List ℕ) (sets : List (Option RequestId)) → sets ≡ [] → IsRead listing listing sets
read_none listing sets e = rw e (record { list = refl; fault = refl; bytes = omega arith })

sets_more : (number : ℕ) (line : List ℕ) (lines : List (List ℕ)) (set : Option RequestId) → plan_line number line ≡ Some set → sets_from number (line ∷ lines) ≡ set ∷ sets_from (number + 1) lines
unfolding sets_from
sets_more number line lines set h = rw h refl

fault_more : (whole : Bool) (number : ℕ) (line : List ℕ) (lines : List (List ℕ)) (set : Option RequestId) → plan_line number line ≡ Some set
    → line_fault whole number (line ∷ lines) ≡ line_fault whole (number + 1) lines
unfolding line_fault
fault_more whole number line lines set h = rw h refl

-- one more line is read
pub read_more : (listing rest line after : List ℕ) (sets more : List (Option RequestId)) (set : Option RequestId) (number : ℕ) → IsRead listing rest sets
    → whole_lines rest ≡ line ∷ whole_lines after → length rest ≡ length line + 1 + length after → number ≡ length sets + 1 → plan_line number line ≡ Some set → more ≡ sets ++ set ∷ []
    → IsRead listing after more
read_more listing rest line after sets more set number r lines long n is m =
    let many : length more ≡ length sets + 1 = ap length m ∙ length_push sets set in
    let here : plan_line (length sets + 1) line ≡ Some set = ap (λ (k : ℕ). plan_line k line) (sym n) ∙ is in
    let next : length sets + 1 + 1 ≡ length more + 1 = ap (λ (k : ℕ). k + 1) (sym many) in
    let sum : bytes_of_lines (whole_lines rest) ≡ length line + 1 + bytes_of_lines (whole_lines after) = ap bytes_of_lines lines ∙ sum_by-cons (λ (l : List ℕ). length l + 1) line (whole_lines after) in
    let before = r.bytes in
    record {
      list =
          r.list ∙ (ap (λ (x : List (Option RequestId)). sets ++ x) (ap (sets_from (length sets + 1)) lines ∙ (sets_more (length sets + 1) line (whole_lines after) set here
          ∙ ap (λ (k : ℕ). set ∷ sets_from k (whole_lines after)) next))
          ∙ (sym (append_assoc sets (set ∷ []) (sets_from (length more + 1) (whole_lines after))) ∙ ap (λ (x : List (Option RequestId)). x ++ sets_from (length more + 1) (whole_lines after)) (sym m)));
      fault =
          r.fault ∙ (ap (line_fault (is_whole listing) (length sets + 1)) lines ∙ (fault_more (is_whole listing) (length sets + 1) line (whole_lines after) set here
          ∙ ap (λ (k : ℕ). line_fault (is_whole listing) k (whole_lines after)) next));
      bytes = omega arith;
    }

fault_here : (whole : Bool) (number : ℕ) (line : List ℕ) (lines : List (List ℕ)) → plan_line number line ≡ None → line_fault whole number (line ∷ lines) ≡ Some number
unfolding line_fault
fault_here whole number line lines h = rw h refl

-- the next line is none of the listing
pub read_bad : (listing rest line : List ℕ) (after : List (List ℕ)) (sets : List (Option RequestId)) (number : ℕ) → IsRead listing rest sets → whole_lines rest ≡ line ∷ after
    → number ≡ length sets + 1 → plan_line number line ≡ None → line_fault_of listing ≡ Some number
read_bad listing rest line after sets number r lines n bad =
    r.fault ∙ (ap (line_fault (is_whole listing) (length sets + 1)) lines ∙ (ap (λ (k : ℕ). line_fault (is_whole listing) k (line ∷ after)) (sym n) ∙ fault_here (is_whole listing) number line after bad))

open_end : (number : ℕ) → line_fault false number [] ≡ Some number
unfolding line_fault
open_end number = refl

whole_end : (number : ℕ) → line_fault true number [] ≡ None
unfolding line_fault
whole_end number = refl

empty_whole : (rest : List ℕ) → whole_lines rest ≡ [] → bytes_of_lines (whole_lines rest) ≡ 0
empty_whole rest e = ap bytes_of_lines e

-- no line is left, but bytes are
pub read_open : (listing rest : List ℕ) (sets : List (Option RequestId)) (number : ℕ) → IsRead listing rest sets → whole_lines rest ≡ [] → (length rest ≡ 0 → ⊥) → number ≡ length sets + 1
    → line_fault_of listing ≡ Some number
read_open listing rest sets number r none some n =
    let no_bytes = empty_whole rest none in
    let cut_off : is_whole rest ≡ false = ne_eqb (bytes_of_lines (whole_lines rest)) (length rest) (λ e. some (omega arith)) in
    let whole : is_whole listing ≡ false = sym (whole_rest listing rest r.bytes) ∙ cut_off in
    r.fault ∙ (ap (line_fault (is_whole listing) (length sets + 1)) none ∙ (ap (λ (k : ℕ). line_fault (is_whole listing) k []) (sym n) ∙ (ap (λ (b : Bool). line_fault b number []) whole ∙ open_end number)))

-- nothing is left
pub read_fine : (listing rest : List ℕ) (sets : List (Option RequestId)) → IsRead listing rest sets → whole_lines rest ≡ [] → length rest ≡ 0 → line_fault_of listing ≡ None
read_fine listing rest sets r none all =
    let no_bytes = empty_whole rest none in
    let whole : is_whole listing ≡ true = sym (whole_rest listing rest r.bytes) ∙ eq-eqb (bytes_of_lines (whole_lines rest)) (length rest) (omega arith) in
    r.fault ∙ (ap (line_fault (is_whole listing) (length sets + 1)) none ∙ (ap (λ (b : Bool). line_fault b (length sets + 1) []) whole ∙ whole_end (length sets + 1)))

no_sets : (number : ℕ) → sets_from number [] ≡ []
unfolding sets_from
no_sets number = refl

pub read_all : (listing rest : List ℕ) (sets : List (Option RequestId)) → IsRead listing rest sets → whole_lines rest ≡ [] → sets ≡ sets_of listing
read_all listing rest sets r none =
    sym (r.list ∙ (ap (λ (x : List (Option RequestId)). sets ++ x) (ap (sets_from (length sets + 1)) none ∙ no_sets (length sets + 1)) ∙ append-nil sets))
