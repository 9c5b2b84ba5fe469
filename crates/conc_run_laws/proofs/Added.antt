-- Each event that a life adds may follow those before it, and none is a resume.
use Rattle.std.proofs.Common.{◌≡◌, ℕ, zero, suc, ◌+◌, ◌-◌, ◌≤◌, ◌++◌, true, false, List, [], ◌∷◌, length, reverse, take, Some, if◌then◌else◌, sym, ◌∙◌, ap, subst, arith, append_assoc, append-nil}
use Rattle.std.specs.Prelude.{slice_get}
use Rattle.std.specs.List.{list_any}
use Rattle.std.proofs.lemmas.Bool.{and_parts, cond-false, or_parts}
use Rattle.std.proofs.Math.Seq.{take-append-add}
use Rattle.conc_types.specs.declared.event.Event.{Event}
use Rattle.conc_types.specs.declared.plan.Plan.{Plan}
use Rattle.conc_types.specs.declared.script.Reading.{Reading}
use Rattle.conc_base_law.specs.Kinds.{is_resume}
use Rattle.conc_base_law.specs.Law.{is_lawful, is_lawful_so_far, may_follow}
use Rattle.conc_base_law.proofs.Positions.{reverse-push}
use Rattle.conc_run_state.specs.Lists.{GoesOn}

-- the event is no resume, and may follow these, which are given with the latest first
abbrev pub ComesAfter : Plan → List Reading → List Event → Event → Type 0
ComesAfter plan readings past e = (is_resume e ≡ false) × (may_follow plan (Some readings) past e ≡ true)

-- from this position on each event comes after those before it
abbrev pub EachComesAfter : Plan → List Reading → ℕ → List Event → Type 0
EachComesAfter plan readings n list = (i : ℕ) (e : Event) → n ≤ i → slice_get list i ≡ Some e → ComesAfter plan readings (reverse (take i list)) e

-- ---- lawful lists

-- the last event of a lawful list, where it is no resume
last-comes : (plan : Plan) (readings : List Reading) (past : List Event) (e : Event) → is_resume e ≡ false → is_lawful plan readings (e ∷ past) ≡ true
    → (is_lawful plan readings past ≡ true) × (may_follow plan (Some readings) past e ≡ true)
unfolding is_lawful
last-comes plan readings past e none lawful =
    let parts : ((if is_resume e then is_lawful_so_far plan past else is_lawful plan readings past) ≡ true) × (may_follow plan (Some readings) past e ≡ true) = and_parts _ _ lawful in
    (sym (cond-false (is_resume e) (is_lawful_so_far plan past) (is_lawful plan readings past) none) ∙ parts.0, parts.1)

-- the same, of a list whose events stand in the order in which they came
push-comes : (plan : Plan) (readings : List Reading) (list : List Event) (e : Event) → is_resume e ≡ false → is_lawful plan readings (reverse (list ++ e ∷ [])) ≡ true
    → (is_lawful plan readings (reverse list) ≡ true) × (may_follow plan (Some readings) (reverse list) e ≡ true)
push-comes plan readings list e none lawful =
    last-comes plan readings (reverse list) e none (ap (is_lawful plan readings) (sym (reverse-push list e)) ∙ lawful)

module _ (plan : Plan) (readings : List Reading) where
  -- a list that is lawful is so by the same events otherwise put together
  same-lawful : (a b : List Event) → a ≡ b → is_lawful plan readings (reverse b) ≡ true → is_lawful plan readings (reverse a) ≡ true
  same-lawful a b same lawful = ap (λ (l : List Event). is_lawful plan readings (reverse l)) same ∙ lawful

  -- it was lawful before the later events of its life
  before-lawful : (list added : List Event) → list_any is_resume added ≡ false → is_lawful plan readings (reverse (list ++ added)) ≡ true → is_lawful plan readings (reverse list) ≡ true
  before-lawful list [] none lawful = same-lawful list (list ++ []) (sym (append-nil list)) lawful
  before-lawful list (e ∷ added) none lawful =
      let parts : (is_resume e ≡ false) × (list_any is_resume added ≡ false) = or_parts _ _ none in
      let longer = before-lawful (list ++ e ∷ []) added parts.1 (same-lawful ((list ++ e ∷ []) ++ added) (list ++ e ∷ added) (append_assoc list (e ∷ []) added) lawful) in
      (push-comes plan readings list e parts.0 longer).0

  -- each event that was added comes after those before it
  pub added-comes : (list added : List Event) → list_any is_resume added ≡ false → is_lawful plan readings (reverse (list ++ added)) ≡ true
      → (k : ℕ) (e : Event) → slice_get added k ≡ Some e → ComesAfter plan readings (reverse (list ++ take k added)) e
  added-comes list [] none lawful k e there = absurd (cc there)
  added-comes list (x ∷ added) none lawful zero e there =
      let parts : (is_resume x ≡ false) × (list_any is_resume added ≡ false) = or_parts _ _ none in
      let longer = before-lawful (list ++ x ∷ []) added parts.1 (same-lawful ((list ++ x ∷ []) ++ added) (list ++ x ∷ added) (append_assoc list (x ∷ []) added) lawful) in
      let same : x ≡ e = cc there in
      subst (λ (y : Event). ComesAfter plan readings (reverse (list ++ [])) y) same
      (parts.0, ap (λ (l : List Event). may_follow plan (Some readings) (reverse l) x) (append-nil list) ∙ (push-comes plan readings list x parts.0 longer).1)
  added-comes list (x ∷ added) none lawful (suc k) e there =
      let parts : (is_resume x ≡ false) × (list_any is_resume added ≡ false) = or_parts _ _ none in
      let later = added-comes (list ++ x ∷ []) added parts.1 (same-lawful ((list ++ x ∷ []) ++ added) (list ++ x ∷ added) (append_assoc list (x ∷ []) added) lawful) k e there in
      (later.0, ap (λ (l : List Event). may_follow plan (Some readings) (reverse l) e) (sym (append_assoc list (x ∷ []) (take k added))) ∙ later.1)

-- ---- by its position

get-behind : (list added : List Event) (k : ℕ) → slice_get (list ++ added) (length list + k) ≡ slice_get added k
get-behind [] added k = let same : 0 + k ≡ k = omega arith in ap (λ (i : ℕ). slice_get added i) same
get-behind (x ∷ list) added k =
    let same : length (x ∷ list) + k ≡ suc (length list + k) = omega arith in
    ap (λ (i : ℕ). slice_get (x ∷ list ++ added) i) same ∙ get-behind list added k

pub each-comes : (plan : Plan) (readings : List Reading) (first list : List Event) → GoesOn plan readings first list → EachComesAfter plan readings (length first) list
each-comes plan readings first list going i e from there =
    let k : ℕ = i - length first in
    let long : length first + k ≡ i = omega (arith, from) in
    let here : slice_get going.added k ≡ Some e =
    sym (get-behind first going.added k) ∙ ap (λ (l : List Event). slice_get l (length first + k)) (sym going.all) ∙ ap (λ (j : ℕ). slice_get list j) long ∙ there in
    let front : first ++ take k going.added ≡ take i list =
    sym (take-append-add first going.added k) ∙ ap (λ (l : List Event). take (length first + k) l) (sym going.all) ∙ ap (λ (j : ℕ). take j list) long in
    let lawful : is_lawful plan readings (reverse (first ++ going.added)) ≡ true = ap (λ (l : List Event). is_lawful plan readings (reverse l)) (sym going.all) ∙ going.lawful in
    subst (λ (l : List Event). ComesAfter plan readings (reverse l) e) front (added-comes plan readings first going.added going.no_resume lawful k e here)
