-- The first command that is not done is the first that is due, where one is.
use Rattle.std.proofs.Common.{◌≡◌, ℕ, zero, suc, ◌+◌, ◌<◌, ◌≤◌, Bool, true, false, not, List, [], ◌∷◌, Option, None, Some, refl, ◌∙◌, ap, inl, inr, arith}
use Rattle.std.specs.Prelude.{nat_le, slice_get, unwrap_or}
use Rattle.std.specs.Bool.{then_some}
use Rattle.std.specs.List.{enumerate_from, find}
use Rattle.std.specs.Option.{option_and_then, option_map}
use Rattle.std.proofs.lemmas.Bool.{and_left, and_parts, and_right, cases_Bool, leb-true}
use Rattle.std.proofs.lemmas.Bool.Decides.{nat_tests}
use Rattle.conc_types.specs.declared.event.Event.TheVariants as event
use Rattle.conc_types.specs.declared.event.Moment.{Moment}
use Rattle.conc_types.specs.declared.facts.State.{State}
use Rattle.conc_types.specs.declared.plan.Plan.{Plan}
use Rattle.conc_types.specs.declared.script.Order.{Order}
use Rattle.conc_types.specs.declared.setup.Setup.{Setup}
use Rattle.conc_types.specs.Scripts.{are_commands_from, entered_by, is_act}
use Rattle.conc_types.specs.Words.{numbered}
use Rattle.conc_base_law.specs.Next.{forced_command, is_due}
use Rattle.conc_base_law.specs.State.{has_come}
use Rattle.conc_base_law.proofs.Numbering.{numbered-at}
use Rattle.conc_history_check.specs.Active.{IsFirstUndone, done_at}

-- none is due where none of them has come, since no moment goes back
none-come : (s : State) (setup : Setup) (next seconds m : ℕ) (orders : List Order) → are_commands_from setup next seconds orders ≡ true
    → ((t : Moment) → seconds ≤ t.seconds → has_come s.time t ≡ false) → find (is_due s) (enumerate_from m orders) ≡ None
unfolding is_due
none-come s setup next seconds m [] ok late = refl
none-come s setup next seconds m (order ∷ orders) ok late =
    let p = and_parts (nat_le seconds order.at.seconds) _ ok in
    let q = and_parts (is_act setup next order.act) _ p.1 in
    let above : seconds ≤ order.at.seconds = leb-true _ _ p.0 in
    let miss : is_due s (m, order) ≡ false = and_right _ _ (late order.at above) in
    rw miss (none-come s setup (next + entered_by setup order.act) order.at.seconds (m + 1) orders q.1 (λ t behind. late t (omega (arith, above, behind))))

pub later-not_come : (time : Option Moment) (t u : Moment) → t.seconds ≤ u.seconds → has_come time t ≡ false → has_come time u ≡ false
unfolding has_come
later-not_come None t u behind h = refl
later-not_come (Some n) t u behind h = grind (arith, nat_tests)

done-not_due : (s : State) (n : ℕ) (order : Order) → unwrap_or (numbered s.done n) false ≡ true → is_due s (n, order) ≡ false
unfolding is_due
done-not_due s n order done = and_left _ _ (ap not done)

-- one that is not done is due where its moment has come, and else none behind it is
due-or_none : (s : State) (n : ℕ) (order : Order) (orders : List Order) → unwrap_or (numbered s.done n) false ≡ false
    → (has_come s.time order.at ≡ false → find (is_due s) (enumerate_from (n + 1) orders) ≡ None)
    → find (is_due s) ((n, order) ∷ enumerate_from (n + 1) orders) ≡ then_some (is_due s (n, order)) (n, order)
unfolding is_due
due-or_none s n order orders undone none = elim (cases_Bool (has_come s.time order.at)) [
  | inl on ↦ rw (undone, on) refl
  | inr off ↦ rw (undone, off) (none off)
]

flag : (s : State) (m : ℕ) → unwrap_or (numbered s.done (m + 1)) false ≡ done_at s m
flag s m = ap (λ o. unwrap_or o false) (numbered-at s.done (m + 1) m (omega arith))

-- of the commands from a place on, so many are done, and the next one is not
due-from : (s : State) (setup : Setup) (next seconds m : ℕ) (orders : List Order) (n : ℕ) → are_commands_from setup next seconds orders ≡ true
    → ((k : ℕ) → k < n → done_at s (m + k) ≡ true) → done_at s (m + n) ≡ false
    → find (is_due s) (enumerate_from (m + 1) orders) ≡ option_and_then (λ order. then_some (is_due s (m + n + 1, order)) (m + n + 1, order)) (slice_get orders n)
due-from s setup next seconds m [] zero ok before here = refl
due-from s setup next seconds m [] (suc n) ok before here = refl
due-from s setup next seconds m (order ∷ orders) zero ok before here =
    let p = and_parts (nat_le seconds order.at.seconds) _ ok in
    let q = and_parts (is_act setup next order.act) _ p.1 in
    let undone : unwrap_or (numbered s.done (m + 1)) false ≡ false = flag s m ∙ (ap (done_at s) (omega arith) ∙ here) in
    let none : has_come s.time order.at ≡ false → find (is_due s) (enumerate_from (m + 1 + 1) orders) ≡ None =
    λ off. none-come s setup (next + entered_by setup order.act) order.at.seconds (m + 1 + 1) orders q.1 (λ t behind. later-not_come s.time order.at t behind off) in
    due-or_none s (m + 1) order orders undone none ∙ ap (λ n. then_some (is_due s (n, order)) (n, order)) (omega arith)
due-from s setup next seconds m (order ∷ orders) (suc n) ok before here =
    let p = and_parts (nat_le seconds order.at.seconds) _ ok in
    let q = and_parts (is_act setup next order.act) _ p.1 in
    let miss : is_due s (m + 1, order) ≡ false = done-not_due s (m + 1) order (flag s m ∙ (ap (done_at s) (omega arith) ∙ before 0 (omega arith))) in
    let later = due-from s setup (next + entered_by setup order.act) order.at.seconds (m + 1) orders n q.1
    (λ k less. ap (done_at s) (omega arith) ∙ before (suc k) (omega (arith, less))) (ap (done_at s) (omega arith) ∙ here) in
    rw miss (later ∙ ap (λ j. option_and_then (λ o. then_some (is_due s (j, o)) (j, o)) (slice_get orders n)) (omega arith))

command-of : (s : State) (n : ℕ) (o : Option Order)
    → option_map (λ (order : ℕ × Order). event.Command order.0) (option_and_then (λ order. then_some (is_due s (n, order)) (n, order)) o)
    ≡ option_and_then (λ order. then_some (is_due s (n, order)) (event.Command n)) o
command-of s n None = refl
command-of s n (Some order) = by (is_due s (n, order)) where
  by : (b : Bool) → option_map (λ (order : ℕ × Order). event.Command order.0) (then_some b (n, order)) ≡ then_some b (event.Command n)
  by true = refl
  by false = refl

pub forced-at : (plan : Plan) (s : State) (place : ℕ) → IsFirstUndone s place
    → forced_command plan s ≡ option_and_then (λ order. then_some (is_due s (place + 1, order)) (event.Command (place + 1))) (slice_get plan.script.commands place)
unfolding forced_command
forced-at plan s place undone =
    let found = due-from s plan.setup 1 0 0 plan.script.commands place plan.commands
    (λ k less. ap (done_at s) (omega arith) ∙ undone.before k less) (ap (done_at s) (omega arith) ∙ undone.here) in
    ap (λ o. option_map (λ (order : ℕ × Order). event.Command order.0) o) found
    ∙ (command-of s (0 + place + 1) (slice_get plan.script.commands place)
    ∙ ap (λ j. option_and_then (λ order. then_some (is_due s (j, order)) (event.Command j)) (slice_get plan.script.commands place)) (omega arith))
