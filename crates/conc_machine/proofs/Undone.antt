-- The first command that is not done is the first that is due, where one is.
use Rattle.std.proofs.Common.{◌≡◌, ℕ, zero, suc, ◌+◌, ◌<◌, ◌≤◌, Bool, true, false, not, List, [], ◌∷◌, length, take, Option, None, Some, refl, sym, ◌∙◌, ap, inl, inr, arith}
use Rattle.std.specs.Prelude.{get_or, nat_le, slice_get, unwrap_or}
use Rattle.std.specs.Bool.{then_some}
use Rattle.std.specs.List.{enumerate_from, find, list_all}
use Rattle.std.specs.Option.{option_and_then, option_map}
use Rattle.std.proofs.lemmas.Bool.{and_parts, and_left, and_right, both_ways, cases_Bool, leb-true}
use Rattle.std.proofs.lemmas.Bool.Decides.{nat_tests}
use Rattle.conc_types.specs.declared.event.Event.TheVariants as event
use Rattle.conc_types.specs.declared.event.Moment.{Moment}
use Rattle.conc_types.specs.declared.facts.State.{State}
use Rattle.conc_types.specs.declared.plan.Plan.{Plan}
use Rattle.conc_types.specs.declared.script.Order.{Order}
use Rattle.conc_types.specs.declared.setup.Setup.{Setup}
use Rattle.conc_types.specs.Scripts.{are_commands_from, entered_by, is_act}
use Rattle.conc_types.specs.Words.{numbered}
use Rattle.conc_base_law.specs.Next.{forced_command, is_due}
use Rattle.conc_base_law.specs.State.{has_come}
use Rattle.conc_base_law.proofs.Numbering.{numbered-at}
use Rattle.conc_machine.specs.Indexes.{first_undone}

-- ---- the first that is not done

-- all before it are done
pub all_before : (n : ℕ) (done : List Bool) → n ≡ first_undone done → list_all (λ d. d) (take n done) ≡ true
all_before n [] e = rw e refl
all_before n (false ∷ done) e = rw e refl
all_before n (true ∷ done) e = rw e (all_before (first_undone done) done refl)

-- it is among the commands, or behind all
pub first_undone-few : (done : List Bool) → first_undone done ≤ length done
first_undone-few [] = omega arith
first_undone-few (false ∷ done) = omega arith
first_undone-few (true ∷ done) = let later : first_undone done ≤ length done = first_undone-few done in omega (arith, later)

-- one that is not done, before which all are, is the first
pub first_undone-is : (n : ℕ) (done : List Bool) (other : Bool) → list_all (λ d. d) (take n done) ≡ true → n ≤ length done → (n < length done → get_or done n other ≡ false)
    → n ≡ first_undone done
first_undone-is zero [] other all few here = refl
first_undone-is zero (true ∷ done) other all few here = absurd (both_ways true (here (omega arith)) refl)
first_undone-is zero (false ∷ done) other all few here = refl
first_undone-is (suc n) [] other all few here = absurd (omega (arith, few))
first_undone-is (suc n) (false ∷ done) other all few here = absurd (both_ways false refl (and_parts false (list_all (λ d. d) (take n done)) all).0)
first_undone-is (suc n) (true ∷ done) other all few here =
    ap suc (first_undone-is n done other (and_parts true (list_all (λ d. d) (take n done)) all).1 (omega (arith, few)) (λ below. here (omega (arith, below))))

-- ---- due

-- each of the commands is not before a moment
come_later : (s : State) (setup : Setup) (next seconds m : ℕ) (orders : List Order) → are_commands_from setup next seconds orders ≡ true
    → ((t : Moment) → seconds ≤ t.seconds → has_come s.time t ≡ false) → find (is_due s) (enumerate_from m orders) ≡ None
unfolding is_due
come_later s setup next seconds m [] ok late = refl
come_later s setup next seconds m (order ∷ orders) ok late =
    let p : (nat_le seconds order.at.seconds ≡ true) × (_ ≡ true) = and_parts (nat_le seconds order.at.seconds) _ ok in
    let q : _ × (are_commands_from setup (next + entered_by setup order.act) order.at.seconds orders ≡ true) = and_parts (is_act setup next order.act) _ p.1 in
    let above : seconds ≤ order.at.seconds = leb-true _ _ p.0 in
    let miss : is_due s (m, order) ≡ false = and_right _ _ (late order.at above) in
    rw miss (come_later s setup (next + entered_by setup order.act) order.at.seconds (m + 1) orders q.1 (λ t behind. late t (omega (arith, above, behind))))

-- a moment has not come where one before it has not
not_come : (time : Option Moment) (t u : Moment) → t.seconds ≤ u.seconds → has_come time t ≡ false → has_come time u ≡ false
unfolding has_come
not_come None t u behind h = refl
not_come (Some n) t u behind h = grind (arith, nat_tests)

-- a command that is done is not due
is_done-not_due : (s : State) (n : ℕ) (order : Order) → unwrap_or (numbered s.done n) false ≡ true → is_due s (n, order) ≡ false
unfolding is_due
is_done-not_due s n order done = and_left _ _ (ap not done)

-- one that is not done is due where its moment has come, and else none behind it is
first_or : (s : State) (n : ℕ) (order : Order) (orders : List Order) → unwrap_or (numbered s.done n) false ≡ false
    → (has_come s.time order.at ≡ false → find (is_due s) (enumerate_from (n + 1) orders) ≡ None)
    → find (is_due s) ((n, order) ∷ enumerate_from (n + 1) orders) ≡ then_some (is_due s (n, order)) (n, order)
unfolding is_due
first_or s n order orders undone none = elim (cases_Bool (has_come s.time order.at)) [
  | inl on ↦ rw (undone, on) refl
  | inr off ↦ rw (undone, off) (none off)
]

-- the first that is due is the first that is not done, where its moment has come. The commands begin at a place
due_from : (s : State) (setup : Setup) (next seconds m : ℕ) (orders : List Order) (done : List Bool) → are_commands_from setup next seconds orders ≡ true
    → ((k : ℕ) → unwrap_or (numbered s.done (m + 1 + k)) false ≡ get_or done k false) → length done ≡ length orders
    → find (is_due s) (enumerate_from (m + 1) orders)
    ≡ option_and_then (λ order. then_some (is_due s (m + 1 + first_undone done, order)) (m + 1 + first_undone done, order)) (slice_get orders (first_undone done))
due_from s setup next seconds m [] done ok flags same = refl
due_from s setup next seconds m (order ∷ orders) [] ok flags same = absurd (cc same)
due_from s setup next seconds m (order ∷ orders) (true ∷ done) ok flags same =
    let first : unwrap_or (numbered s.done (m + 1)) false ≡ true = ap (λ n. unwrap_or (numbered s.done n) false) (omega arith) ∙ flags 0 in
    let miss : is_due s (m + 1, order) ≡ false = is_done-not_due s (m + 1) order first in
    let p : (nat_le seconds order.at.seconds ≡ true) × (_ ≡ true) = and_parts (nat_le seconds order.at.seconds) _ ok in
    let q : _ × (are_commands_from setup (next + entered_by setup order.act) order.at.seconds orders ≡ true) = and_parts (is_act setup next order.act) _ p.1 in
    let later : find (is_due s) (enumerate_from (m + 1 + 1) orders)
    ≡ option_and_then (λ o. then_some (is_due s (m + 1 + 1 + first_undone done, o)) (m + 1 + 1 + first_undone done, o)) (slice_get orders (first_undone done)) =
    due_from s setup (next + entered_by setup order.act) order.at.seconds (m + 1) orders done q.1
    (λ k. ap (λ n. unwrap_or (numbered s.done n) false) (omega arith) ∙ flags (suc k)) (omega (arith, same)) in
    rw miss (later ∙ ap (λ n. option_and_then (λ o. then_some (is_due s (n, o)) (n, o)) (slice_get orders (first_undone done))) (omega arith))
due_from s setup next seconds m (order ∷ orders) (false ∷ done) ok flags same =
    let first : unwrap_or (numbered s.done (m + 1)) false ≡ false = ap (λ n. unwrap_or (numbered s.done n) false) (omega arith) ∙ flags 0 in
    let p : (nat_le seconds order.at.seconds ≡ true) × (_ ≡ true) = and_parts (nat_le seconds order.at.seconds) _ ok in
    let q : _ × (are_commands_from setup (next + entered_by setup order.act) order.at.seconds orders ≡ true) = and_parts (is_act setup next order.act) _ p.1 in
    let none : has_come s.time order.at ≡ false → find (is_due s) (enumerate_from (m + 1 + 1) orders) ≡ None =
    λ off. come_later s setup (next + entered_by setup order.act) order.at.seconds (m + 1 + 1) orders q.1 (λ t behind. not_come s.time order.at t behind off) in
    first_or s (m + 1) order orders first none ∙ ap (λ n. then_some (is_due s (n, order)) (n, order)) (omega arith)

-- ---- of a plan

-- a flag, or none behind the end
flag_at : (done : List Bool) (k : ℕ) → unwrap_or (slice_get done k) false ≡ get_or done k false
flag_at [] k = refl
flag_at (d ∷ done) zero = refl
flag_at (d ∷ done) (suc k) = flag_at done k

command_of : (s : State) (n m : ℕ) (o : Option Order) → n ≡ m
    → option_map (λ (order : ℕ × Order). event.Command order.0) (option_and_then (λ order. then_some (is_due s (n, order)) (n, order)) o)
    ≡ option_and_then (λ order. then_some (is_due s (m, order)) (event.Command m)) o
command_of s n m None same = refl
command_of s n m (Some order) same = rw same (by (is_due s (m, order))) where
  by : (b : Bool) → option_map (λ (order : ℕ × Order). event.Command order.0) (then_some b (m, order)) ≡ then_some b (event.Command m)
  by true = refl
  by false = refl

-- the command that is forced is the first that is not done, where it is due
pub forced-first : (plan : Plan) (s : State) (next : ℕ) → length s.done ≡ length plan.script.commands → next ≡ first_undone s.done
    → option_and_then (λ order. then_some (is_due s (next + 1, order)) (event.Command (next + 1))) (slice_get plan.script.commands next) ≡ forced_command plan s
unfolding forced_command
forced-first plan s next same is =
    let flags : (k : ℕ) → unwrap_or (numbered s.done (0 + 1 + k)) false ≡ get_or s.done k false =
    λ k. ap (λ o. unwrap_or o false) (numbered-at s.done (0 + 1 + k) k (omega arith)) ∙ flag_at s.done k in
    let found : _ = due_from s plan.setup 1 0 0 plan.script.commands s.done plan.commands flags same in
    rw is (sym (ap (λ o. option_map (λ (order : ℕ × Order). event.Command order.0) o) found ∙ command_of s (0 + 1 + first_undone s.done) (first_undone s.done + 1) (slice_get plan.script.commands (first_undone s.done)) (omega arith)))
