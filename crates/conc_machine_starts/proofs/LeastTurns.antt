-- The least turn of the requests that may start.
use Rattle.std.proofs.Common.{◌≡◌, ℕ, suc, ◌+◌, Bool, true, false, not, ◌&&◌, List, Option, None, Some, map, refl, sym, ◌∙◌, ap}
use Rattle.std.specs.Bool.{then_some}
use Rattle.std.specs.List.{list_any, range_with_len}
use Rattle.std.specs.Option.{option_and_then, option_map}
use Rattle.conc_types.specs.declared.event.PlaceId.{PlaceId}
use Rattle.conc_types.specs.declared.facts.State.{State}
use Rattle.conc_types.specs.declared.manager.Manager.{Manager}
use Rattle.conc_types.specs.declared.plan.Plan.{Plan}
use Rattle.conc_types.specs.declared.plan.Req.{Req}
use Rattle.conc_types.specs.Words.{some_and}
use Rattle.conc_base_law.specs.Managers.{admits}
use Rattle.conc_base_law.specs.Next.{may_start, may_start_somewhere}
use Rattle.conc_base_law.specs.Places.{all_places, count_of_places}
use Rattle.conc_base_law.specs.Plans.{precedes}
use Rattle.conc_base_law.specs.State.{facts_at, is_running}
use Rattle.conc_base_law.specs.Words.{first_by}
use Rattle.conc_event_queue.specs.Least.{least, lesser}
use Rattle.conc_event_queue.specs.Turns.{request_at_turn, turn, turns_of}
use Rattle.conc_event_queue.proofs.Firsts.{first-least}
use Rattle.conc_event_queue.proofs.LeastTurns.{least-or, least_of-none}
use Rattle.conc_machine_starts.specs.declared.starts.Starts.{Starts}
use Rattle.conc_machine_starts.specs.Starts.{AreStarts, may_start_under}
use Rattle.conc_machine_starts.specs.Updates.{is_open, manager_at, queue_at}
use Rattle.conc_machine_starts.proofs.Ranges.{map-agree}
use Rattle.conc_machine_starts.proofs.Places.{may_start_is, queue_at-is}

-- tests that agree give the same turns
pub turns-agree : (f g : Req → Bool) (rs : List Req) → ((r : Req) → g r ≡ f r) → turns_of g rs ≡ turns_of f rs
unfolding turns_of
turns-agree f g rs h = map-agree (λ r. then_some (f r) (turn r)) (λ r. then_some (g r) (turn r)) rs (λ r. ap (λ b. then_some b (turn r)) (h r))

-- ---- at a place

-- at a place that is not open none may start
pub least-closed : (plan : Plan) (s : State) (starts : Starts) (place : PlaceId) → AreStarts plan s starts → is_open starts place ≡ false
    → least (turns_of (λ r. may_start plan s r place) plan.requests) ≡ None
least-closed plan s starts place are closed =
    least_of-none (λ r. may_start plan s r place) plan.requests
    (λ r has. may_start_is plan s starts r place are ∙ ap (λ b. (facts_at s r).let_out && (not (is_running (facts_at s r)) && (b && some_and (λ manager. admits manager r) (manager_at plan starts place)))) closed
    ∙ off (facts_at s r).let_out (not (is_running (facts_at s r)))) where
      off : (a b : Bool) → (a && (b && false)) ≡ false
      off true true = refl
      off true false = refl
      off false b = refl

-- r is let and does not run, and the manager that there is admits it
abbrev under : State → Option Manager → Req → Bool
under s o r = (facts_at s r).let_out && (not (is_running (facts_at s r)) && some_and (λ manager. admits manager r) o)

least-under : (s : State) (rs : List Req) (o : Option Manager) → least (turns_of (under s o) rs)
    ≡ option_and_then least (option_map (λ manager. turns_of (may_start_under s manager) rs) o)
unfolding may_start_under
least-under s rs None = least_of-none (under s None) rs (λ r has. off (facts_at s r).let_out (not (is_running (facts_at s r)))) where
  off : (a b : Bool) → (a && (b && false)) ≡ false
  off true true = refl
  off true false = refl
  off false b = refl
least-under s rs (Some manager) = refl

-- at an open place those may start that its manager admits
pub least-open : (plan : Plan) (s : State) (starts : Starts) (place : PlaceId) → AreStarts plan s starts → is_open starts place ≡ true
    → least (turns_of (λ r. may_start plan s r place) plan.requests) ≡ option_and_then least (queue_at starts place)
least-open plan s starts place are opened =
    ap least (turns-agree (under s (manager_at plan starts place)) (λ r. may_start plan s r place) plan.requests
    (λ r. may_start_is plan s starts r place are
    ∙ ap (λ b. (facts_at s r).let_out && (not (is_running (facts_at s r)) && (b && some_and (λ manager. admits manager r) (manager_at plan starts place)))) opened))
    ∙ least-under s plan.requests (manager_at plan starts place)
    ∙ ap (option_and_then least) (sym (queue_at-is plan s starts place are))

-- ---- at some place

-- at one of some places: at the first of them or at a later one
pub least-more : (plan : Plan) (s : State) (from count rest : ℕ) → count ≡ suc rest
    → least (turns_of (λ r. list_any (may_start plan s r) (map (λ index. record { index = index }) (range_with_len from count))) plan.requests)
    ≡ lesser (least (turns_of (λ r. may_start plan s r (record { index = from })) plan.requests))
    (least (turns_of (λ r. list_any (may_start plan s r) (map (λ index. record { index = index }) (range_with_len (from + 1) rest))) plan.requests))
least-more plan s from count rest e =
    rw e
    (least-or (λ r. may_start plan s r (record { index = from }))
    (λ r. list_any (may_start plan s r) (map (λ index. record { index = index }) (range_with_len (from + 1) rest))) plan.requests)

-- at no place none may start
pub least-nowhere : (plan : Plan) (s : State) (from count : ℕ) → count ≡ 0
    → least (turns_of (λ r. list_any (may_start plan s r) (map (λ index. record { index = index }) (range_with_len from count))) plan.requests) ≡ None
least-nowhere plan s from count e = rw e (least_of-none (λ r. false) plan.requests (λ r has. refl))

-- the first request in precedence that may start somewhere has the least turn of those
pub first-somewhere : (plan : Plan) (s : State) (count : ℕ) → count ≡ count_of_places plan → first_by precedes (may_start_somewhere plan s) plan.requests
    ≡ option_and_then (request_at_turn plan)
    (least (turns_of (λ r. list_any (may_start plan s r) (map (λ index. record { index = index }) (range_with_len 0 count))) plan.requests))
unfolding may_start_somewhere all_places
first-somewhere plan s count e = rw e (first-least plan (may_start_somewhere plan s))
