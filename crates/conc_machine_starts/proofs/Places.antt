-- What the lists that are kept say of a place.
use Rattle.std.proofs.Common.{◌≡◌, ℕ, ◌-◌, ◌<◌, ◌==◌, Bool, true, false, not, ◌&&◌, Option, None, Some, map, refl, sym, ◌∙◌, ap}
use Rattle.std.specs.Prelude.{slice_get, unwrap_or}
use Rattle.std.specs.Option.{option_and_then, option_map, option_map_or}
use Rattle.std.proofs.lemmas.Option.{slice_get-map}
use Rattle.conc_types.specs.declared.event.Moment.{Moment}
use Rattle.conc_types.specs.declared.event.PlaceId.{PlaceId}
use Rattle.conc_types.specs.declared.facts.State.{State}
use Rattle.conc_types.specs.declared.plan.Plan.{Plan}
use Rattle.conc_types.specs.declared.plan.Req.{Req}
use Rattle.conc_types.specs.Words.{some_and}
use Rattle.conc_base_law.specs.Managers.{admits}
use Rattle.conc_base_law.specs.Next.{is_vacant, may_start, runs_at}
use Rattle.conc_base_law.specs.Places.{all_places, count_of_places, is_usable, Place, place_of}
use Rattle.conc_base_law.specs.State.{facts_at, is_running}
use Rattle.conc_event_queue.specs.Turns.{turns_of}
use Rattle.conc_machine_starts.specs.declared.starts.Starts.{Starts}
use Rattle.conc_machine_starts.specs.Starts.{AreStarts, is_usable_now, may_start_under, owner_of, running_at}
use Rattle.conc_machine_starts.specs.Updates.{is_open, manager_at, queue_at}
use Rattle.conc_machine_starts.proofs.Counts.{none-kept}
use Rattle.conc_machine_starts.proofs.Owners.{place_of-none, place_of-some}
use Rattle.conc_machine_starts.proofs.Ranges.{place-at, place-past}

-- the manager that has the place
pub manager_at-is : (plan : Plan) (s : State) (starts : Starts) (place : PlaceId) → AreStarts plan s starts
    → manager_at plan starts place ≡ option_map (λ p. p.manager) (place_of plan place)
unfolding manager_at owner_of
manager_at-is plan s starts place are = by (place_of plan place) refl where
  by : (o : Option Place) → place_of plan place ≡ o
      → option_and_then (slice_get plan.setup.managers) (slice_get starts.owners place.index) ≡ option_map (λ p. p.manager) o
  by None is =
      ap (λ l. option_and_then (slice_get plan.setup.managers) (slice_get l place.index)) are.owners
      ∙ ap (option_and_then (slice_get plan.setup.managers)) (place-past plan (owner_of plan) place (place_of-none plan place is))
  by (Some p) is =
      let at : (slice_get plan.setup.managers (p.owner - 1) ≡ Some p.manager) × (place.index < _) = place_of-some plan place p is in
      ap (λ l. option_and_then (slice_get plan.setup.managers) (slice_get l place.index)) are.owners
      ∙ ap (option_and_then (slice_get plan.setup.managers)) (place-at plan (owner_of plan) place at.1)
      ∙ ap (λ o. slice_get plan.setup.managers (option_map_or (λ q. q.owner - 1) o 0)) is
      ∙ at.0

-- its queue
pub queue_at-is : (plan : Plan) (s : State) (starts : Starts) (place : PlaceId) → AreStarts plan s starts
    → queue_at starts place ≡ option_map (λ manager. turns_of (may_start_under s manager) plan.requests) (manager_at plan starts place)
unfolding queue_at manager_at
queue_at-is plan s starts place are =
    ap (λ l. option_and_then (slice_get l) (slice_get starts.owners place.index)) are.queues ∙ by (slice_get starts.owners place.index) where
      by : (o : Option ℕ)
          → option_and_then (slice_get (map (λ manager. turns_of (may_start_under s manager) plan.requests) plan.setup.managers)) o
          ≡ option_map (λ manager. turns_of (may_start_under s manager) plan.requests) (option_and_then (slice_get plan.setup.managers) o)
      by None = refl
      by (Some owner) = slice_get-map (λ manager. turns_of (may_start_under s manager) plan.requests) plan.setup.managers owner

-- no place beyond the list may be used
unusable : (plan : Plan) (s : State) (place : PlaceId) → place_of plan place ≡ None → is_usable_now plan s place ≡ false
unfolding is_usable_now is_usable
unusable plan s place none = by s.time where
  by : (o : Option Moment) → some_and (λ t. is_usable plan t place) o ≡ false
  by None = refl
  by (Some t) = rw none refl

-- the place may be used, and none runs there
pub is_open-is : (plan : Plan) (s : State) (starts : Starts) (place : PlaceId) → AreStarts plan s starts
    → is_open starts place ≡ (is_usable_now plan s place && is_vacant plan s place)
unfolding is_open is_vacant running_at
is_open-is plan s starts place are = by (place_of plan place) refl where
  lists : is_open starts place
      ≡ (unwrap_or (slice_get (map (is_usable_now plan s) (all_places plan)) place.index) false && some_and (λ n. n == 0) (slice_get (map (running_at plan s) (all_places plan)) place.index))
  lists = rw (are.usable, are.running) refl

  by : (o : Option Place) → place_of plan place ≡ o → is_open starts place ≡ (is_usable_now plan s place && is_vacant plan s place)
  by None is =
      lists
      ∙ ap (λ o. unwrap_or o false && some_and (λ n. n == 0) (slice_get (map (running_at plan s) (all_places plan)) place.index))
      (place-past plan (is_usable_now plan s) place (place_of-none plan place is))
      ∙ ap (λ b. b && is_vacant plan s place) (sym (unusable plan s place is))
  by (Some p) is =
      let within : place.index < count_of_places plan = (place_of-some plan place p is).1 in
      lists
      ∙ ap (λ o. unwrap_or o false && some_and (λ n. n == 0) (slice_get (map (running_at plan s) (all_places plan)) place.index)) (place-at plan (is_usable_now plan s) place within)
      ∙ ap (λ o. is_usable_now plan s place && some_and (λ n. n == 0) o) (place-at plan (running_at plan s) place within)
      ∙ ap (λ b. is_usable_now plan s place && b) (none-kept (runs_at s place) plan.requests)

-- a request may start at the place: it is let and does not run, the place is open, and its manager admits it
pub may_start_is : (plan : Plan) (s : State) (starts : Starts) (r : Req) (place : PlaceId) → AreStarts plan s starts
    → may_start plan s r place
    ≡ ((facts_at s r).let_out && (not (is_running (facts_at s r)) && (is_open starts place && some_and (λ manager. admits manager r) (manager_at plan starts place))))
unfolding may_start is_usable_now
may_start_is plan s starts r place are =
    rw (is_open-is plan s starts place are, manager_at-is plan s starts place are)
    (turned (facts_at s r).let_out (not (is_running (facts_at s r))) (is_usable_now plan s place) (is_vacant plan s place) (place_of plan place)) where
      turned : (a b c d : Bool) (o : Option Place)
          → (a && (b && (some_and (λ p. admits p.manager r) o && (c && d))))
          ≡ (a && (b && ((c && d) && some_and (λ manager. admits manager r) (option_map (λ p. p.manager) o))))
      turned a b c d None = ap (λ x. a && (b && x)) (last_false (c && d)) where
        last_false : (x : Bool) → false ≡ (x && false)
        last_false true = refl
        last_false false = refl
      turned a b c d (Some p) = ap (λ x. a && (b && x)) (swap (admits p.manager r) (c && d)) where
        swap : (x y : Bool) → (x && y) ≡ (y && x)
        swap true true = refl
        swap true false = refl
        swap false true = refl
        swap false false = refl
