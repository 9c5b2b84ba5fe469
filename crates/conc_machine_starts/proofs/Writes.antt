-- What one write to the state changes of what is kept.
use Rattle.std.proofs.Common.{◌≡◌, ℕ, zero, suc, ◌+◌, ◌-◌, ◌<◌, ◌≤◌, ◌==◌, min, All, Bool, false, List, [], ◌∷◌, Option, None, Some, Vec, length, map, set, refl, sym, ◌∙◌, ap, subst, arith}
use Rattle.std.specs.Prelude.{slice_get}
use Rattle.std.specs.Bool.{then_some}
use Rattle.std.specs.Option.{option_map}
use Rattle.std.specs.Vec.{with_items}
use Rattle.std.proofs.lemmas.List.{length-map, with_items_is}
use Rattle.std.proofs.lemmas.Bool.{eq-eqb, ne_eqb}
use Rattle.std.proofs.lemmas.Option.{slice_get-map}
use Rattle.conc_types.specs.declared.event.PlaceId.{PlaceId}
use Rattle.conc_types.specs.declared.facts.Facts.{Facts}
use Rattle.conc_types.specs.declared.facts.State.{State}
use Rattle.conc_types.specs.declared.manager.Manager.{Manager}
use Rattle.conc_types.specs.declared.plan.Plan.{Plan}
use Rattle.conc_types.specs.declared.plan.Req.{Req}
use Rattle.conc_types.specs.Words.{some_and}
use Rattle.conc_base_law.specs.Next.{runs_at}
use Rattle.conc_base_law.specs.Places.{all_places, is_usable}
use Rattle.conc_base_law.specs.State.{facts_at}
use Rattle.conc_base_law.proofs.Sums.{filter-within}
use Rattle.conc_event_queue.specs.Turns.{turn, turns_of}
use Rattle.conc_event_queue.specs.Written.{IsWritten}
use Rattle.conc_event_queue.proofs.Maps.{facts_at-before, facts_at-written, map-written}
use Rattle.conc_machine_starts.specs.declared.starts.Starts.{Starts}
use Rattle.conc_machine_starts.specs.Starts.{AreStarts, is_usable_now, may_start_under, running_at}
use Rattle.conc_machine_starts.specs.Updates.{key_of, with_one, without_one}
use Rattle.conc_machine_starts.proofs.Counts.{length-filter_trues, one_if, trues, trues-set}
use Rattle.conc_machine_starts.proofs.Ranges.{map-agree, place-set}

-- ---- queues

-- the turns under one manager
turns-written : (plan : Plan) (before after : State) (i : ℕ) (old : Facts) (r : Req) (manager : Manager) → IsWritten plan before after i old
    → slice_get plan.requests i ≡ Some r
    → turns_of (may_start_under after manager) plan.requests
    ≡ set (turns_of (may_start_under before manager) plan.requests) i (key_of (facts_at after r) manager r)
unfolding turns_of may_start_under key_of
turns-written plan before after i old r manager w at =
    map-written plan (λ q. then_some (may_start_under before manager q) (turn q)) (λ q. then_some (may_start_under after manager q) (turn q)) i r at
    (λ q has ne. rw (facts_at-written plan before after i old w q ne) refl)

-- each of the queues has a slot for a request
pub slots-there : (slots : Manager → List (Option ℕ)) (managers : List Manager) (i : ℕ) → ((manager : Manager) → i < length (slots manager))
    → All (λ queue. i < length queue) (map slots managers)
slots-there slots [] i each k d within = absurd (omega (arith, within))
slots-there slots (manager ∷ managers) i each zero d within = each manager
slots-there slots (manager ∷ managers) i each (suc k) d within = slots-there slots managers i each k d (omega (arith, within))

-- so have those that are kept
pub slots-kept : (plan : Plan) (s : State) (starts : Starts) (i : ℕ) → AreStarts plan s starts → i < length plan.requests → All (λ queue. i < length queue) starts.queues.items
unfolding turns_of
slots-kept plan s starts i are within =
    subst (All (λ queue. i < length queue)) (sym are.queues)
    (slots-there (λ manager. turns_of (may_start_under s manager) plan.requests) plan.setup.managers i
    (λ manager. omega (arith, within, length-map plan.requests (λ r. then_some (may_start_under s manager r) (turn r)))))

-- ---- counts

-- the facts say that a request runs at the place
runs_by : Facts → PlaceId → Bool
runs_by facts place = some_and (λ p. p.index == place.index) facts.place

-- how many requests run at a place, but for the one at an index
others_at : Plan → State → ℕ → PlaceId → ℕ
others_at plan s i place = trues (set (map (runs_at s place) plan.requests) i false)

running-before : (plan : Plan) (before after : State) (i : ℕ) (old : Facts) (r : Req) (place : PlaceId) → IsWritten plan before after i old
    → slice_get plan.requests i ≡ Some r
    → running_at plan before place ≡ others_at plan before i place + one_if (runs_by old place)
unfolding running_at others_at runs_by runs_at
running-before plan before after i old r place w at =
    let was : facts_at before r ≡ old = facts_at-before plan before after i old w r at in
    let own : slice_get (map (runs_at before place) plan.requests) i ≡ Some (runs_by old place) =
    slice_get-map (runs_at before place) plan.requests i ∙ ap (option_map (runs_at before place)) at ∙ ap (λ f. Some (runs_by f place)) was in
    let less : trues (set (map (runs_at before place) plan.requests) i false) + one_if (runs_by old place) ≡ trues (map (runs_at before place) plan.requests) + 0 =
    trues-set (map (runs_at before place) plan.requests) i (runs_by old place) false own in
    length-filter_trues (runs_at before place) plan.requests ∙ omega arith

running-after : (plan : Plan) (before after : State) (i : ℕ) (old : Facts) (r : Req) (place : PlaceId) → IsWritten plan before after i old
    → slice_get plan.requests i ≡ Some r
    → running_at plan after place ≡ others_at plan before i place + one_if (runs_by (facts_at after r) place)
unfolding running_at others_at runs_by runs_at
running-after plan before after i old r place w at =
    let own : slice_get (map (runs_at before place) plan.requests) i ≡ Some (runs_at before place r) =
    slice_get-map (runs_at before place) plan.requests i ∙ ap (option_map (runs_at before place)) at in
    let all : map (runs_at after place) plan.requests ≡ set (map (runs_at before place) plan.requests) i (runs_at after place r) =
    map-written plan (runs_at before place) (runs_at after place) i r at (λ q has ne. rw (facts_at-written plan before after i old w q ne) refl) in
    let none : trues (set (map (runs_at before place) plan.requests) i false) + one_if (runs_at before place r) ≡ trues (map (runs_at before place) plan.requests) + 0 =
    trues-set (map (runs_at before place) plan.requests) i (runs_at before place r) false own in
    let one : trues (set (map (runs_at before place) plan.requests) i (runs_at after place r)) + one_if (runs_at before place r) ≡ trues (map (runs_at before place) plan.requests) + one_if (runs_at after place r) =
    trues-set (map (runs_at before place) plan.requests) i (runs_at before place r) (runs_at after place r) own in
    length-filter_trues (runs_at after place) plan.requests ∙ ap trues all ∙ omega arith

-- one less at the place at which it ran
running-without : (plan : Plan) (f g : PlaceId → ℕ) (facts : Facts) → ((q : PlaceId) → f q ≡ g q + one_if (runs_by facts q))
    → map g (all_places plan) ≡ without_one (map f (all_places plan)) facts.place
unfolding runs_by
running-without plan f g facts h = by facts.place h where
  by : (o : Option PlaceId) → ((q : PlaceId) → f q ≡ g q + one_if (some_and (λ p. p.index == q.index) o)) → map g (all_places plan) ≡ without_one (map f (all_places plan)) o
  by None k = map-agree f g (all_places plan) (λ q. omega (arith, k q))
  by (Some place) k =
      place-set plan f g (λ n. n - 1) 0 place
      (λ q ne. let off : one_if (place.index == q.index) ≡ 0 = ap one_if (ne_eqb place.index q.index (λ e. ne (omega arith))) in omega (arith, k q))
      (let on : one_if (place.index == place.index) ≡ 1 = ap one_if (eq-eqb place.index place.index refl) in omega (arith, k place))

-- one more at the place at which it runs
running-with : (plan : Plan) (f g : PlaceId → ℕ) (facts : Facts) → ((q : PlaceId) → g q ≡ f q + one_if (runs_by facts q)) → ((q : PlaceId) → g q ≤ 16384)
    → map g (all_places plan) ≡ with_one (map f (all_places plan)) facts.place
unfolding runs_by
running-with plan f g facts h few = by facts.place h where
  by : (o : Option PlaceId) → ((q : PlaceId) → g q ≡ f q + one_if (some_and (λ p. p.index == q.index) o)) → map g (all_places plan) ≡ with_one (map f (all_places plan)) o
  by None k = map-agree f g (all_places plan) (λ q. omega (arith, k q))
  by (Some place) k =
      place-set plan f g (λ n. min (n + 1) 4294967295) 0 place
      (λ q ne. let off : one_if (place.index == q.index) ≡ 0 = ap one_if (ne_eqb place.index q.index (λ e. ne (omega arith))) in omega (arith, k q))
      (let on : one_if (place.index == place.index) ≡ 1 = ap one_if (eq-eqb place.index place.index refl) in omega (arith, k place, few place))

-- few run at a place
running-few : (plan : Plan) (s : State) (place : PlaceId) → running_at plan s place ≤ 16384
unfolding running_at
running-few plan s place = omega (arith, filter-within (runs_at s place) plan.requests, plan.few)

-- ---- all that is kept

-- what one write makes of what is kept
pub record AreWritten (plan : Plan) (after : State) (i : ℕ) (old : Facts) (r : Req) (starts next : Starts) : Type 0 where
  pub queues : (slots : Manager → List (Option ℕ)) → starts.queues.items ≡ map slots plan.setup.managers
      → next.queues.items ≡ map (λ manager. set (slots manager) i (key_of (facts_at after r) manager r)) plan.setup.managers
  pub owners : next.owners ≡ starts.owners
  pub running : next.running ≡ with_one (without_one starts.running old.place) (facts_at after r).place
  pub usable : next.usable ≡ starts.usable

pub starts-written : (plan : Plan) (before after : State) (i : ℕ) (old : Facts) (r : Req) (starts next : Starts) → slice_get plan.requests i ≡ Some r
    → AreWritten plan after i old r starts next → IsWritten plan before after i old → AreStarts plan before starts → AreStarts plan after next
unfolding is_usable_now
starts-written plan before after i old r starts next at made w are = record {
  queues =
      made.queues (λ manager. turns_of (may_start_under before manager) plan.requests) are.queues
      ∙ sym (map-agree (λ manager. set (turns_of (may_start_under before manager) plan.requests) i (key_of (facts_at after r) manager r))
      (λ manager. turns_of (may_start_under after manager) plan.requests) plan.setup.managers
      (λ manager. turns-written plan before after i old r manager w at));
  owners = made.owners ∙ are.owners;
  running =
      made.running
      ∙ ap (λ l. with_one (without_one l old.place) (facts_at after r).place) are.running
      ∙ ap (λ l. with_one l (facts_at after r).place)
      (sym (running-without plan (running_at plan before) (others_at plan before i) old (λ place. running-before plan before after i old r place w at)))
      ∙ sym (running-with plan (others_at plan before i) (running_at plan after) (facts_at after r) (λ place. running-after plan before after i old r place w at) (running-few plan after));
  usable =
      made.usable ∙ are.usable
      ∙ ap (λ time. map (λ place. some_and (λ t. is_usable plan t place) time) (all_places plan)) (sym w.time);
}

-- each item of a vector is written
pub all-written : {M X Z : Type 0} (v : Vec X Z) (ws : List X) (f g : M → X) (ms : List M) → v.items ≡ map f ms → ws ≡ map g ms → (with_items v ws).items ≡ map g ms
all-written v ws f g ms e k =
    with_items_is v ws (ap length k ∙ length-map ms g ∙ sym (length-map ms f) ∙ ap length (sym e) ∙ sym v.ok.0) ∙ k
