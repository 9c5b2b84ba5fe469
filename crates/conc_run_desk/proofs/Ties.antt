-- One more event, and what goes with the lead state of a request.
use Rattle.std.proofs.Common.{◌≡◌, ◌||◌, Bool, is_some, true, false, List, ◌∷◌, Option, None, Some, refl, sym, ◌∙◌, ap, subst}
use Rattle.std.specs.Bool.{then_some}
use Rattle.std.proofs.lemmas.Bool.{and_from, both_ways, not_from_false, or_left, or_parts, or_right}
use Rattle.conc_types.specs.declared.event.Event.{Event}
use Rattle.conc_types.specs.declared.event.Event.TheVariants as event
use Rattle.conc_types.specs.declared.event.PlaceId.{PlaceId}
use Rattle.conc_types.specs.declared.event.RequestId.{RequestId}
use Rattle.conc_types.specs.declared.plan.Plan.{Plan}
use Rattle.conc_types.specs.declared.plan.Req.{Req}
use Rattle.conc_types.specs.declared.script.Reading.{Reading}
use Rattle.conc_types.specs.Words.{some_and}
use Rattle.conc_base_law.specs.Facts.{facts_of, is_let, running_place, runs, terminates, unlets, was_started, was_terminated}
use Rattle.conc_base_law.specs.Kinds.{act_of, is_resume, is_terminate, start_place, starts, ends_run}
use Rattle.conc_base_law.specs.Before.{last_life, occurs}
use Rattle.conc_base_law.specs.Law.{may_follow}
use Rattle.conc_base_law.specs.State.{state}
use Rattle.conc_base_law.specs.Words.{Has, id_eq}
use Rattle.conc_base_law.proofs.Comes.{may_start-parts, start_comes}
use Rattle.conc_base_law.proofs.EqualEvents.{eqb-refl, id_same}
use Rattle.conc_base_law.proofs.FactsAt.{facts_at-state, is_running-state}
use Rattle.conc_base_law.proofs.Stops.{end_runs, interrupt_left, interrupt_runs}
use Rattle.conc_run_desk.specs.Ties.{RunsAt, WaitsToStart}

-- ---- the place of a start

-- an event that does not start the request tells no place of it
no_place : (r : RequestId) (e : Event) → starts r e ≡ false → start_place r e ≡ None
no_place r (event.Started q p) other = ap (λ b. then_some b p) other
no_place r _ other = refl

place_stays : (past : List Event) (r : RequestId) (e : Event) → starts r e ≡ false → ends_run r e ≡ false → running_place (e ∷ past) r ≡ running_place past r
unfolding running_place
place_stays past r e no_start no_stop = rw (no_place r e no_start, no_stop) refl

-- ---- what was started

started_on : (past : List Event) (e : Event) (r : RequestId) → is_resume e ≡ false → was_started past r ≡ true → was_started (e ∷ past) r ≡ true
unfolding was_started last_life
started_on past e r no_resume was = rw no_resume (or_right (starts r e) (occurs (starts r) (last_life past)) was)

started_now : (past : List Event) (r : RequestId) (p : PlaceId) → was_started (event.Started r p ∷ past) r ≡ true
unfolding was_started last_life
started_now past r p = or_left (id_eq r r) (occurs (starts r) (last_life past)) (eqb-refl r.number)

placed_now : (past : List Event) (r : RequestId) (p : PlaceId) → running_place (event.Started r p ∷ past) r ≡ Some p
unfolding running_place
placed_now past r p = rw (eqb-refl r.number) refl

-- ---- one more event

module _ (plan : Plan) (past : List Event) (e : Event) (r : Req) where
  -- a request that waits to start does so still, unless the event starts or unlets it
  pub waits_on : starts r.number e ≡ false → unlets plan r past e ≡ false → WaitsToStart (facts_of plan past r) → WaitsToStart (facts_of plan (e ∷ past) r)
  unfolding facts_of is_let unlets
  waits_on no_start stays waits = record {
    let_out = or_right _ _ (and_from _ _ (not_from_false _ stays) waits.let_out);
    place = place_stays past r.number e no_start (or_parts (ends_run r.number e) _ stays).0 ∙ waits.place;
  }

  -- a request that runs does so still, unless the event starts it or ends its run
  pub runs_on : (p : PlaceId) (marked : Bool) → starts r.number e ≡ false → ends_run r.number e ≡ false → is_resume e ≡ false
      → RunsAt p marked (facts_of plan past r) → RunsAt p marked (facts_of plan (e ∷ past) r)
  unfolding facts_of was_terminated
  runs_on p marked no_start no_stop no_resume runs = record {
    place_is = place_stays past r.number e no_start no_stop ∙ runs.place_is;
    started = started_on past e r.number no_resume runs.started;
    terminated = λ m. or_right _ _ (and_from _ _ (not_from_false _ no_start) (runs.terminated m));
  }

  -- a terminate of a request that runs takes effect
  pub terminated_now : (p : PlaceId) → some_and (is_terminate r.number) (act_of plan e) ≡ true
      → RunsAt p false (facts_of plan past r) → (facts_of plan (e ∷ past) r).terminated ≡ true
  unfolding facts_of was_terminated terminates runs
  terminated_now p is at = or_left _ _ (and_from _ _ is (ap (λ (o : Option PlaceId). is_some o) at.place_is))

  -- a request that was started in this life was so still
  pub done_on : is_resume e ≡ false → (facts_of plan past r).started ≡ true → (facts_of plan (e ∷ past) r).started ≡ true
  unfolding facts_of
  done_on no_resume was = started_on past e r.number no_resume was

-- a request that starts runs
pub starts_to_run : (plan : Plan) (past : List Event) (r : Req) (p : PlaceId) → RunsAt p false (facts_of plan (event.Started r.number p ∷ past) r)
unfolding facts_of
starts_to_run plan past r p = record {
  place_is = placed_now past r.number p;
  started = started_now past r.number p;
  terminated = λ m. cc;
}

-- ---- what may not come

or_nothing : (b : Bool) → (b || false) ≡ true → b ≡ true
or_nothing true h = h
or_nothing false h = h

module _ (plan : Plan) (readings : Option (List Reading)) (past : List Event) (r : Req) (hr : Has plan.requests r) where
  -- no event ends the run of a request that waits to start
  pub waits_not_stopped : (e : Event) → may_follow plan readings past e ≡ true → WaitsToStart (facts_of plan past r) → ends_run r.number e ≡ false
  unfolding facts_of runs
  waits_not_stopped e may waits = by (ends_run r.number e) refl where
    idle : runs past r.number ≡ false
    idle = ap (λ (o : Option PlaceId). is_some o) waits.place

    never : (d : Event) → may_follow plan readings past d ≡ true → ends_run r.number d ≡ true → ⊥
    never (event.Ended q o x) m h =
        let same = id_same q r.number (or_nothing (id_eq q r.number) h) in
        both_ways (runs past r.number) idle (end_runs plan readings past r o x hr (subst (λ z. may_follow plan readings past (event.Ended z o x) ≡ true) same m))
    never (event.Interrupt q) m h =
        let same = id_same q r.number h in
        both_ways (runs past r.number) idle (interrupt_runs plan readings past r hr (subst (λ z. may_follow plan readings past (event.Interrupt z) ≡ true) same m))
    never _ m h = cc

    by : (b : Bool) → ends_run r.number e ≡ b → ends_run r.number e ≡ false
    by true h = absurd (never e may h)
    by false h = h

  -- no event starts a request that runs, and none interrupts one that was started in this life
  pub runs_not_started : (e : Event) (p : PlaceId) (marked : Bool) → may_follow plan readings past e ≡ true → RunsAt p marked (facts_of plan past r) → starts r.number e ≡ false
  unfolding facts_of runs
  runs_not_started e p marked may at = by (starts r.number e) refl where
    run : runs past r.number ≡ true
    run = ap (λ (o : Option PlaceId). is_some o) at.place_is

    never : (d : Event) → may_follow plan readings past d ≡ true → starts r.number d ≡ true → ⊥
    never (event.Started q u) m h =
        let same = id_same q r.number h in
        let parts = may_start-parts plan (state plan past) r u (start_comes plan readings past r u hr (subst (λ z. may_follow plan readings past (event.Started z u) ≡ true) same m)) in
        both_ways (runs past r.number) (sym (is_running-state plan past r hr) ∙ parts.1) run
    never _ m h = cc

    by : (b : Bool) → starts r.number e ≡ b → starts r.number e ≡ false
    by true h = absurd (never e may h)
    by false h = h

  pub runs_not_interrupted : (q : RequestId) → may_follow plan readings past (event.Interrupt q) ≡ true → (facts_of plan past r).started ≡ true → id_eq q r.number ≡ false
  runs_not_interrupted q may started = by (id_eq q r.number) refl where
    by : (b : Bool) → id_eq q r.number ≡ b → id_eq q r.number ≡ false
    by true h =
        let same = id_same q r.number h in
        let left = interrupt_left plan readings past r hr (subst (λ z. may_follow plan readings past (event.Interrupt z) ≡ true) same may) in
        absurd (both_ways (facts_of plan past r).started (sym (ap (λ f. f.started) (facts_at-state plan past r hr)) ∙ left.1) started)
    by false h = h
