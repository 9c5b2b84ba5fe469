-- At a desk: its invariant says what the law asks for.
use Rattle.std.proofs.Common.{◌≡◌, ◌⊎◌, true, List, Option, None, Some, reverse, sym, subst}
use Rattle.conc_types.specs.declared.event.Event.{Event}
use Rattle.conc_types.specs.declared.event.Event.TheVariants as event
use Rattle.conc_types.specs.declared.plan.Plan.{Plan}
use Rattle.conc_types.specs.declared.script.Reading.{Reading}
use Rattle.conc_types.specs.declared.script.Readings.{Readings}
use Rattle.conc_base_law.specs.Law.{Finished, is_lawful}
use Rattle.conc_base_law.proofs.Options.{map-some}
use Rattle.conc_board.specs.declared.lead.Lead.{Lead}
use Rattle.conc_machine.specs.declared.life.LifeReadings.{LifeReadings}
use Rattle.conc_pool_seats.specs.Rule.{BoardState}
use Rattle.conc_run_state.specs.Machines.{Machine, readings_of}
use Rattle.conc_run_state.specs.Works.{list_in}
use Rattle.conc_run_state.specs.declared.work.Work.{Work}
use Rattle.conc_run_steps.specs.Steps.{IsFinished, plan_in, readings_in}
use Rattle.conc_run_desk.specs.Kept.{MayBeKept}
use Rattle.conc_run_desk.specs.State.{IsDesk}
use Rattle.conc_run_progress.specs.Runs.{WhatRunsHasTheGo}
use Rattle.conc_run_progress.specs.Progress.{IsCrewed, IsGoingOn, KeptMayCome, SomebodyCanGoOn}
use Rattle.conc_run_progress.proofs.Alive.{alive}

-- the readings that a machine took
taken : (machine : Machine) (readings : List Reading) → readings_of machine ≡ Some readings → (r : Readings) × (r.list ≡ readings)
unfolding readings_of
taken machine readings known =
    let life = map-some (λ (l : LifeReadings). l.readings.list) machine.life readings known in
    (life.0.readings, life.2)

-- the end that a desk keeps
kept_there : (kept : Option Event) (work : Work) (lead : Lead) → MayBeKept kept work lead → KeptMayCome (plan_in work) (readings_in work) (list_in work) kept
kept_there None work lead may = tt
kept_there (Some (event.Ended r o x)) work lead may = may.0
kept_there (Some _) work lead may = absurd may

-- what the law says, of the list of a work
abbrev IsAlive : Plan → List Reading → Work → Option Event → Lead → BoardState → Type 0
IsAlive plan readings work kept lead s = Finished plan readings (list_in work) ⊎ SomebodyCanGoOn plan readings (list_in work) kept lead s

own_alive : (work : Work) (kept : Option Event) (lead : Lead) (s : BoardState) → IsDesk (plan_in work) lead work kept → WhatRunsHasTheGo (plan_in work) (reverse (list_in work)) kept lead
    → IsCrewed (plan_in work) lead s → IsAlive (plan_in work) (readings_in work) work kept lead s
own_alive work kept lead s desk runs crew =
    let r = taken work.machine (readings_in work) desk.parts.readings_are in
    let going : IsGoingOn (plan_in work) r.0 (list_in work) kept lead s = record {
      lawful = subst (λ (l : List Reading). is_lawful (plan_in work) l (reverse (list_in work)) ≡ true) (sym r.1) desk.parts.lawful;
      kept_may_come = subst (λ (l : List Reading). KeptMayCome (plan_in work) l (list_in work) kept) (sym r.1) (kept_there kept work lead desk.may_be_kept);
      seated = desk.seated;
      tied = desk.tied;
      runs = runs;
      crew = crew;
    } in
    subst (λ (l : List Reading). IsAlive (plan_in work) l work kept lead s) r.1 (alive (plan_in work) r.0 (list_in work) kept lead s going)

pub desk_alive : (plan : Plan) (work : Work) (kept : Option Event) (lead : Lead) (s : BoardState) → IsDesk plan lead work kept → WhatRunsHasTheGo plan (reverse (list_in work)) kept lead
    → IsCrewed plan lead s → IsFinished work ⊎ SomebodyCanGoOn plan (readings_in work) (list_in work) kept lead s
desk_alive plan work kept lead s desk =
    subst (λ (p : Plan). IsDesk p lead work kept → WhatRunsHasTheGo p (reverse (list_in work)) kept lead → IsCrewed p lead s → IsFinished work ⊎ SomebodyCanGoOn p (readings_in work) (list_in work) kept lead s)
    (sym desk.plan_is) (own_alive work kept lead s) desk
