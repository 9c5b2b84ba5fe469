-- What a run without workers leaves at each step, and why it ends.
use Rattle.std.specs.Prelude.{ℕ, List, reverse, IsSomeAnd}
use Rattle.conc_types.specs.declared.digests.Digests.{Digests}
use Rattle.conc_types.specs.declared.event.Event.{Event}
use Rattle.conc_types.specs.declared.plan.Plan.{Plan}
use Rattle.conc_types.specs.declared.script.Reading.{Reading}
use Rattle.conc_base_law.specs.Alone.{next_alone}
use Rattle.conc_base_law.specs.Law.{Finished}
use Rattle.conc_disk.specs.Left.{EachImage}
use Rattle.conc_run_choice.specs.Choices.{IsEndWithReport}
use Rattle.conc_run_state.specs.Disks.{Disks}
use Rattle.conc_run_state.specs.Inputs.{IsBegunFor}
use Rattle.conc_run_state.specs.Lists.{GoesOnAlone}
use Rattle.conc_run_state.specs.Stored.{AreStored}
use Rattle.conc_run_state.specs.Works.{list_in, longest_in}
use Rattle.conc_run_state.specs.declared.work.Work.{Work}
use Rattle.conc_run_steps.specs.Steps.{FitInTurn, plan_in, readings_in}

-- Where a run without workers and without watchers may find no memory: at the report of the end that comes next.
abbrev pub LacksMemory : Plan → List Reading → List Event → Type 0
LacksMemory plan readings list = IsSomeAnd (next_alone plan readings (reverse list)) IsEndWithReport

-- so it may find none at a work, or at what came of one
abbrev pub LacksMemoryAt : Work → Type 0
LacksMemoryAt work = LacksMemory (plan_in work) (readings_in work) (list_in work)

abbrev pub LacksMemoryAfter : Work → Work → Type 0
LacksMemoryAfter old new = LacksMemory (plan_in old) (readings_in old) (list_in new)

-- each event that was added to a work, and the one whose append met a fault, is the one that comes next
abbrev pub GoesAlone : Work → Work → Type 0
GoesAlone old new = GoesOnAlone (plan_in old) (readings_in old) (list_in old) (longest_in new)

-- what came of a work has its whole history
abbrev pub HasFinished : Work → Work → Type 0
HasFinished old new = Finished (plan_in old) (readings_in old) (list_in new)

-- Where the journal is begun for an input, and the spool held the texts of the list's ends, the two fit at each moment of the step.
abbrev pub StepFits : Work → Disks → Type 0
StepFits work d =
    (digests : Digests) (from : ℕ) → IsBegunFor (plan_in work) digests work.journal
    → EachImage (AreStored (plan_in work) from (list_in work)) d.spool_before → FitInTurn (plan_in work) digests from d
