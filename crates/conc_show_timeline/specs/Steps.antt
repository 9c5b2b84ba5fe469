-- What the events of a history do to one request, each with its column.
use Rattle.std.specs.Prelude.{ℕ, ◌+◌, List, [], ◌∷◌, Option, None, Some}
use Rattle.std.specs.Bool.{then_some}
use Rattle.conc_types.specs.declared.event.Event.{Event}
use Rattle.conc_types.specs.declared.event.Event.TheVariants as event
use Rattle.conc_types.specs.declared.event.Outcome.{Outcome}
use Rattle.conc_types.specs.declared.event.Outcome.TheVariants as outcome
use Rattle.conc_types.specs.declared.event.RequestId.{RequestId}
use Rattle.conc_base_law.specs.Words.{id_eq}
use Rattle.conc_show_timeline.specs.Columns.{column_of}
use Rattle.conc_show_timeline.specs.declared.steps.Deed.{Deed}
use Rattle.conc_show_timeline.specs.declared.steps.Deed.TheVariants as deed
use Rattle.conc_show_timeline.specs.declared.steps.Step.{Step}

-- N, W, E, T or C
abbrev pub outcome_letter : Outcome → ℕ
outcome_letter outcome.Normal = 78
outcome_letter outcome.Warning = 87
outcome_letter outcome.Error = 69
outcome_letter outcome.Terminated = 84
outcome_letter outcome.Cancelled = 67

-- what the event does to the request; an interrupt has the letter !
abbrev pub deed_of : RequestId → Event → Option Deed
deed_of r (event.LetOut q) = then_some (id_eq q r) deed.Let
deed_of r (event.Started q p) = then_some (id_eq q r) deed.Start
deed_of r (event.Ended q o x) = then_some (id_eq q r) (deed.Stop (outcome_letter o))
deed_of r (event.Interrupt q) = then_some (id_eq q r) (deed.Stop 33)
deed_of r (event.OpenSet q) = then_some (id_eq q r) deed.Open
deed_of r (event.CloseSet q o) = then_some (id_eq q r) (deed.Close (outcome_letter o))
deed_of r _ = None

-- the steps before those of later events: one more, if there is a deed
abbrev pub with_deed : ℕ → Option Deed → List Step → List Step
with_deed column None later = later
with_deed column (Some d) later = record { column = column; deed = d } ∷ later

-- the steps of the request in these events, the first of which has index i of so many
abbrev pub steps_from : RequestId → ℕ → ℕ → List Event → List Step
steps_from r count i [] = []
steps_from r count i (e ∷ later) = with_deed (column_of count i) (deed_of r e) (steps_from r count (i + 1) later)
