-- What a machine keeps, against the state.
use Rattle.std.specs.Prelude.{◌≡◌, ℕ, suc, Bool, true, false, List, [], ◌∷◌, length}
use Rattle.conc_types.specs.declared.facts.Facts.{Facts}
use Rattle.conc_types.specs.declared.plan.Plan.{Plan}
use Rattle.conc_event_classes.specs.Classes.{AreClasses}
use Rattle.conc_machine_release.specs.Lets.{AreLets}
use Rattle.conc_event_reach.specs.Spans.{AreSpans}
use Rattle.conc_event_reach.specs.Started.{AreStartedWithin}
use Rattle.conc_machine_starts.specs.Starts.{AreStarts}
use Rattle.conc_machine_steps.specs.Steps.{AreRunning, AreSteps}
use Rattle.conc_machine.specs.declared.indexes.Indexes.{Indexes}

-- the place of the first command that is not done, from 0
abbrev pub first_undone : List Bool → ℕ
first_undone [] = 0
first_undone (true ∷ done) = suc (first_undone done)
first_undone (false ∷ done) = 0

-- each part is that of the state
pub record AreParts (plan : Plan) (indexes : Indexes) : Type 0 where
  pub all : length indexes.state.facts ≡ length plan.requests
  pub spans : AreSpans plan indexes.spans
  pub classes : AreClasses plan indexes.classes
  pub running : AreRunning plan indexes.state indexes.running
  pub steps : AreSteps plan indexes.state indexes.steps
  pub lets : AreLets plan indexes.classes indexes.state indexes.lets
  pub starts : AreStarts plan indexes.state indexes.starts

-- and the next command is the first that is not done, and the span holds those that were started in this life
pub record AreIndexes (plan : Plan) (indexes : Indexes) : Type 0 where
  pub parts : AreParts plan indexes
  pub flags : length indexes.state.done ≡ length plan.script.commands
  pub command : indexes.next_command ≡ first_undone indexes.state.done
  pub started : AreStartedWithin plan indexes.state.facts indexes.started

-- all is kept as it was but the facts, which are these
pub record AreFacts (before after : Indexes) (all : List Facts) : Type 0 where
  pub facts : after.state.facts ≡ all
  pub empty : after.state.empty ≡ before.state.empty
  pub time : after.state.time ≡ before.state.time
  pub used : after.state.used ≡ before.state.used
  pub done : after.state.done ≡ before.state.done
  pub command : after.next_command ≡ before.next_command
