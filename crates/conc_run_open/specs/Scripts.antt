-- Whether the commands in a journal are those of a script.
use Rattle.std.specs.Prelude.{◌≡◌, ℕ, List, ◌∷◌, ◌++◌, Some, take, unwrap_or}
use Rattle.conc_types.specs.Plans.{stamp}
use Rattle.conc_types.specs.declared.digests.Digests.{Digests}
use Rattle.conc_types.specs.declared.event.Event.{Event}
use Rattle.conc_types.specs.declared.event.Event.TheVariants as event
use Rattle.conc_types.specs.declared.plan.Plan.{Plan}
use Rattle.conc_journal_image.specs.declared.label.Label.{Label}
use Rattle.conc_journal_image.specs.declared.label.Version.TheVariants.{Two}
use Rattle.conc_run_state.specs.Causes.{told, told_for}
use Rattle.conc_run_state.specs.Inputs.{AreStampsOf}
use Rattle.conc_run_state.specs.declared.error.HistoryFail.{HistoryFail}
use Rattle.conc_run_state.specs.declared.error.HistoryFail.TheVariants as history_fail

-- This is a command of the events that the plan lacks, or has with another stamp. The stamp here is found, and the plan's is given,
-- which is 0 where it lacks the command. The commands before it have the plan's stamps.
pub record HasOther (plan : Plan) (events : List Event) (stamps : List ℕ) (command found given : ℕ) : Type 0 where
  pub before : List Event
  pub after : List Event
  pub events_are : events ≡ before ++ event.Command command ∷ after
  pub stamps_before : List ℕ
  pub stamps_after : List ℕ
  pub stamps_are : stamps ≡ stamps_before ++ found ∷ stamps_after
  pub same_before : AreStampsOf plan before stamps_before
  pub given_is : given ≡ unwrap_or (stamp plan command) 0
  pub other : stamp plan command ≡ Some found → ⊥

-- it is refused as the first command that differs
abbrev pub IsOtherCommand : Plan → List Event → List ℕ → HistoryFail → Type 0
IsOtherCommand plan events stamps (history_fail.OtherScript command found given) = HasOther plan events stamps command found given
IsOtherCommand plan events stamps _ = ⊥

-- a journal with this label, these events and these stamps is not that of the input, or not that of the script
abbrev pub IsNotOfInput : Plan → Digests → Label → List Event → List ℕ → HistoryFail → Type 0
IsNotOfInput plan digests label events stamps (history_fail.OtherInput found given) =
    (found ≡ told label) × (given ≡ told_for label.version digests) × (found ≡ given → ⊥)
IsNotOfInput plan digests label events stamps (history_fail.OtherScript command found given) =
    (label.version ≡ Two) × (label.base ≡ take 15 digests.base) × HasOther plan events stamps command found given
IsNotOfInput plan digests label events stamps _ = ⊥
