-- What the files give, once all are accepted, or why they give nothing.
use Rattle.std.specs.Prelude.{◌≡◌, ℕ, List, Option, Some, Result, IfErr, IfOk}
use Rattle.conc_edge_clock.specs.Clocks.{ClockState}
use Rattle.conc_types.specs.declared.script.Readings.{Readings}
use Rattle.conc_outside.specs.Files.{IsLater, ShelfState}
use Rattle.conc_top_inputs.specs.declared.accepting.Accepted.{Accepted}
use Rattle.conc_top_inputs.specs.declared.error.InputFail.{InputFail}
use Rattle.conc_top_inputs.specs.declared.reading.Start.{Start}
use Rattle.conc_top_inputs.specs.Fails.{FailsWith}
use Rattle.conc_top_inputs.specs.Given.{Accepts, digests_of, Exposed, exposed_by, named, Names, Sources, sources}
use Rattle.conc_top_inputs.specs.Reading.{HasInputs, HasStart}

-- the files give this plan and these digests and, where there is a clock, these readings
pub record IsAccepted (exposed : Exposed) (names : Names) (readings : Option Readings) (a : Accepted) : Type 0 where
  pub accepts : Accepts exposed names a.plan readings
  pub digests : a.digests ≡ digests_of accepts.files

-- what a reading of the files with these names answers, old before and new after it: what they give, or why they give nothing
pub record IsAnswer (old new : Sources) (names : Names) (readings : Option Readings) (answer : Result Accepted InputFail) : Type 0 where
  pub ok : IfOk answer (IsAccepted (exposed_by old new) names readings)
  pub err : IfErr answer (FailsWith old new names)

-- the same, with the readings of their clock
pub record IsTimedAnswer (old new : Sources) (names : Names) (answer : Result (Accepted × Readings) InputFail) : Type 0 where
  pub ok : IfOk answer (λ p. IsAccepted (exposed_by old new) names (Some p.1) p.0)
  pub err : IfErr answer (FailsWith old new names)

-- the setup and the script with these names, old before and new after they were read, make this start of a reading, with a clock
-- or without one; or the reading ended
pub record StartsReading (old new : ShelfState) (setup script : List ℕ) (answer : Result Start InputFail) : Type 0 where
  pub ok : (clock : Option (List ℕ)) → IfOk answer (HasStart old.files (named setup script clock))
  pub err : (before after : ClockState) (clock : Option (List ℕ))
      → IfErr answer (FailsWith (sources old before) (sources new after) (named setup script clock))

-- A reading began with this start, and went on with a clock or without one. From there, mid before and new after it, it came to
-- this answer of the whole
abbrev pub CompletesReading : ShelfState → ShelfState → List ℕ → List ℕ → Start → Result Accepted InputFail → Type 0
CompletesReading mid new setup script start answer =
    (old : ShelfState) (before after : ClockState) (clock : Option (List ℕ)) (readings : Option Readings)
    → IsLater old mid
    → HasInputs (exposed_by (sources old before) (sources new after)) (named setup script clock) start readings
    → IsAnswer (sources old before) (sources new after) (named setup script clock) readings answer
