-- A clock in memory, and when it fails.
use Rattle.std.specs.Prelude.{◌≡◌, ◌≢◌, [], List, Result, Some, IsErr, IsOk}
use Rattle.conc_types.specs.declared.event.Moment.{Moment}
use Rattle.conc_edge_clock.specs.Clocks.{ClockState}
use Rattle.conc_edge_clock.specs.declared.memory.MemClock.{MemClock}

-- the moments that it still gives
abbrev pub moments_of : MemClock → List Moment
moments_of clock = clock.left.items

-- what it exposes
abbrev pub clock_state : MemClock → ClockState
clock_state clock = record { moments = Some (moments_of clock); faults = clock.faults }

-- It fails exactly where no moment is left, and a moment that it gives is no fault.
pub record FailsAtTheEnd {T E : Type 0} (old new : MemClock) (result : Result T E) : Type 0 where
  pub cause : IsErr result → moments_of old ≡ []
  pub some : moments_of old ≢ [] → IsOk result
  pub no_fault : IsOk result → new.faults ≡ old.faults
