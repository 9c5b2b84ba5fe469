-- Moments by their seconds.
use Rattle.std.proofs.Common.{◌≡◌, Some, arith}
use Rattle.std.proofs.lemmas.Bool.Decides.{nat_tests}
use Rattle.conc_types.specs.declared.event.Event.TheVariants as event
use Rattle.conc_types.specs.declared.event.Moment.{Moment}
use Rattle.conc_base_law.specs.Calendar.{moment_at}
use Rattle.conc_base_law.proofs.EqualEvents.{moment_same}
use Rattle.conc_journal_image.specs.Fields.{event_of}

-- a moment is the one at its seconds
pub moment_at-seconds : (t : Moment) → moment_at t.seconds ≡ t
unfolding moment_at
moment_at-seconds t = moment_same (moment_at t.seconds) t (omega (arith, t.civil))

-- a tick by its fields
pub event_of-tick : (t : Moment) → event_of (record { kind = 1; outcome = 0; first = 0; second = 0; wide = t.seconds; length = 0 }) ≡ Some (event.Tick t)
unfolding event_of
event_of-tick t = let same = moment_at-seconds t in let below = t.civil in grind (arith, nat_tests)
