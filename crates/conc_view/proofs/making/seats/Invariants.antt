use Rattle.std.proofs.Common.{◌≡◌, length}
use Rattle.std.specs.List.{All}
use Rattle.conc_view.specs.Views.{Counts, HasSeen}
use Rattle.conc_view.proofs.making.seats.Given as goal

abbrev pub invariant-loop-place : goal.invariant-loop-place
invariant-loop-place g l = (length l.seated.items ≡ l._place) × All (HasSeen l.plan l.events) l.seated.items × Counts l.counter l.events
