use Rattle.std.proofs.Common.{◌≡◌, ◌++◌, drop, length}
use Rattle.conc_show_svg.specs.Readings.{readings_from}
use Rattle.conc_show_svg.proofs.readings.put_readings.Given as goal

abbrev pub invariant-loop-i : goal.invariant-loop-i
invariant-loop-i l =
    l.out.items ++ readings_from (length l.events) l.bottom l.free l.i (drop l.i l.events)
    ≡ l.fn.out.items ++ readings_from (length l.events) l.bottom 0 0 l.events
