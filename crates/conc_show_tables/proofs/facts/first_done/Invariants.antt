use Rattle.std.proofs.Common.{◌≡◌, drop}
use Rattle.conc_show_tables.specs.Facts.{first_done}
use Rattle.conc_show_tables.proofs.facts.first_done.Given as goal

abbrev pub invariant-loop-i : goal.invariant-loop-i
invariant-loop-i l = first_done l.number 0 l.events ≡ first_done l.number l.i (drop l.i l.events)
