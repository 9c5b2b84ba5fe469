use Rattle.std.proofs.Common.{◌≡◌, drop}
use Rattle.conc_show_svg.specs.Spans.{first_end}
use Rattle.conc_show_svg.proofs.spans.end_from.Given as goal

abbrev pub invariant-loop-i : goal.invariant-loop-i
invariant-loop-i l = record {
  so_far : first_end l.kind l.request l.i (drop l.i l.events) ≡ first_end l.kind l.request l.from (drop l.from l.events);
}
