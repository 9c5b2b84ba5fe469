use Rattle.std.proofs.Common.{◌≡◌, ◌++◌, drop}
use Rattle.conc_show_svg.specs.Spans.{spans_from}
use Rattle.conc_show_svg.proofs.spans.spans_of.Given as goal

abbrev pub invariant-loop-from : goal.invariant-loop-from
invariant-loop-from l = l.spans.items ++ spans_from l.kind l.from (drop l.from l.events) ≡ spans_from l.kind 0 l.events
