use Rattle.std.proofs.Common.{length}
use Rattle.conc_history_lines.proofs.Reading.{Reads}
use Rattle.conc_history_lines.proofs.history.read_history.Given as goal

abbrev pub invariant-loop-line : goal.invariant-loop-line
invariant-loop-line l = Reads l.starts l.bytes l.rest l.events.items

abbrev pub decreases-loop-line : goal.decreases-loop-line
decreases-loop-line l = length l.rest
