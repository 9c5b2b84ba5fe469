use Rattle.std.proofs.Common.{length}
use Rattle.conc_script.specs.Clock.{lines_of}
use Rattle.conc_script.proofs.ReadLines.{Reads}
use Rattle.conc_script.proofs.clock.read_lines.Given as goal

abbrev pub invariant-loop-line : goal.invariant-loop-line
invariant-loop-line l = Reads (lines_of l.bytes) (lines_of l.rest) l.readings.items

abbrev pub decreases-loop-line : goal.decreases-loop-line
decreases-loop-line l = length l.rest
