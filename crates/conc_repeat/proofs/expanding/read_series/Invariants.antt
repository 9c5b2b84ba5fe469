use Rattle.std.proofs.Common.{length}
use Rattle.conc_repeat.proofs.ReadSeries.{ReadsOn}
use Rattle.conc_repeat.proofs.expanding.read_series.Given as goal

abbrev pub invariant-loop-row : goal.invariant-loop-row
invariant-loop-row l = ReadsOn l.fn.records l.records l.all.items l.commands

abbrev pub decreases-loop-row : goal.decreases-loop-row
decreases-loop-row l = length l.records
