use Rattle.std.proofs.Common.{length}
use Rattle.conc_script.proofs.ReadRecords.{ReadsOn}
use Rattle.conc_script.proofs.script.read_commands.Given as goal

abbrev pub invariant-loop-row : goal.invariant-loop-row
invariant-loop-row l = ReadsOn l.setup l.fn.records l.records l.commands.items l.entered l.before

abbrev pub decreases-loop-row : goal.decreases-loop-row
decreases-loop-row l = length l.records
