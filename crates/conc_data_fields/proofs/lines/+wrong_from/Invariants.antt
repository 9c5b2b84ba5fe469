use Rattle.std.proofs.Common.{length}
use Rattle.conc_data_fields.proofs.lines.+wrong_from.Given as goal

abbrev pub decreases-wrong_from : goal.decreases-wrong_from
decreases-wrong_from g l = length l.all.now
