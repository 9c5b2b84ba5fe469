use Rattle.std.proofs.Common.{◌*◌, ◌+◌}
use Rattle.conc_data_columns.proofs.making.+fn-make_in_parts-join+arg3+make_in_parts.Given as goal

abbrev pub decreases-join+arg3 : goal.decreases-join+arg3
decreases-join+arg3 g l = 2 * l.fewer + 1

abbrev pub decreases-make_in_parts : goal.decreases-make_in_parts
decreases-make_in_parts g l = 2 * l.parts
