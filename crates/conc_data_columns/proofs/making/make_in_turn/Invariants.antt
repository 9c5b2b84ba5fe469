use Rattle.std.specs.List.{All}
use Rattle.conc_data_columns.specs.Made.{Stands}
use Rattle.conc_data_columns.proofs.making.make_in_turn.Given as goal

abbrev pub invariant-loop-one : goal.invariant-loop-one
invariant-loop-one l = All (Stands l.table.rows) l.made.items
