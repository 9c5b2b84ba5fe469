use Rattle.conc_history_lines.proofs.Splits.{split_at, split_none}
use Rattle.conc_show_plan.proofs.fields.split_field.Goals as goal

pub returns-in-Some : goal.returns-in-Some
returns-in-Some c = split_at 9 c.args.line.now _ _ c.in-Some.ensures.parts c.in-Some.ensures.first

pub returns-in-None : goal.returns-in-None
returns-in-None c = split_none 9 c.args.line.now c.in-None.ensures.lacks
