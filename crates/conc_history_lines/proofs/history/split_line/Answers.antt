use Rattle.conc_history_lines.proofs.WholeLines.{first_line}
use Rattle.conc_history_lines.proofs.history.split_line.Goals as goal

pub returns-clause-lines : goal.returns-clause-lines
returns-clause-lines c = first_line c.args.bytes.now c.split_once.result c.split_once.ensures.lacks c.split_once.ensures.parts c.split_once.ensures.first
