use Rattle.conc_history_lines.proofs.Spelled.{line_spelled}
use Rattle.conc_history_lines.proofs.laws.event_lines_have_one_spelling.Goals as goal

pub returns : goal.returns
returns c = line_spelled
