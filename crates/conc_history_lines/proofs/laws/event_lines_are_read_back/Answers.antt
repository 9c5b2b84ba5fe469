use Rattle.conc_history_lines.proofs.ReadBack.{line_back}
use Rattle.conc_history_lines.proofs.laws.event_lines_are_read_back.Goals as goal

pub returns : goal.returns
returns c = line_back
