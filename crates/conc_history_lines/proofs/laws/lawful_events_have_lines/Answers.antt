use Rattle.conc_history_lines.proofs.LawfulLines.{history_lines}
use Rattle.conc_history_lines.proofs.laws.lawful_events_have_lines.Goals as goal

pub returns : goal.returns
returns c = history_lines
