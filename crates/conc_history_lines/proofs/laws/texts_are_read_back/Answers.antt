use Rattle.conc_history_lines.proofs.LawfulLines.{history_lines}
use Rattle.conc_history_lines.proofs.WholeTexts.{text_back}
use Rattle.conc_history_lines.proofs.laws.texts_are_read_back.Goals as goal

pub returns-clause-lines : goal.returns-clause-lines
returns-clause-lines c = text_back

pub returns-clause-lawful : goal.returns-clause-lawful
returns-clause-lawful c = λ plan history lawful. text_back plan history (history_lines plan history lawful)
