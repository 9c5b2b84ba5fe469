use Rattle.conc_history_lines.proofs.Written.{text_spelled}
use Rattle.conc_history_lines.proofs.laws.read_texts_have_one_spelling.Goals as goal

pub returns : goal.returns
returns c = text_spelled
