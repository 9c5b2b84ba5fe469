use Rattle.conc_journal_image.proofs.Beginning.{begun-either}
use Rattle.conc_journal_image.proofs.laws.gate_begins.Goals as goal

pub returns : goal.returns
returns c = λ label header image begins here. begun-either label header image begins here
