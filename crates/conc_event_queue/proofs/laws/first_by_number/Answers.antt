use Rattle.conc_event_queue.proofs.Firsts.{find-least}
use Rattle.conc_event_queue.proofs.laws.first_by_number.Goals as goal

pub returns : goal.returns
returns c = λ plan test. find-least plan test
