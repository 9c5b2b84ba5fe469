use Rattle.conc_event_queue.proofs.Firsts.{first-least}
use Rattle.conc_event_queue.proofs.laws.first_in_precedence.Goals as goal

pub returns : goal.returns
returns c = λ plan test. first-least plan test
