use Rattle.conc_journal_image.proofs.Appends.{gate-either, opened-adds}
use Rattle.conc_journal_image.proofs.laws.gate_adds.Goals as goal

pub returns : goal.returns
returns c = record {
  either = λ label stamps old new events e stamp has gate long. gate-either label stamps events e stamp old new has.journal has.room has.next gate.0 gate.1 long;
  opened = λ label stamps old new events e stamp has gate opens. opened-adds label stamps events e stamp old new has.journal has.room has.next gate.0 gate.1 opens;
}
