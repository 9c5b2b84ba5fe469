use Rattle.conc_journal_image.proofs.Turns.{version-turned, version-turns}
use Rattle.conc_journal_image.proofs.laws.version_turns.Goals as goal

pub returns : goal.returns
returns c = record {
  either = λ label based stamps old new events is long same. version-turns label based stamps old new events is.one is.two is.journal is.base is.stamped long same.0 same.1;
  turned = λ label based stamps old new events is long same opens. version-turned label based stamps old new events is.two is.journal is.base is.stamped long same.0 same.1 opens;
}
