use Rattle.conc_worker.proofs.Reported.{admitted_has_report}
use Rattle.conc_worker.proofs.laws.what_is_admitted_has_a_report.Goals as goal

pub returns : goal.returns
returns c = λ plan place r admitted. admitted_has_report plan place r admitted
