use Rattle.conc_base_law.proofs.AloneLawful.{report-good}
use Rattle.conc_base_law.proofs.report_is_short.Goals as goal

pub returns : goal.returns
returns c = λ job argument table. (report-good job argument table).short
