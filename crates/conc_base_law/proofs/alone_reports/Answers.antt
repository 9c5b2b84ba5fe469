use Rattle.conc_base_law.proofs.Reported.{alone_reported}
use Rattle.conc_base_law.proofs.alone_reports.Goals as goal

pub returns : goal.returns
returns c = alone_reported
