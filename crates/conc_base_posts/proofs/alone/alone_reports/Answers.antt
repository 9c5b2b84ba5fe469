use Rattle.conc_base_posts.proofs.Reported.{alone_reported}
use Rattle.conc_base_posts.proofs.alone.alone_reports.Goals as goal

pub returns : goal.returns
returns c = alone_reported
