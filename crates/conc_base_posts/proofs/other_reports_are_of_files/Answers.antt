use Rattle.conc_base_posts.proofs.Files.{report-files}
use Rattle.conc_base_posts.proofs.other_reports_are_of_files.Goals as goal

pub returns : goal.returns
returns c = report-files
