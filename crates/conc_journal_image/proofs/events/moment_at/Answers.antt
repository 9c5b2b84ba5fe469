use Rattle.std.proofs.Common.{sym}
use Rattle.conc_journal_image.proofs.Moments.{moment_at-seconds}
use Rattle.conc_journal_image.proofs.events.moment_at.Goals as goal

pub returns : goal.returns
returns c = sym (moment_at-seconds _)
