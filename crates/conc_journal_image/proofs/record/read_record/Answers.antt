use Rattle.conc_journal_image.proofs.Unique.{event_of-recorded}
use Rattle.conc_journal_image.proofs.record.read_record.Goals as goal

pub returns-clause-recorded : goal.returns-clause-recorded
returns-clause-recorded c = event_of-recorded _ _ c.event_of.ensures
