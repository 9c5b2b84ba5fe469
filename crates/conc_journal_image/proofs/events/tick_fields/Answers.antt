use Rattle.conc_journal_image.proofs.Moments.{event_of-tick}
use Rattle.conc_journal_image.proofs.events.tick_fields.Goals as goal

pub returns : goal.returns
returns c = event_of-tick c.args.moment
