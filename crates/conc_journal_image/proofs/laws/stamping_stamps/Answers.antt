use Rattle.conc_journal_image.proofs.Turns.{stamping-stamps}
use Rattle.conc_journal_image.proofs.laws.stamping_stamps.Goals as goal

pub returns : goal.returns
returns c = λ old before number stamp below long. stamping-stamps old before number stamp below long
