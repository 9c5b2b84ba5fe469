use Rattle.std.proofs.Common.{inr}
use Rattle.conc_history_check.proofs.coming.come.Goals as goal

pub bring-requires-clause-later : goal.bring-requires-clause-later
bring-requires-clause-later c = c.is_not_later.ensures c.if-is_not_later.true

pub renew_all-requires-clause-size : goal.renew_all-requires-clause-size
renew_all-requires-clause-size c = c.requires.coming.size
