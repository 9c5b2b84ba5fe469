use Rattle.conc_history_check.proofs.EachPosition.{positions_lawful}
use Rattle.conc_history_check.proofs.checker.check.Goals as goal

pub returns-clause-lawful : goal.returns-clause-lawful
returns-clause-lawful c = positions_lawful c.args.plan.now _ _ c.in-None.ensures.first
