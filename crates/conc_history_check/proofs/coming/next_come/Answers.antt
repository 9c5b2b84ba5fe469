use Rattle.std.proofs.Common.{sym, ◌∙◌}
use Rattle.conc_history_check.proofs.Brought.{none-there}
use Rattle.conc_history_check.proofs.coming.next_come.Goals as goal

pub returns-in-None : goal.returns-in-None
returns-in-None c = none-there c.args.plan.now c.args.coming.now c.args.now (sym c.least.ensures ∙ c.in-None.is)
