use Rattle.std.proofs.Common.{sym, ◌∙◌}
use Rattle.conc_history_check.proofs.Due.{forced-at}
use Rattle.conc_history_check.proofs.forcing.due_command.Goals as goal

pub returns : goal.returns
returns c = c.due_at.ensures ∙ sym (forced-at c.args.plan.now c.args.state.now c.args.undone c.requires)
