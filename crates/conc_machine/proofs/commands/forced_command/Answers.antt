use Rattle.std.proofs.Common.{◌∙◌}
use Rattle.conc_machine.proofs.Undone.{forced-first}
use Rattle.conc_machine.proofs.commands.forced_command.Goals as goal

pub returns : goal.returns
returns c =
    c.due_at.ensures ∙ forced-first c.args.plan.now c.args.state.now c.args.next c.requires.flags c.requires.next
