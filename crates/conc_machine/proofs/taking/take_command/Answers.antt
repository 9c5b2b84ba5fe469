use Rattle.std.proofs.Common.{◌∙◌}
use Rattle.conc_machine.proofs.Frames.{all_before-after, few-after}
use Rattle.conc_machine.proofs.taking.take_command.Goals as goal

pub first_undone-indexes-requires-clause-before : goal.first_undone-indexes-requires-clause-before
first_undone-indexes-requires-clause-before c =
    rw (c.as_slice.ensures ∙ c.mark_done.ensures) (all_before-after c.args.indexes.now.next_command c.args.indexes.now.state.done c.args.e c.requires)

pub first_undone-indexes-requires-clause-inside : goal.first_undone-indexes-requires-clause-inside
first_undone-indexes-requires-clause-inside c =
    rw (c.as_slice.ensures ∙ c.mark_done.ensures) (few-after c.args.indexes.now.next_command c.args.indexes.now.state.done c.args.e c.requires)
