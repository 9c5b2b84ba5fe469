use Rattle.std.proofs.Common.{true, arith}
use Rattle.conc_machine.proofs.Undone.{first_undone-is}
use Rattle.conc_machine.proofs.commands.first_undone.Goals as goal

pub returns-else-done-next : goal.returns-else-done-next
returns-else-done-next c =
    first_undone-is c.loop-next.next c.args.done.now _ c.loop-next.invariant.0 c.loop-next.invariant.1 (λ below. c.if-done-next.false)

pub returns-after-loop-next : goal.returns-after-loop-next
returns-after-loop-next c =
    first_undone-is c.loop-next.next c.args.done.now true c.loop-next.invariant.0 c.loop-next.invariant.1
    (λ below. absurd (omega (arith, below, c.loop-next-test.false)))
