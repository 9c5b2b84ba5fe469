use Rattle.std.proofs.Common.{◌-◌, ◌≤◌, IsTrue, length, take}
use Rattle.std.specs.List.{list_all}
use Rattle.conc_machine.proofs.commands.first_undone.Given as goal

abbrev pub invariant-loop-next : goal.invariant-loop-next
invariant-loop-next l = IsTrue (list_all (λ d. d) (take l.next l.done)) × (l.next ≤ length l.done)

abbrev pub decreases-loop-next : goal.decreases-loop-next
decreases-loop-next l = length l.done - l.next
