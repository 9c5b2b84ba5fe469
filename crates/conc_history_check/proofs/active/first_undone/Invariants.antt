use Rattle.std.proofs.Common.{◌-◌, length}
use Rattle.conc_history_check.specs.Active.{AreDoneBefore}
use Rattle.conc_history_check.proofs.active.first_undone.Given as goal

abbrev pub invariant-loop-place : goal.invariant-loop-place
invariant-loop-place l = AreDoneBefore l.state l.place

abbrev pub decreases-loop-place : goal.decreases-loop-place
decreases-loop-place l = length l.state.done - l.place
