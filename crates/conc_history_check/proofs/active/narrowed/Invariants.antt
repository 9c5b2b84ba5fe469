use Rattle.std.proofs.Common.{◌-◌}
use Rattle.conc_history_check.specs.Active.{IsActive}
use Rattle.conc_history_check.proofs.active.narrowed.Given as goal

abbrev pub invariant-loop-from : goal.invariant-loop-from
invariant-loop-from l = IsActive l._plan l.state (record { from = l.from; to = l.to })

abbrev pub decreases-loop-from : goal.decreases-loop-from
decreases-loop-from l = l.to - l.from

abbrev pub invariant-loop-to : goal.invariant-loop-to
invariant-loop-to l = IsActive l._plan l.state (record { from = l.from; to = l.to })

abbrev pub decreases-loop-to : goal.decreases-loop-to
decreases-loop-to l = l.to - l.from
