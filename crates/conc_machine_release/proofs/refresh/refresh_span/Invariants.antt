use Rattle.std.proofs.Common.{◌≡◌}
use Rattle.std.specs.Prelude.{slice_range}
use Rattle.conc_machine_release.specs.Refresh.{HaveSlots, refreshed_all}
use Rattle.conc_machine_release.proofs.refresh.refresh_span.Given as goal

abbrev pub invariant-loop-i : goal.invariant-loop-i
invariant-loop-i l =
    HaveSlots l.classes l.queues.items
    × (refreshed_all l.plan l.classes l.state (slice_range l.plan.requests l.i l.fn.span.to) l.queues.items
    ≡ refreshed_all l.plan l.classes l.state (slice_range l.plan.requests l.fn.span.from l.fn.span.to) l.fn.queues.items)
