use Rattle.std.proofs.Common.{take}
use Rattle.conc_event_effects.specs.Advance.{all_after}
use Rattle.conc_machine.specs.Indexes.{AreFacts, AreParts}
use Rattle.conc_machine.proofs.writing.write_all.Given as goal

abbrev pub invariant-loop-i : goal.invariant-loop-i
invariant-loop-i l =
    AreParts l.plan l.indexes
    × AreFacts l.fn.indexes l.indexes (all_after l.plan l.named l.e (take l.i l.plan.requests) l.fn.indexes.state.facts)
