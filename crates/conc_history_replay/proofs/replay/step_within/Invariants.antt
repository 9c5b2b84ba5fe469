use Rattle.std.proofs.Common.{◌≡◌, take}
use Rattle.conc_event_effects.specs.Advance.{all_after}
use Rattle.conc_history_replay.proofs.replay.step_within.Given as goal

abbrev pub invariant-loop-i : goal.invariant-loop-i
invariant-loop-i l = l.facts ≡ all_after l.plan l.named l.e (take l.i l.plan.requests) l.fn.facts
