use Rattle.std.proofs.Common.{◌≡◌, take}
use Rattle.conc_types.specs.declared.event.Event.TheVariants as event
use Rattle.conc_types.specs.declared.facts.Facts.{Facts}
use Rattle.conc_event_effects.specs.Advance.{all_after}
use Rattle.conc_history_replay.proofs.replay.enter.Given as goal

-- the requests so far are entered
abbrev pub invariant-loop-i : goal.invariant-loop-i
invariant-loop-i l = (named : Facts)
    → l.facts ≡ all_after l.plan named (event.Command l.number) (take l.i l.plan.requests) l.fn.facts
