use Rattle.std.proofs.Common.{◌≡◌, take, reverse}
use Rattle.conc_base_law.specs.State.{state}
use Rattle.conc_event_reach.specs.Started.{AreStartedWithin}
use Rattle.conc_history_replay.proofs.replay.state_after.Given as goal

abbrev pub invariant-loop-e : goal.invariant-loop-e
invariant-loop-e l =
    (l.state ≡ state l.plan (reverse (take l.e-index l.events))) × AreStartedWithin l.plan l.state.facts l.started
