use Rattle.std.proofs.Common.{refl}
use Rattle.conc_event_reach.proofs.InLife.{none-started}
use Rattle.conc_history_replay.proofs.replay.state_after.Goals as goal

pub loop-e-init : goal.loop-e-init
loop-e-init c = (c.in_ok-state.ensures, none-started c.args.plan.now _ _ c.in_ok-state.ensures refl)
