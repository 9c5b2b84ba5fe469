use Rattle.std.proofs.Common.{◌≡◌, refl, Some}
use Rattle.std.specs.Prelude.{slice_get}
use Rattle.std.proofs.lemmas.Option.{slice_get_read}
use Rattle.conc_restart.specs.Machines.{plan_of}
use Rattle.conc_view.proofs.Replayed.{take_more}
use Rattle.conc_view.proofs.watcher.replay.Goals as goal

pub loop-i-preserved : goal.loop-i-preserved
loop-i-preserved c =
    let there : slice_get c.args.events.now c.loop-i.i ≡ Some c.index-events-i.result =
    slice_get_read c.args.events.now _ c.loop-i.i c.index-events-i.result refl c.loop-i-test.true c.index-events-i.is in
    take_more (plan_of c.args.machine.now) c.args.events.now c.loop-i.machine c.apply.new.self c.loop-i.i c.index-events-i.result c.loop-i.invariant there
    c.apply.ensures.plan c.apply.ensures.stands
