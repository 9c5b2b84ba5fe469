use Rattle.std.proofs.Common.{◌≡◌, Some, refl, arith}
use Rattle.std.specs.Prelude.{slice_get}
use Rattle.std.proofs.lemmas.Option.{slice_get_read}
use Rattle.conc_run_open.proofs.Counting.{front-all, front-more, front-none}
use Rattle.conc_run_open.proofs.extents.count_bytes.Goals as goal

pub loop-event-init : goal.loop-event-init
loop-event-init c = omega (arith, front-none c.args.events.now)

pub loop-event-preserved : goal.loop-event-preserved
loop-event-preserved c =
    let there : slice_get c.args.events.now c.loop-event.event-index ≡ Some c.event-item.result =
    slice_get_read c.args.events.now _ c.loop-event.event-index c.event-item.result refl c.loop-event-test.true c.event-item.is in
    omega (arith, front-more c.loop-event.event-index c.args.events.now c.event-item.result there, c.extent_bytes.ensures, c.saturating_add-bytes.ensures, c.loop-event.invariant)

pub returns : goal.returns
returns c = omega (arith, front-all c.loop-event.event-index c.args.events.now c.loop-event-test.false, c.loop-event.invariant)
