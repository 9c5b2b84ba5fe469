use Rattle.std.proofs.Common.{◌≡◌, Some, refl, arith}
use Rattle.std.specs.Prelude.{slice_get}
use Rattle.std.proofs.lemmas.Option.{slice_get_read, slice_get_within}
use Rattle.conc_run_open.proofs.Ends.{has-end, none-more}
use Rattle.conc_run_open.proofs.text.find_report.Goals as goal

pub loop-event-preserved : goal.loop-event-preserved
loop-event-preserved c =
    let there : slice_get c.args.events.now c.loop-event.event-index ≡ Some c.event-item.result =
    slice_get_read c.args.events.now _ c.loop-event.event-index c.event-item.result refl c.loop-event-test.true c.event-item.is in
    none-more c.loop-event.event-index c.args.events.now c.args.id c.event-item.result there c.in_default.ensures c.loop-event.invariant

pub returns-in-Some : goal.returns-in-Some
returns-in-Some c =
    let there : slice_get c.args.events.now c.loop-event.event-index ≡ Some c.event-item.result =
    slice_get_read c.args.events.now _ c.loop-event.event-index c.event-item.result refl c.loop-event-test.true c.event-item.is in
    has-end c.loop-event.event-index c.args.events.now c.args.id c.event-item.result c.in-Some.extent there c.in-Some.ensures

pub returns : goal.returns
returns c = λ i o x here. c.loop-event.invariant i o x (omega (arith, slice_get_within c.args.events.now i _ here, c.loop-event-test.false)) here
