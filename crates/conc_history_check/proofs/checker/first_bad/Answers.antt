use Rattle.std.proofs.Common.{◌≡◌, ◌<◌, length, reverse, take, Some, slice_get, refl, sym, ◌∙◌, arith}
use Rattle.std.proofs.lemmas.List.{length-reverse, length-take-le}
use Rattle.std.proofs.lemmas.Option.{slice_get_read}
use Rattle.conc_history_check.proofs.EachPosition.{lawful_more, read_more}
use Rattle.conc_history_check.proofs.Rooms.{ticks-few}
use Rattle.conc_history_check.proofs.checker.first_bad.Goals as goal

pub read-requires-clause-few : goal.read-requires-clause-few
read-requires-clause-few c =
    omega (
      arith,
      c.loop-i.invariant.0.taken.ticks,
      ticks-few (reverse (take c.loop-i.i c.args.events.now)),
      length-reverse (take c.loop-i.i c.args.events.now),
      length-take-le c.loop-i.i c.args.events.now (omega arith),
    )

pub loop-i-preserved : goal.loop-i-preserved
loop-i-preserved c =
    let i = c.loop-i.i in let events = c.args.events.now in
    let within : i < length events = omega (arith, c.loop-i-test.true) in
    let at : slice_get events i ≡ Some c.index-events-i.result = slice_get_read _ _ i c.index-events-i.result refl within c.index-events-i.is in (
      read_more c.args.plan.now c.args.prepared.now events i c.index-events-i.result _ at (c.read.ensures _ c.loop-i.invariant.0),
      lawful_more c.args.plan.now c.args.readings.now.list events i c.loop-i.invariant.1 (sym c.is_lawful_at.ensures ∙ c.if-not-is_lawful_at.false),
    )
