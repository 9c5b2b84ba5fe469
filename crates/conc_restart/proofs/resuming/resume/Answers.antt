use Rattle.std.proofs.Common.{◌≡◌, ◌∙◌, sym, ◌+◌, reverse, take, refl, Some}
use Rattle.std.specs.Prelude.{slice_get}
use Rattle.std.proofs.lemmas.Option.{slice_get_read}
use Rattle.conc_restart.proofs.ReadSoFar.{bad-not_past, read_bad, read_more, read_none}
use Rattle.conc_restart.proofs.resuming.resume.Goals as goal

pub loop-place-init : goal.loop-place-init
loop-place-init c =
    read_none c.args.plan.now c.args.events.now c.in_ok-machine.machine c.in_ok-machine.ensures.plan c.in_ok-machine.ensures.readings c.in_ok-machine.ensures.stands

pub loop-place-preserved : goal.loop-place-preserved
loop-place-preserved c =
    let before = reverse (take c.loop-place.place c.args.events.now) in
    let there : slice_get c.args.events.now c.loop-place.place ≡ Some c.index-events-place.result =
    slice_get_read c.args.events.now _ c.loop-place.place c.index-events-place.result refl c.loop-place-test.true c.index-events-place.is in
    read_more c.args.plan.now c.args.events.now c.loop-place.machine c.apply.new.self c.loop-place.place c.index-events-place.result c.loop-place.invariant there
    (sym (c.judge.ensures before c.loop-place.invariant.stands) ∙ c.if-not-judge.false)
    c.apply.ensures.plan c.apply.ensures.readings (c.apply.ensures.stands before c.loop-place.invariant.stands)

pub returns-then-not-judge-clause-unlawful : goal.returns-then-not-judge-clause-unlawful
returns-then-not-judge-clause-unlawful c =
    let there : slice_get c.args.events.now c.loop-place.place ≡ Some c.index-events-place.result =
    slice_get_read c.args.events.now _ c.loop-place.place c.index-events-place.result refl c.loop-place-test.true c.index-events-place.is in
    read_bad c.args.plan.now c.args.events.now c.loop-place.machine c.loop-place.place c.index-events-place.result c.loop-place.invariant there
    (sym (c.judge.ensures (reverse (take c.loop-place.place c.args.events.now)) c.loop-place.invariant.stands) ∙ c.if-not-judge.true)

pub returns-then-not-judge-clause-lawful : goal.returns-then-not-judge-clause-lawful
returns-then-not-judge-clause-lawful c = λ past. absurd (bad-not_past c.args.plan.now c.args.events.now (c.loop-place.place + 1) (returns-then-not-judge-clause-unlawful c) past)
