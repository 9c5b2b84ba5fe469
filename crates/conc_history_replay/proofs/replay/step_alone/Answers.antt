use Rattle.std.proofs.Common.{◌≡◌, ◌-◌, None, Some, sym, ◌∙◌, ap, arith}
use Rattle.std.specs.Prelude.{slice_get, slice_set}
use Rattle.std.specs.Option.{option_copied_mut}
use Rattle.conc_history_replay.proofs.OneAlone.{alone-missing, alone-past, alone-there, alone-zero, one-of-alone}
use Rattle.conc_history_replay.proofs.replay.step_alone.Goals as goal

pub returns-then-id-eq0 : goal.returns-then-id-eq0
returns-then-id-eq0 c = λ named. alone-zero c.args.plan.now named c.args.e c.args.id _ (one-of-alone c.args.e c.args.id c.requires) c.if-id-eq0.true

pub returns-then-id-len : goal.returns-then-id-len
returns-then-id-len c = λ named. alone-past c.args.plan.now named c.args.e c.args.id _ (one-of-alone c.args.e c.args.id c.requires) (omega (arith, c.if-id-len.true, c.len.ensures))

pub returns-in-Some : goal.returns-in-Some
returns-in-Some c = λ named.
    let here : slice_get c.args.facts.now (c.args.id.number - 1) ≡ Some c.in-Some.own.now =
    sym c.get_mut.ensures.value ∙ ap option_copied_mut c.in-Some.is in
    ap (slice_set c.args.facts.now (c.args.id.number - 1)) c.change_alone.ensures
    ∙ alone-there c.args.plan.now named c.args.e c.args.id (c.args.id.number - 1) c.args.facts.now c.in-Some.own.now c.requires
    (omega (arith, c.if-id-eq0.false)) (omega (arith, c.if-id-eq0.false, c.if-id-len.false, c.len.ensures)) here

pub returns-in_default : goal.returns-in_default
returns-in_default c = λ named.
    let none : slice_get c.args.facts.now (c.args.id.number - 1) ≡ None =
    sym c.get_mut.ensures.value ∙ ap option_copied_mut c.in_default.is in
    alone-missing c.args.plan.now named c.args.e c.args.id (c.args.id.number - 1) c.args.facts.now c.requires
    (omega (arith, c.if-id-eq0.false)) (omega (arith, c.if-id-eq0.false, c.if-id-len.false, c.len.ensures)) none
