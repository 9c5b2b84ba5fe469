use Rattle.std.proofs.Common.{◌≡◌, ◌<◌, length, Some, refl, sym, ◌∙◌, arith}
use Rattle.std.specs.Prelude.{slice_get}
use Rattle.std.proofs.lemmas.Option.{slice_get_read}
use Rattle.conc_base_law.specs.Next.{may_start}
use Rattle.conc_history_check.proofs.Anys.{any-here, any-later}
use Rattle.conc_history_check.proofs.Starting.{any-first, any-none, quiet-may_start}
use Rattle.conc_history_check.proofs.starts.one_may_start.Goals as goal

pub loop-i-init : goal.loop-i-init
loop-i-init c = any-first c.args.position.plan.now c.args.position.state.now c.args.position.active c.requires.active (λ r. may_start c.args.position.plan.now c.args.position.state.now r c.args.place) (quiet-may_start c.args.position.plan.now c.args.position.state.now c.args.place)

pub returns-then-may_start : goal.returns-then-may_start
returns-then-may_start c =
    let within : c.loop-i.i < length c.args.position.plan.now.requests = omega (arith, c.loop-i-test.true, c.requires.active.inside) in
    let here : slice_get c.args.position.plan.now.requests c.loop-i.i ≡ Some c.index-as_slice-i.result =
    slice_get_read c.args.position.plan.now.requests _ c.loop-i.i _ refl within (rw c.as_slice.ensures at c.index-as_slice-i.is) in
    sym (sym c.loop-i.invariant ∙ any-here (λ r. may_start c.args.position.plan.now c.args.position.state.now r c.args.place) c.args.position.plan.now.requests c.loop-i.i c.index-as_slice-i.result here (sym c.may_start.ensures ∙ c.if-may_start.true))

pub loop-i-preserved : goal.loop-i-preserved
loop-i-preserved c =
    let within : c.loop-i.i < length c.args.position.plan.now.requests = omega (arith, c.loop-i-test.true, c.requires.active.inside) in
    let here : slice_get c.args.position.plan.now.requests c.loop-i.i ≡ Some c.index-as_slice-i.result =
    slice_get_read c.args.position.plan.now.requests _ c.loop-i.i _ refl within (rw c.as_slice.ensures at c.index-as_slice-i.is) in
    sym (any-later (λ r. may_start c.args.position.plan.now c.args.position.state.now r c.args.place) c.args.position.plan.now.requests c.loop-i.i c.index-as_slice-i.result here (sym c.may_start.ensures ∙ c.if-may_start.false)) ∙ c.loop-i.invariant

pub returns : goal.returns
returns c = sym (any-none c.args.position.plan.now c.args.position.state.now c.args.position.active c.requires.active (λ r. may_start c.args.position.plan.now c.args.position.state.now r c.args.place) (quiet-may_start c.args.position.plan.now c.args.position.state.now c.args.place) c.loop-i.i (omega (arith, c.loop-i-test.false)) c.loop-i.invariant)
