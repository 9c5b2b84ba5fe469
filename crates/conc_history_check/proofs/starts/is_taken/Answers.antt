use Rattle.std.proofs.Common.{◌≡◌, ◌<◌, length, Some, sym, ◌∙◌, arith}
use Rattle.std.specs.Prelude.{slice_get}
use Rattle.conc_types.specs.declared.plan.Req.{Req}
use Rattle.conc_base_law.specs.Next.{runs_at}
use Rattle.conc_base_law.proofs.Positions.{slice_get-some}
use Rattle.conc_history_check.proofs.Anys.{any-here, any-later}
use Rattle.conc_history_check.proofs.Starting.{any-first, any-none, here-index, quiet-runs_at}
use Rattle.conc_history_check.proofs.starts.is_taken.Goals as goal

pub loop-i-init : goal.loop-i-init
loop-i-init c = any-first c.args.position.plan.now c.args.position.state.now c.args.position.active c.requires.active (runs_at c.args.position.state.now c.args.place) (quiet-runs_at c.args.position.plan.now c.args.position.state.now c.args.place)

pub returns-then-runs_here : goal.returns-then-runs_here
returns-then-runs_here c =
    let within : c.loop-i.i < length c.args.position.plan.now.requests = omega (arith, c.loop-i-test.true, c.requires.active.inside) in
    let w : (r : Req) × (slice_get c.args.position.plan.now.requests c.loop-i.i ≡ Some r) = slice_get-some c.args.position.plan.now.requests c.loop-i.i within in
    sym (sym c.loop-i.invariant ∙ any-here (runs_at c.args.position.state.now c.args.place) c.args.position.plan.now.requests c.loop-i.i w.0 w.1 (sym (here-index c.args.position.plan.now c.args.position.state.now c.args.place c.loop-i.i w.0 w.1) ∙ (sym c.runs_here.ensures ∙ c.if-runs_here.true)))

pub loop-i-preserved : goal.loop-i-preserved
loop-i-preserved c =
    let within : c.loop-i.i < length c.args.position.plan.now.requests = omega (arith, c.loop-i-test.true, c.requires.active.inside) in
    let w : (r : Req) × (slice_get c.args.position.plan.now.requests c.loop-i.i ≡ Some r) = slice_get-some c.args.position.plan.now.requests c.loop-i.i within in
    sym (any-later (runs_at c.args.position.state.now c.args.place) c.args.position.plan.now.requests c.loop-i.i w.0 w.1 (sym (here-index c.args.position.plan.now c.args.position.state.now c.args.place c.loop-i.i w.0 w.1) ∙ (sym c.runs_here.ensures ∙ c.if-runs_here.false))) ∙ c.loop-i.invariant

pub returns : goal.returns
returns c = sym (any-none c.args.position.plan.now c.args.position.state.now c.args.position.active c.requires.active (runs_at c.args.position.state.now c.args.place) (quiet-runs_at c.args.position.plan.now c.args.position.state.now c.args.place) c.loop-i.i (omega (arith, c.loop-i-test.false)) c.loop-i.invariant)
