use Rattle.std.proofs.Common.{sym, ◌∙◌}
use Rattle.std.proofs.lemmas.Bool.{and_from, and_left, and_right}
use Rattle.conc_base_law.specs.Next.{is_ready}
use Rattle.conc_history_check.proofs.Turns.{better-before, better-not, may_let-parts, ready-not_live}
use Rattle.conc_history_check.proofs.lets.better.Goals as goal

pub returns-then-not-is_ready : goal.returns-then-not-is_ready
returns-then-not-is_ready c =
    better-not c.args.best _ _
    (may_let-parts _ _ c.args.r.now ∙ and_left (is_ready c.args.position.plan.now c.args.position.state.now c.args.r.now) _ (sym c.is_ready.ensures ∙ c.if-not-is_ready.true))

pub returns-then-not-is_free : goal.returns-then-not-is_free
returns-then-not-is_free c =
    better-not c.args.best _ _
    (may_let-parts _ _ c.args.r.now ∙ and_right (is_ready c.args.position.plan.now c.args.position.state.now c.args.r.now) _ (sym c.is_free.ensures ∙ c.if-not-is_free.true))

pub returns : goal.returns
returns c =
    rw c.turn-turn.ensures
    (better-before c.args.best _ _ (rw c.turn-turn.ensures at (sym c.comes_before.ensures ∙ c.if-not-comes_before.false))
    (may_let-parts _ _ c.args.r.now
    ∙ and_from (is_ready c.args.position.plan.now c.args.position.state.now c.args.r.now) _ (sym c.is_ready.ensures ∙ c.if-not-is_ready.false)
    (sym c.is_free.ensures ∙ c.if-not-is_free.false)))

pub is_free-requires-clause-idle : goal.is_free-requires-clause-idle
is_free-requires-clause-idle c = ready-not_live _ _ c.args.r.now (sym c.is_ready.ensures ∙ c.if-not-is_ready.false)
