use Rattle.std.proofs.Common.{◌≡◌, Option, None, Some, sym, ◌∙◌}
use Rattle.conc_types.specs.declared.plan.Req.{Req}
use Rattle.conc_history_check.proofs.Brought.{has-come, least-start, none-earlier}
use Rattle.conc_history_check.proofs.coming.come_with.Goals as goal

pub returns-then-has_come : goal.returns-then-has_come
returns-then-has_come c =
    has-come c.args.plan.now c.args._coming.now c.args.now c.args.key c.in-Some.r.now c.requires.keys c.requires.least (sym c.in-Some.ensures)
    (sym c.has_come.ensures ∙ c.if-has_come.true)

pub returns-else-has_come : goal.returns-else-has_come
returns-else-has_come c =
    none-earlier c.args.plan.now c.args._coming.now c.args.now c.args.key c.in-Some.r.now c.requires.keys c.requires.least (sym c.in-Some.ensures)
    (sym c.has_come.ensures ∙ c.if-has_come.false)

pub returns-in-None : goal.returns-in-None
returns-in-None c = λ r key has at.
    let f = least-start c.args.plan.now c.args._coming.now c.args.key c.requires.keys c.requires.least in
    let e : ◌≡◌ {A = Option Req} None (Some f.0) = c.in-None.ensures ∙ f.3 in
    cc
