use Rattle.std.proofs.Common.{false, Option, sym, ◌∙◌, ap}
use Rattle.conc_types.specs.declared.event.Outcome.{Outcome}
use Rattle.conc_history_replay.proofs.OfSets.{closed-kept, closed-own}
use Rattle.conc_history_replay.proofs.changes.after_close.Goals as goal

pub returns-then-is_own : goal.returns-then-is_own
returns-then-is_own c =
    ap (λ (o : Option Outcome). record c.args.own { opened = false; outcome = o }) c.or.ensures
    ∙ closed-own c.args.plan.now c.args.named c.args.set c.args.outcome c.args.r.now c.args.own (sym c.is_own.ensures ∙ c.if-is_own.true)

pub returns-then-is_some : goal.returns-then-is_some
returns-then-is_some c =
    closed-kept c.args.plan.now c.args.named c.args.set c.args.outcome c.args.r.now c.args.own
    (sym c.is_own.ensures ∙ c.if-is_own.false) (sym c.is_some.ensures ∙ c.if-is_some.true)
