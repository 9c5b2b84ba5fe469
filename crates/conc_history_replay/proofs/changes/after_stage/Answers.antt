use Rattle.std.proofs.Common.{sym, ◌∙◌}
use Rattle.conc_history_replay.proofs.OfSets.{stage-not, stage-own}
use Rattle.conc_history_replay.proofs.changes.after_stage.Goals as goal

pub returns-then-not-is_own : goal.returns-then-not-is_own
returns-then-not-is_own c = λ plan named. stage-not plan named c.args.set c.args.stage c.args.r.now c.args.own (sym c.is_own.ensures ∙ c.if-not-is_own.true)

pub returns : goal.returns
returns c = λ plan named.
    stage-own plan named c.args.set c.args.stage c.args.r.now c.args.own c.with-begun.result (sym c.is_own.ensures ∙ c.if-not-is_own.false) c.with-begun.ensures
