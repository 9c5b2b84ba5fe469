use Rattle.std.proofs.Common.{sym, ◌∙◌}
use Rattle.conc_history_replay.proofs.OfSets.{opened-not, opened-own}
use Rattle.conc_history_replay.proofs.changes.after_open.Goals as goal

pub returns-then-not-opens : goal.returns-then-not-opens
returns-then-not-opens c = λ plan named. opened-not plan named c.args.set c.args.r.now c.args.own (sym c.opens.ensures ∙ c.if-not-opens.true)

pub returns : goal.returns
returns c = λ plan named. opened-own plan named c.args.set c.args.r.now c.args.own (sym c.opens.ensures ∙ c.if-not-opens.false)
