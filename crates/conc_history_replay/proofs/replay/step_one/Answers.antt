use Rattle.std.proofs.Common.{◌-◌, ◌∙◌, arith}
use Rattle.conc_base_law.specs.State.{no_facts}
use Rattle.conc_history_replay.proofs.OneAlone.{alone-zero, one-pass}
use Rattle.conc_history_replay.proofs.replay.step_one.Goals as goal

pub returns-then-id-eq0 : goal.returns-then-id-eq0
returns-then-id-eq0 c = alone-zero c.args.plan.now no_facts c.args.e c.args.id _ c.requires c.if-id-eq0.true

pub returns : goal.returns
returns c =
    c.step_at.ensures
    ∙ one-pass c.args.plan.now no_facts c.args.e c.args.id (c.args.id.number - 1) c.args.facts.now c.requires (omega (arith, c.if-id-eq0.false))
