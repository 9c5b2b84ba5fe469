use Rattle.conc_setup.proofs.Proven.{rule-made}
use Rattle.conc_setup.proofs.manager.rule_for.Goals as goal

pub returns : goal.returns
returns c = rule-made c.args.raw.now c.args.program _ _ _ c.in_ok-copy_of_text.ensures c.in_ok-copy_of_name.ensures
