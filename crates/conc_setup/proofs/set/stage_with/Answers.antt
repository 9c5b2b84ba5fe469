use Rattle.conc_setup.proofs.Proven.{stage-made}
use Rattle.conc_setup.proofs.set.stage_with.Goals as goal

pub returns : goal.returns
returns c = stage-made c.args.raw.now _ c.args.links c.args.members _ _ c.in_ok-name.ensures
