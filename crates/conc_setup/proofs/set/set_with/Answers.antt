use Rattle.conc_setup.proofs.Proven.{set-made}
use Rattle.conc_setup.proofs.set.set_with.Goals as goal

pub returns : goal.returns
returns c = set-made c.args.name.now _ c.args.stages _ _ c.in_ok-name.ensures
