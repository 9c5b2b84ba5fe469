use Rattle.conc_setup.proofs.Proven.{setup-made}
use Rattle.conc_setup.proofs.third_pass.setup_with.Goals as goal

pub returns : goal.returns
returns c = setup-made c.args.tables c.args.programs c.args.entries c.args.managers c.args.sets _ _ _ _ _ _ _ _
