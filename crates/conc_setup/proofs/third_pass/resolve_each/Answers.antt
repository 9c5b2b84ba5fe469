use Rattle.conc_setup.proofs.Kept.{distinct-stages}
use Rattle.conc_setup.proofs.third_pass.resolve_each.Goals as goal

pub resolve_sets-requires : goal.resolve_sets-requires
resolve_sets-requires c = rw c.as_slice-5.ensures (distinct-stages c.args.raw.now c.requires.few c.requires.named)
