use Rattle.conc_base_law.proofs.Prefixes.{is_lawful_so_far-prefix}
use Rattle.conc_base_law.proofs.prefix_is_lawful_so_far.Goals as goal

pub returns : goal.returns
returns c = is_lawful_so_far-prefix
