use Rattle.conc_base_law.proofs.Prefixes.{is_lawful_so_far-prefix}
use Rattle.conc_run.proofs.Next.{left-good}
use Rattle.conc_run.proofs.laws.what_a_crash_leaves_is_good.Goals as goal

pub returns : goal.returns
returns c plan digests first last image len = left-good plan digests first last image len (is_lawful_so_far-prefix plan)
