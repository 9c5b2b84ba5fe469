use Rattle.conc_base_posts.proofs.Finishes.{next_alone-none}
use Rattle.conc_base_posts.proofs.alone.alone_finishes.Goals as goal

pub returns : goal.returns
returns c = next_alone-none
