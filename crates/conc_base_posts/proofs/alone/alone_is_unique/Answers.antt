use Rattle.conc_base_posts.proofs.AloneUnique.{alone_unique}
use Rattle.conc_base_posts.proofs.alone.alone_is_unique.Goals as goal

pub returns : goal.returns
returns c = alone_unique
