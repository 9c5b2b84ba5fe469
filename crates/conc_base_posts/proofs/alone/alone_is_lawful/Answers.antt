use Rattle.conc_base_posts.proofs.AloneHistory.{alone_lawful}
use Rattle.conc_base_posts.proofs.alone.alone_is_lawful.Goals as goal

pub returns : goal.returns
returns c = alone_lawful
