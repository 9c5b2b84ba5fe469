use Rattle.conc_base_posts.proofs.Added.{posts_more}
use Rattle.conc_base_posts.proofs.posts_grow.Goals as goal

pub returns : goal.returns
returns c = posts_more
