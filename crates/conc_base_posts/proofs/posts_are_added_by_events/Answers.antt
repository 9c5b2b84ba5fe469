use Rattle.conc_base_posts.proofs.Added.{posts_added}
use Rattle.conc_base_posts.proofs.posts_are_added_by_events.Goals as goal

pub returns : goal.returns
returns c = posts_added
