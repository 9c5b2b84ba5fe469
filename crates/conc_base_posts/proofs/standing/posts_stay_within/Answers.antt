use Rattle.std.specs.Prelude.{reverse}
use Rattle.conc_base_posts.proofs.Within.{stays_within}
use Rattle.conc_base_posts.proofs.standing.posts_stay_within.Goals as goal

pub returns : goal.returns
returns c = λ plan history table apart lawful. stays_within plan table apart (reverse history) lawful
