use Rattle.conc_base_posts.proofs.StandStill.{stand_still}
use Rattle.conc_base_posts.proofs.standing.tables_stand_still.Goals as goal

pub returns : goal.returns
returns c = λ plan history r program i j k apart lawful hr ofr interval. stand_still plan history r program i j apart lawful hr ofr interval k
