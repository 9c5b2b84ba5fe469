use Rattle.conc_base_posts.proofs.StandStill.{report_stands}
use Rattle.conc_base_posts.proofs.standing.reports_stand_still.Goals as goal

pub returns : goal.returns
returns c = λ plan history r program i j k apart lawful hr ofr interval. report_stands plan history r program i j apart lawful hr ofr interval k
