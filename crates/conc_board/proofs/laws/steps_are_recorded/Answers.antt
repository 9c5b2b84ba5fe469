use Rattle.conc_board.proofs.Recorded.{posts_recorded, recorded}
use Rattle.conc_board.proofs.laws.steps_are_recorded.Goals as goal

pub returns-clause-found : goal.returns-clause-found
returns-clause-found c = recorded

pub returns-clause-posts : goal.returns-clause-posts
returns-clause-posts c = posts_recorded
