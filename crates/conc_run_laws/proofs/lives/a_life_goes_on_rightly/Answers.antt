use Rattle.conc_run_laws.proofs.RightLives.{right-life}
use Rattle.conc_run_laws.proofs.lives.a_life_goes_on_rightly.Goals as goal

pub returns : goal.returns
returns c plan readings found list so_far going = right-life plan readings.list found list going readings.in_order
