use Rattle.conc_restart.proofs.LivesFit.{life_fits}
use Rattle.conc_restart.proofs.laws.life_fits_need.Goals as goal

pub returns : goal.returns
returns c = life_fits
