use Rattle.conc_run_laws.proofs.RightLives.{finished-interrupts}
use Rattle.conc_run_laws.proofs.lives.a_finished_life_interrupts_what_ran.Goals as goal

pub returns : goal.returns
returns c plan readings found list r has going finished is = finished-interrupts plan readings found list going r has finished is
