use Rattle.conc_run_watched.proofs.Ending.{of-some-and}
use Rattle.conc_run_watched.proofs.watched.Scene.run_told_beside.Goals as goal

pub returns-clause-ended : goal.returns-clause-ended
returns-clause-ended g c =
    of-some-and c.run_and_watch.new.answer c.in-Some.answer _ c.in-Some.is c.run_and_watch.ensures.ended
