use Rattle.conc_view.specs.Opened.{name_of}
use Rattle.conc_run_watched.proofs.watched.run_watched.Given as goal

-- the name of what was just opened
abbrev pub ghosts-run_viewed : goal.ghosts-run_viewed
ghosts-run_viewed g a = record { name = name_of a.opened }
