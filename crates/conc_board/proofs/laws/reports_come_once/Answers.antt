use Rattle.conc_board.proofs.Courses.{goes, takes}
use Rattle.conc_board.proofs.laws.reports_come_once.Goals as goal

pub returns-clause-goes : goal.returns-clause-goes
returns-clause-goes c = takes

pub returns-clause-once : goal.returns-clause-once
returns-clause-once c = goes
