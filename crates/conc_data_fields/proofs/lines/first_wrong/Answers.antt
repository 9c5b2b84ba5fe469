use Rattle.conc_data_fields.proofs.FirstWrong.{first_wrong-none, first_wrong-some}
use Rattle.conc_data_fields.proofs.lines.first_wrong.Goals as goal

pub returns-clause-first : goal.returns-clause-first
returns-clause-first g c = rw c.wrong_from.ensures (first_wrong-some c.args.line c.args.all.now)

pub returns-clause-none : goal.returns-clause-none
returns-clause-none g c = rw c.wrong_from.ensures (first_wrong-none c.args.line c.args.all.now)
