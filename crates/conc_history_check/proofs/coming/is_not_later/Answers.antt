use Rattle.conc_history_check.proofs.Brought.{none-later, not-later}
use Rattle.conc_history_check.proofs.coming.is_not_later.Goals as goal

pub returns-in-None-default : goal.returns-in-None-default
returns-in-None-default c = λ same. none-later c.args.before c.args.now c.in-None-default.is-0

pub returns-in-Some-Some : goal.returns-in-Some-Some
returns-in-Some-Some c = λ le. not-later c.args.before c.args.now c.in-Some-Some.b c.in-Some-Some.n c.in-Some-Some.is-0 c.in-Some-Some.is-1 le
