use Rattle.std.proofs.Common.{◌∙◌, refl}
use Rattle.conc_repeat.proofs.Months.{moment_later, no_moment}
use Rattle.conc_repeat.specs.Moves.{civil_at, months_later}
use Rattle.conc_repeat.proofs.courses.months_after.Goals as goal

pub returns-in_err-day : goal.returns-in_err-day
returns-in_err-day c = c.from_residual.ensures ∙ no_moment (months_later c.args.months (civil_at c.args.from)) c.in_err-day.ensures.day

pub returns : goal.returns
returns c = moment_later c.args.months c.args.from c.in_ok-day.day _ refl c.in_ok-day.ensures.day
