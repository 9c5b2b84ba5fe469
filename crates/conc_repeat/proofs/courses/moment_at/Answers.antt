use Rattle.conc_repeat.proofs.Months.{moment_of_seconds}
use Rattle.conc_repeat.proofs.courses.moment_at.Goals as goal

pub returns-then-seconds-lt-CALENDAR_SECONDS : goal.returns-then-seconds-lt-CALENDAR_SECONDS
returns-then-seconds-lt-CALENDAR_SECONDS c = moment_of_seconds _
