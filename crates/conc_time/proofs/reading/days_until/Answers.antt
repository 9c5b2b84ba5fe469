use Rattle.jiff_core.proofs.DateLemmas.{epoch_day_range}
use Rattle.conc_time.proofs.Calendars.{first_day, whole_days}
use Rattle.conc_time.proofs.reading.days_until.Goals as goal

pub returns : goal.returns
returns c =
    let first = first_day c.date.result c.date.ensures.0 c.date.ensures.1 c.date.ensures.2 in
    whole_days _ _ _ _ (epoch_day_range c.args.day) first c.duration_until.ensures c.as_hours.ensures
