use Rattle.std.proofs.Common.{refl}
use Rattle.conc_time.proofs.Accepted.{day_of_month, month_number, placed, year_number}
use Rattle.conc_time.proofs.Parts.{from_parts}
use Rattle.conc_time.proofs.moments.civil_at.Goals as goal

pub returns : goal.returns
returns c =
    let date = c.date_of-date.result in
    let moment =
    placed c.args.moment date _ c.date_of-date.ensures
    (year_number date _ c.year.result c.unsigned_abs.ensures.value c.year.ensures)
    (month_number date _ c.month.result c.unsigned_abs-2.ensures.value c.month.ensures)
    (day_of_month date _ c.day.result c.unsigned_abs-3.ensures.value c.day.ensures)
    refl refl refl in
    record { valid = from_parts _ moment.valid; at = moment.at }
