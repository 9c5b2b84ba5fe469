use Rattle.std.proofs.Common.{◌≡◌, false, true, refl, pos, to_z, w64, arith}
use Rattle.jiff_core.proofs.SignedLemmas.{back_small}
use Rattle.conc_repeat.proofs.Months.{date_at, few_days, given, refused, too_far}
use Rattle.conc_repeat.proofs.courses.day_later.Goals as goal

none_is : false ≡ true → ⊥
none_is h = cc

pub returns-then-months-ge-CALENDAR_MONTHS-clause-day : goal.returns-then-months-ge-CALENDAR_MONTHS-clause-day
returns-then-months-ge-CALENDAR_MONTHS-clause-day c = too_far c.args.months c.args.from c.if-months-ge-CALENDAR_MONTHS.true

pub returns-in_default-clause-day : goal.returns-in_default-clause-day
returns-in_default-clause-day c =
    let back : to_z w64 c.args.months ≡ pos c.args.months = back_small w64 (pos c.args.months) (omega arith) in
    let only = rw back at (rw c.from.ensures at c.months.ensures) in
    refused c.args.months c.args.from c.date_of-day.result c.months.result only (date_at c.args.from c.date_of-day.result c.date_of-day.ensures)
    (λ can. none_is (c.in_default.ensures.succeeds.1 can))

pub returns-clause-day : goal.returns-clause-day
returns-clause-day c =
    let back : to_z w64 c.args.months ≡ pos c.args.months = back_small w64 (pos c.args.months) (omega arith) in
    let only = rw back at (rw c.from.ensures at c.months.ensures) in
    let at = date_at c.args.from c.date_of-day.result c.date_of-day.ensures in
    given c.args.months c.args.from c.date_of-day.result c.in-Ok.later c.months.result _ only at (c.in-Ok.ensures.succeeds.0 refl) c.in-Ok.ensures.value c.days_from_start.ensures

pub returns-clause-few : goal.returns-clause-few
returns-clause-few c =
    let at = date_at c.args.from c.date_of-day.result c.date_of-day.ensures in
    few_days c.args.months c.args.from _ at.valid.date (returns-clause-day c)
