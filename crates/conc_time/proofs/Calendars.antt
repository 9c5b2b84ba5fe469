-- The calendar of the law and that of `jiff` are one.
use Rattle.std.proofs.Common.{◌≡◌, ap, refl, ℕ, zero, suc, ◌+◌, ◌-◌, ◌%◌, ◌≤◌, ℤ, pos, ◌+ℤ◌, ◌*ℤ◌, ◌-ℤ◌, ◌<ℤ◌, int_div, of_z, to_z, w64, arith}
use Rattle.jiff.proofs.SpanFacts.{signed_arith}
use Rattle.jiff_core.specs.declared.civil.date.Date.{Date}
use Rattle.jiff_core.specs.Calendar.{day_count, days_from_civil, days_in_month, days_in_year as days_in_year_z, days_of_months, IsEpochDay, weekday_number}
use Rattle.jiff_core.specs.Date.{epoch_day}
use Rattle.jiff_core.proofs.CalendarLemmas.{day_count-day_of_year, day_count-lt_year, day_count-next_year, days_from_civil-day_count, days_in_month_bounds, days_of_months-zero, days_of_months_more, weekday_number-parts}
use Rattle.jiff_core.proofs.DateLemmas.{civil}
use Rattle.jiff_core.proofs.SignedLemmas.{back_small, one_part}
use Rattle.jiff_core.proofs.MarchLemmas.{day_count-early}
use Rattle.conc_base_law.specs.Calendar.{Civil, days_before, days_in_year, month_lengths}
use Rattle.conc_base_law.specs.Moments.{days_before_month, days_before_year, is_leap}
use Rattle.conc_time.proofs.Parts.{HasDate}
use Rattle.conc_time.proofs.Days.{days_apart, first_month, month_length, next_month, next_year}

years_same : (year : ℕ) → days_in_year_z (pos year) ≡ days_in_year year
unfolding is_leap
years_same year = refl

pub months_same : (year month : ℕ) → 1 ≤ month → month ≤ 12 → days_in_month (pos year) month ≡ month_length year month
unfolding is_leap month_lengths
months_same year zero low high = absurd (omega arith)
months_same year (suc zero) low high = refl
months_same year (suc (suc zero)) low high = refl
months_same year (suc (suc (suc zero))) low high = refl
months_same year (suc (suc (suc (suc zero)))) low high = refl
months_same year (suc (suc (suc (suc (suc zero))))) low high = refl
months_same year (suc (suc (suc (suc (suc (suc zero)))))) low high = refl
months_same year (suc (suc (suc (suc (suc (suc (suc zero))))))) low high = refl
months_same year (suc (suc (suc (suc (suc (suc (suc (suc zero)))))))) low high = refl
months_same year (suc (suc (suc (suc (suc (suc (suc (suc (suc zero))))))))) low high = refl
months_same year (suc (suc (suc (suc (suc (suc (suc (suc (suc (suc zero)))))))))) low high = refl
months_same year (suc (suc (suc (suc (suc (suc (suc (suc (suc (suc (suc zero))))))))))) low high = refl
months_same year (suc (suc (suc (suc (suc (suc (suc (suc (suc (suc (suc (suc zero)))))))))))) low high = refl
months_same year (suc (suc (suc (suc (suc (suc (suc (suc (suc (suc (suc (suc (suc n))))))))))))) low high = absurd (omega arith)

pub month_short : (year month : ℕ) → 1 ≤ month → month ≤ 12 → month_length year month ≤ 31
month_short year month low high =
    omega (arith, months_same year month low high, days_in_month_bounds (pos year) month)

-- the days before a month, and before a year
before_month : (year n : ℕ) → n ≤ 12 → days_of_months (pos year) n ≡ days_before_month year (n + 1)
before_month year zero h = let e : 0 + 1 ≡ 1 = refl in rw (e, first_month year) (days_of_months-zero (pos year))
before_month year (suc n) h =
    let e : suc n - 1 ≡ n = omega arith in
    let next : suc n ≡ n + 1 = omega arith in
    let more = rw e at (days_of_months_more (pos year) (suc n) (omega arith)) in
    let same = months_same year (suc n) (omega arith) h in
    let longer = next_month year (suc n) (omega arith) h in
    omega (arith, before_month year n (omega arith), ap (days_before_month year) next)

before_year : (n : ℕ) → day_count (pos (n + 1)) 1 1 ≡ 3652791 + days_before_year (n + 1)
unfolding days_before_year
before_year zero = day_count-early (pos 1) 10000 1 1 refl (omega arith) (omega arith) (omega arith)
before_year (suc n) =
    let next : suc n + 1 ≡ n + 1 + 1 = omega arith in
    let more = day_count-next_year (pos (n + 1)) (pos (suc n + 1)) (omega (arith, signed_arith)) (omega (arith, signed_arith)) in
    omega (arith, before_year n, next_year (n + 1) (omega arith), ap days_before_year next, years_same (n + 1))

first_year : days_before_year 1 ≡ 0
unfolding days_before_year
first_year = refl

-- the day number of a date
pub day_number : (c : Civil) → HasDate c → days_from_civil (pos c.year) c.month c.day +ℤ pos 719162 ≡ pos (days_before c)
day_number c h =
    let year_in = h.year_in in
    let month_in = h.month_in in
    let day_in = h.day_in in
    let apart = days_apart c year_in.0 in
    let year : c.year - 1 + 1 ≡ c.year = omega arith in
    let month : c.month - 1 + 1 ≡ c.month = omega arith in
    let years = rw year at (before_year (c.year - 1)) in
    let months = rw month at (before_month c.year (c.month - 1) (omega arith)) in
    omega (arith, signed_arith, days_from_civil-day_count (pos c.year) c.month c.day, day_count-day_of_year (pos c.year) c.month c.day day_in.0)

-- weekdays
pub weekday_same : (day : ℕ) (z : ℤ) → z ≡ pos day -ℤ pos 719162 → weekday_number z ≡ day % 7
weekday_same day z e = omega (arith, signed_arith, weekday_number-parts z)

-- 0001-01-01
pub first_day : (d : Date) → d.year ≡ pos 1 → pos d.month ≡ pos 1 → pos d.day ≡ pos 1 → epoch_day d +ℤ pos 719162 ≡ pos 0
first_day d year month day =
    let month_is : d.month ≡ 1 = omega (arith, signed_arith) in
    let day_is : d.day ≡ 1 = omega (arith, signed_arith) in
    rw (year, month_is, day_is) (omega (arith, signed_arith, days_from_civil-day_count (pos 1) 1 1, before_year 0, first_year))

-- the days in the time between two dates
pub whole_days : (day first nanos hours : ℤ) → IsEpochDay day → first +ℤ pos 719162 ≡ pos 0 → nanos ≡ (day -ℤ first) *ℤ pos 86_400_000_000_000 → hours ≡ int_div nanos (pos 3_600_000_000_000)
    → to_z w64 (of_z w64 (int_div (to_z w64 (of_z w64 hours)) (pos 24))) ≡ day +ℤ pos 719162
whole_days day first nanos hours range start apart divided =
    let exact : hours ≡ (day +ℤ pos 719162) *ℤ pos 24 = omega (arith, signed_arith) in
    let days : int_div hours (pos 24) ≡ day +ℤ pos 719162 = omega (arith, signed_arith) in
    rw (back_small w64 hours (omega (arith, signed_arith, one_part hours)), days, back_small w64 (day +ℤ pos 719162) (omega (arith, signed_arith, one_part (day +ℤ pos 719162)))) refl

-- the dates before 0001-01-01 are those of the years before 1
pub before_start : (d : Date) → d.year <ℤ pos 1 → (epoch_day d +ℤ pos 719162) <ℤ pos 0
before_start d h =
    let less = day_count-lt_year d.year d.month d.day (pos 1) 1 1 (civil d) (omega arith) h in
    omega (arith, signed_arith, days_from_civil-day_count d.year d.month d.day, before_year 0, first_year)
