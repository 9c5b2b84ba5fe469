-- The day that lies so many months after a moment's day: what `jiff` says of it is what the law says.
use Rattle.std.proofs.Common.{◌≡◌, ◌∙◌, sym, subst, refl, ap, ℕ, ◌+◌, ◌*◌, ◌/◌, ◌%◌, ◌<◌, ◌≤◌, min, Bool, true, false, Option, Some, None, ℤ, pos, ◌+ℤ◌, ◌-ℤ◌, ◌<ℤ◌, ◌≤ℤ◌, unsigned_abs, MatchOption, IfSome, arith, lt-ltb}
use Rattle.std.specs.Prelude.{nat_le}
use Rattle.std.specs.Bool.{then_some}
use Rattle.std.proofs.lemmas.Bool.Decides.{nat_tests}
use Rattle.std.proofs.lemmas.Int.{by_lt_z}
use Rattle.jiff.proofs.SpanFacts.{signed_arith}
use Rattle.jiff_core.specs.declared.civil.date.Date.{Date}
use Rattle.jiff_core.specs.declared.span.Span.{Span}
use Rattle.jiff_core.specs.declared.unit.Unit.TheVariants.{Month, Hour, Minute, Second, Millisecond, Microsecond, Nanosecond}
use Rattle.jiff_core.specs.Calendar.{days_from_civil, days_in_month, IsEpochDay, IsYear}
use Rattle.jiff_core.specs.Date.{epoch_day}
use Rattle.jiff_core.specs.Span.{clock_days, IsOnly, magnitude, span_days, span_months}
use Rattle.jiff_core.proofs.CalendarLemmas.{days_in_month_bounds}
use Rattle.jiff_core.proofs.SignedLemmas.{one_part}
use Rattle.jiff_span.specs.Add.{CanAddToDate, date_add}
use Rattle.jiff_span.specs.Months.{add_months, shifted_year}
use Rattle.jiff_span.proofs.DifferenceLemmas.{signed_zero}
use Rattle.jiff_span.proofs.MonthLemmas.{shift_parts}
use Rattle.conc_types.specs.declared.event.Moment.{Moment}
use Rattle.conc_base_law.specs.Calendar.{Civil, days_before, moment_at, seconds_of}
use Rattle.conc_base_law.proofs.EqualEvents.{moment_same}
use Rattle.conc_time.proofs.Accepted.{placed}
use Rattle.conc_time.proofs.Calendars.{before_start, day_number, months_same}
use Rattle.conc_time.proofs.Dates.{days_in, has_civil}
use Rattle.conc_time.proofs.Days.{month_length}
use Rattle.conc_time.proofs.Numbers.{civil_same}
use Rattle.conc_time.proofs.Parts.{HasDate, IsCivil}
use Rattle.conc_time.proofs.Years.{date_found}
use Rattle.conc_repeat.specs.Moves.{civil_at, moment_by, moment_within, month_later, months_later, year_later}

-- the date of a moment is the one of its civil date
pub record IsDateAt (t : Moment) (d : Date) : Type 0 where
  pub valid : IsCivil (civil_at t)
  pub at : t.seconds ≡ seconds_of (civil_at t)
  pub year : d.year ≡ pos (civil_at t).year
  pub month : d.month ≡ (civil_at t).month
  pub day : d.day ≡ (civil_at t).day

-- a moment is the time of one date
civil_is : (t : Moment) (c : Civil) → IsCivil c → t.seconds ≡ seconds_of c → civil_at t ≡ c
unfolding seconds_of
civil_is t c h e =
    let hour_in = h.hour_in in
    let minute_in = h.minute_in in
    let second_in = h.second_in in
    let found = date_found c h.date in
    let day : t.seconds / 86400 ≡ days_before c = omega arith in
    let hour : t.seconds % 86400 / 3600 ≡ c.hour = omega arith in
    let minute : t.seconds % 86400 / 60 % 60 ≡ c.minute = omega arith in
    let second : t.seconds % 86400 % 60 ≡ c.second = omega arith in
    rw day (civil_same _ c found.year found.month found.day_in_month hour minute second)

abbrev with_time : Moment → Date → Civil
with_time t d = record {
  year = unsigned_abs d.year;
  month = d.month;
  day = d.day;
  hour = t.seconds % 86400 / 3600;
  minute = t.seconds % 86400 / 60 % 60;
  second = t.seconds % 86400 % 60;
}

from_first_year : (t : Moment) (d : Date) → epoch_day d ≡ pos (t.seconds / 86400) -ℤ pos 719162 → d.year ≡ pos (unsigned_abs d.year)
from_first_year t d e =
    let low : pos 1 ≤ℤ d.year =
    by_lt_z d.year (pos 1) (λ lt. let before = before_start d lt in absurd (omega (arith, signed_arith))) (λ ge. ge) in
    omega (arith, signed_arith, one_part d.year)

date_by : (t : Moment) (d : Date) (c : Civil) → civil_at t ≡ c → IsCivil c → t.seconds ≡ seconds_of c → d.year ≡ pos c.year → d.month ≡ c.month → d.day ≡ c.day → IsDateAt t d
date_by t d c same valid at year month day =
    record {
      valid = subst (λ (x : Civil). IsCivil x) (sym same) valid;
      at = subst (λ (x : Civil). t.seconds ≡ seconds_of x) (sym same) at;
      year = year ∙ ap (λ (x : Civil). pos x.year) (sym same);
      month = month ∙ ap (λ (x : Civil). x.month) (sym same);
      day = day ∙ ap (λ (x : Civil). x.day) (sym same);
    }

pub date_at : (t : Moment) (d : Date) → epoch_day d ≡ pos (t.seconds / 86400) -ℤ pos 719162 → IsDateAt t d
date_at t d e =
    let is = placed t d (with_time t d) e refl refl refl refl refl refl in
    date_by t d (with_time t d) (civil_is t (with_time t d) is.valid is.at) is.valid is.at (from_first_year t d e) refl refl

-- the date that is so many months later is one of the calendar, if its year is
pub later_date : (n : ℕ) (c : Civil) → HasDate c → year_later n c ≤ 9999 → HasDate (months_later n c)
unfolding months_later
later_date n c h few =
    let year_in = h.year_in in
    let day_in = h.day_in in
    let same = months_same (year_later n c) (month_later n c) (omega arith) (omega arith) in
    let long = days_in_month_bounds (pos (year_later n c)) (month_later n c) in
    record { year_in = (omega arith, few); month_in = (omega arith, omega arith); day_in = (omega arith, omega arith) }

-- and `jiff` has it at the same day
pub later_number : (n : ℕ) (c : Civil) (d : Date) → HasDate c → d.year ≡ pos c.year → d.month ≡ c.month → d.day ≡ c.day → year_later n c ≤ 9999
    → (shifted_year d (pos n) ≡ pos (year_later n c)) × (add_months d (pos n) +ℤ pos 719162 ≡ pos (days_before (months_later n c)))
later_number n c d h year month day few =
    let month_in = h.month_in in
    let parts = shift_parts d (pos n) (pos (year_later n c)) (month_later n c) (rw (year, month) (omega (arith, signed_arith))) (omega arith) (omega arith) in
    let same : days_in_month (pos (year_later n c)) (month_later n c) ≡ month_length (year_later n c) (month_later n c) =
    months_same (year_later n c) (month_later n c) (omega arith) (omega arith) in
    let number : days_from_civil (pos (year_later n c)) (month_later n c) (min c.day (month_length (year_later n c) (month_later n c))) +ℤ pos 719162 ≡ pos (days_before (months_later n c)) =
    unfold months_later in day_number (months_later n c) (later_date n c h few) in
    (parts.0, rw (parts.0, parts.1, day, same) number)

-- where the year is past the last one, `jiff` has no such year
pub no_year_later : (n : ℕ) (c : Civil) (d : Date) → 1 ≤ c.month → d.year ≡ pos c.year → d.month ≡ c.month → IsYear (shifted_year d (pos n)) → year_later n c ≤ 9999
no_year_later n c d low year month is =
    let parts = shift_parts d (pos n) (pos (year_later n c)) (month_later n c) (rw (year, month) (omega (arith, signed_arith))) (omega arith) (omega arith) in
    let most = rw parts.0 at is in
    omega (arith, signed_arith, most)

-- a span of months moves the date by as many
no_clock : (s : Span) → magnitude Hour s ≡ 0 → magnitude Minute s ≡ 0 → magnitude Second s ≡ 0 → magnitude Millisecond s ≡ 0 → magnitude Microsecond s ≡ 0 → magnitude Nanosecond s ≡ 0 → clock_days s ≡ pos 0
no_clock s a b c d e f = signed_zero s.negative _ (omega arith)

pub record MovesBy (n : ℕ) (d : Date) (s : Span) : Type 0 where
  pub months : span_months s ≡ pos n
  pub sum : date_add d s ≡ add_months d (pos n)

pub moves_by : (n : ℕ) (d : Date) (s : Span) → IsOnly Month (pos n) s → MovesBy n d s
moves_by n d s h =
    let months : span_months s ≡ pos n = omega (arith, signed_arith, h.months) in
    let days : span_days s ≡ pos 0 = omega (arith, signed_arith, h.days) in
    let clock : clock_days s ≡ pos 0 = no_clock s (h.others Hour (omega arith)) (h.others Minute (omega arith)) (h.others Second (omega arith)) (h.others Millisecond (omega arith)) (h.others Microsecond (omega arith)) (h.others Nanosecond (omega arith)) in
    record { months = months; sum = rw (months, days, clock) (omega (arith, signed_arith)) }

-- ---- what the move gives

abbrev day_by : ℕ → Moment → Option ℕ
day_by n t = then_some (nat_le (months_later n (civil_at t)).year 9999) (days_before (months_later n (civil_at t)))

year_is : (n : ℕ) (c : Civil) → (months_later n c).year ≡ year_later n c
unfolding months_later
year_is n c = refl

first_year : (t : Moment) → 1 ≤ (civil_at t).year
first_year t =
    let is = has_civil t in
    let year_in = is.valid.date.year_in in
    subst (λ (x : Civil). 1 ≤ x.year) (sym (civil_is t is.civil is.valid is.at)) year_in.0

le-false : (n : ℕ) → 9999 < n → nat_le n 9999 ≡ false
le-false n h = grind (arith, nat_tests)

le-true : (n : ℕ) → n ≤ 9999 → nat_le n 9999 ≡ true
le-true n h = grind (arith, nat_tests)

true-le : (n : ℕ) → nat_le n 9999 ≡ true → n ≤ 9999
true-le n h = grind (arith, nat_tests)

-- no move by so many months stays in the calendar
pub too_far : (n : ℕ) (t : Moment) → 119988 ≤ n → None ≡ day_by n t
too_far n t far =
    let low = first_year t in
    let past : nat_le (months_later n (civil_at t)).year 9999 ≡ false = rw year_is (le-false (year_later n (civil_at t)) (omega arith)) in
    rw past refl

-- where the year of the move is one of the calendar, `jiff` makes it
can_move : (n : ℕ) (t : Moment) (d : Date) (s : Span) → IsOnly Month (pos n) s → IsDateAt t d → year_later n (civil_at t) ≤ 9999 → CanAddToDate d s
can_move n t d s only at few =
    let moves = moves_by n d s only in
    let date = at.valid.date in
    let number = later_number n (civil_at t) d date at.year at.month at.day few in
    let sum = number.1 in
    let last = days_in (months_later n (civil_at t)) (later_date n (civil_at t) date few) in
    let shiftable : IsYear (shifted_year d (pos n)) = rw number.0 (omega (arith, signed_arith), omega (arith, signed_arith)) in
    let day : IsEpochDay (add_months d (pos n)) = (omega (arith, signed_arith), omega (arith, signed_arith)) in
    (rw moves.months shiftable, rw moves.sum day)

refused-by : (n : ℕ) (t : Moment) (d : Date) (s : Span) (b : Bool) → nat_le (months_later n (civil_at t)).year 9999 ≡ b → IsOnly Month (pos n) s → IsDateAt t d → (CanAddToDate d s → ⊥)
    → None ≡ then_some b (days_before (months_later n (civil_at t)))
refused-by n t d s true e only at not = absurd (not (can_move n t d s only at (true-le (year_later n (civil_at t)) (rw year_is at e))))
refused-by n t d s false e only at not = refl

-- where `jiff` refuses the move, the calendar has ended
pub refused : (n : ℕ) (t : Moment) (d : Date) (s : Span) → IsOnly Month (pos n) s → IsDateAt t d → (CanAddToDate d s → ⊥) → None ≡ day_by n t
refused n t d s only at not = refused-by n t d s _ refl only at not

some_from : (days : Option ℕ) (z : ℤ) (n : ℕ) → MatchOption days (z <ℤ pos 0) (λ m. pos m ≡ z) → z ≡ pos n → days ≡ Some n
some_from None z n h e = absurd (omega (arith, signed_arith))
some_from (Some m) z n h e = let same : m ≡ n = omega (arith, signed_arith) in rw same refl

-- where it gives a date, that is the date of the law
pub given : (n : ℕ) (t : Moment) (d later : Date) (s : Span) (days : Option ℕ) → IsOnly Month (pos n) s → IsDateAt t d → CanAddToDate d s → epoch_day later ≡ date_add d s
    → MatchOption days ((epoch_day later +ℤ pos 719162) <ℤ pos 0) (λ m. pos m ≡ epoch_day later +ℤ pos 719162) → days ≡ day_by n t
given n t d later s days only at can is h =
    let moves = moves_by n d s only in
    let date = at.valid.date in
    let shiftable = rw moves.months at can.0 in
    let few : year_later n (civil_at t) ≤ 9999 = no_year_later n (civil_at t) d date.month_in.0 at.year at.month shiftable in
    let number = later_number n (civil_at t) d date at.year at.month at.day few in
    let sum : epoch_day later +ℤ pos 719162 ≡ pos (days_before (months_later n (civil_at t))) = rw (is, moves.sum) number.1 in
    let in_calendar : nat_le (months_later n (civil_at t)).year 9999 ≡ true = rw year_is (le-true (year_later n (civil_at t)) few) in
    rw in_calendar (some_from days _ _ h sum)

within : (n : ℕ) (t : Moment) (b : Bool) → nat_le (months_later n (civil_at t)).year 9999 ≡ b → HasDate (civil_at t) → IfSome (then_some b (days_before (months_later n (civil_at t)))) (λ m. m < 3652059)
within n t true e date =
    days_in (months_later n (civil_at t)) (later_date n (civil_at t) date (true-le (year_later n (civil_at t)) (rw year_is at e)))
within n t false e date = tt

-- and lies before the end of the calendar
pub few_days : (n : ℕ) (t : Moment) (days : Option ℕ) → HasDate (civil_at t) → days ≡ day_by n t → IfSome days (λ m. m < 3652059)
few_days n t days date e = rw e (within n t _ refl date)

-- ---- moments

-- no day, no moment
pub no_moment : (c : Civil) → None ≡ then_some (nat_le c.year 9999) (days_before c) → None ≡ moment_by c
unfolding moment_by
no_moment c e = by _ e
  where
    by : (b : Bool) → None ≡ then_some b (days_before c) → None ≡ then_some b (moment_at (seconds_of c))
    by true e = absurd cc
    by false e = refl

seconds_later : (n : ℕ) (t : Moment) → seconds_of (months_later n (civil_at t)) ≡ 86400 * days_before (months_later n (civil_at t)) + t.seconds % 86400
unfolding seconds_of months_later
seconds_later n t = omega arith

-- the time of the day stays
pub moment_later : (n : ℕ) (t : Moment) (day : ℕ) (m : Moment) → m.seconds ≡ 86400 * day + t.seconds % 86400 → Some day ≡ day_by n t → Some m ≡ moment_by (months_later n (civil_at t))
unfolding moment_by moment_at
moment_later n t day m is e = by _ e
  where
    by : (b : Bool) → Some day ≡ then_some b (days_before (months_later n (civil_at t))) → Some m ≡ then_some b (moment_at (seconds_of (months_later n (civil_at t))))
    by true e =
        let same : day ≡ days_before (months_later n (civil_at t)) = cc in
        let civil = m.civil in
        ap Some (moment_same m (moment_at (seconds_of (months_later n (civil_at t)))) (omega (arith, seconds_later n t)))
    by false e = absurd cc

-- a moment of the calendar by its seconds
pub moment_of_seconds : (m : Moment) → Some m ≡ moment_within m.seconds
unfolding moment_at
moment_of_seconds m =
    let civil = m.civil in
    rw (lt-ltb m.seconds 315537897600 civil) (ap Some (moment_same m (moment_at m.seconds) (omega arith)))
