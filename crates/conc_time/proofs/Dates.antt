-- Each moment is the time of one date, and its text is theirs.
use Rattle.std.proofs.Common.{◌≡◌, refl, ℕ, ◌+◌, ◌-◌, ◌*◌, ◌/◌, ◌%◌, ◌<◌, ◌≤◌, inl, inr, Bool, true, false, arith}
use Rattle.std.specs.Prelude.{nat_lt}
use Rattle.std.proofs.lemmas.Bool.{cases_order}
use Rattle.std.proofs.lemmas.Bool.Decides.{nat_tests}
use Rattle.conc_types.specs.declared.event.Moment.{Moment}
use Rattle.conc_base_law.specs.Calendar.{Civil, civil_text, days_before, is_civil, seconds_of}
use Rattle.conc_base_law.specs.Moments.{date_text, days_before_month, days_before_year, moment_text, time_text}
use Rattle.conc_time.proofs.Days.{all_months, days_apart, first_month, month_length, next_month, next_year}
use Rattle.conc_time.proofs.Parts.{HasDate, IsCivil, parts_of}
use Rattle.conc_time.proofs.Years.{date_found, first_from, months_grow, years_grow}

ends : days_before_year 10000 ≡ 3652059
unfolding days_before_year
ends = refl

begins : days_before_year 1 ≡ 0
unfolding days_before_year
begins = refl

-- a date lies before the end of the calendar
pub days_in : (c : Civil) → HasDate c → days_before c < 3652059
days_in c h =
    let year_in = h.year_in in
    let month_in = h.month_in in
    let day_in = h.day_in in
    let apart = days_apart c year_in.0 in
    let months = next_month c.year c.month month_in.0 month_in.1 in
    let grow = months_grow c.year (c.month + 1) 13 (omega arith) (omega arith) (omega arith) in
    let all = all_months c.year in
    let years = next_year c.year year_in.0 in
    let last = years_grow (c.year + 1) 10000 (omega arith) (omega arith) in
    omega (arith, ends)

-- the text of a moment is that of its date and time
pub text_of : (t : Moment) (c : Civil) → IsCivil c → t.seconds ≡ seconds_of c → moment_text t ≡ civil_text c
unfolding seconds_of moment_text date_text time_text civil_text
text_of t c h e =
    let hour_in = h.hour_in in
    let minute_in = h.minute_in in
    let second_in = h.second_in in
    let day : t.seconds / 86400 ≡ days_before c = omega arith in
    let hour : t.seconds % 86400 / 3600 ≡ c.hour = omega arith in
    let minute : t.seconds % 86400 / 60 % 60 ≡ c.minute = omega arith in
    let second : t.seconds % 86400 % 60 ≡ c.second = omega arith in
    let found = date_found c h.date in
    rw (day, found.year, found.month, found.day_in_month, hour, minute, second) refl

-- the same from the test
pub text_at : (t : Moment) (c : Civil) → is_civil c ≡ true → t.seconds ≡ seconds_of c → moment_text t ≡ civil_text c
text_at t c h e = text_of t c (parts_of c h) e

pub record HasCivil (t : Moment) : Type 0 where
  pub civil : Civil
  pub valid : IsCivil civil
  pub at : t.seconds ≡ seconds_of civil

-- the first number begins after what ends before it
starts : (day : ℕ) (before : ℕ → ℕ) (from found : ℕ) → before from ≤ day → from ≤ found → ((n : ℕ) → from ≤ n → n < found → nat_lt day (before (n + 1)) ≡ false) → before found ≤ day
starts day before from found low h miss =
    elim (cases_order from found) [
      | inl e ↦ rw e at low
      | inr (inl lt) ↦
          let e : found - 1 + 1 ≡ found = omega arith in
          let last = rw e at (miss (found - 1) (omega arith) (omega arith)) in
          grind (arith, nat_tests)
      | inr (inr gt) ↦ absurd (omega arith)
    ]

pub record IsDateOf (day : ℕ) : Type 0 where
  pub year : ℕ
  pub month : ℕ
  pub year_in : (1 ≤ year) × (year ≤ 9999)
  pub month_in : (1 ≤ month) × (month ≤ 12)
  pub low : days_before_year year + days_before_month year month ≤ day
  pub high : day < days_before_year year + days_before_month year month + month_length year month

date_of : (day : ℕ) → day < 3652059 → IsDateOf day
date_of day h =
    let in_year : ℕ → Bool = λ y. nat_lt day (days_before_year (y + 1)) in
    let y = first_from in_year 1 9998 (rw ends (grind (arith, nat_tests))) in
    let year_low = y.first.low in
    let year_high = y.high in
    let hit = y.first.hit in
    let before : days_before_year y.found ≤ day = starts day days_before_year 1 y.found (rw begins (omega arith)) year_low y.first.miss in
    let after : day < days_before_year (y.found + 1) = grind (arith, nat_tests) in
    let long = next_year y.found year_low in
    let rest : day - days_before_year y.found < days_before_month y.found 13 = omega (arith, all_months y.found) in
    let in_month : ℕ → Bool = λ m. nat_lt (day - days_before_year y.found) (days_before_month y.found (m + 1)) in
    let m = first_from in_month 1 11 (grind (arith, nat_tests)) in
    let month_low = m.first.low in
    let month_high = m.high in
    let month_hit = m.first.hit in
    let month_before : days_before_month y.found m.found ≤ day - days_before_year y.found = starts (day - days_before_year y.found) (days_before_month y.found) 1 m.found (rw (first_month y.found) (omega arith)) month_low m.first.miss in
    let month_after : day - days_before_year y.found < days_before_month y.found (m.found + 1) = grind (arith, nat_tests) in
    let length = next_month y.found m.found month_low month_high in
    record {
      year = y.found;
      month = m.found;
      year_in = (year_low, year_high);
      month_in = (month_low, month_high);
      low = omega arith;
      high = omega arith;
    }

civil_at : ℕ → (day : ℕ) → IsDateOf day → Civil
civil_at time day d = record {
  year = d.year;
  month = d.month;
  day = day - days_before_year d.year - days_before_month d.year d.month + 1;
  hour = time / 3600;
  minute = time / 60 % 60;
  second = time % 60;
}

civil_at-is : (time day : ℕ) (d : IsDateOf day) → time < 86400 → IsCivil (civil_at time day d)
unfolding civil_at
civil_at-is time day d h =
    let low = d.low in
    let high = d.high in
    record {
      date = record { year_in = d.year_in; month_in = d.month_in; day_in = (omega arith, omega arith) };
      hour_in = omega arith;
      minute_in = omega arith;
      second_in = omega arith;
    }

civil_at-seconds : (time day : ℕ) (d : IsDateOf day) → time < 86400 → seconds_of (civil_at time day d) ≡ 86400 * day + time
unfolding civil_at seconds_of
civil_at-seconds time day d h =
    let low = d.low in
    let year_in = d.year_in in
    let apart = days_apart (civil_at time day d) year_in.0 in
    omega arith

-- each moment is a date and a time of the calendar
pub has_civil : (t : Moment) → HasCivil t
has_civil t =
    let civil = t.civil in
    let d = date_of (t.seconds / 86400) (omega arith) in
    let time : t.seconds % 86400 < 86400 = omega arith in
    let at = civil_at-seconds (t.seconds % 86400) (t.seconds / 86400) d time in
    record {
      civil = civil_at (t.seconds % 86400) (t.seconds / 86400) d;
      valid = civil_at-is (t.seconds % 86400) (t.seconds / 86400) d time;
      at = omega arith;
    }
