-- What `jiff` says of the numbers of a date is what the law says.
use Rattle.std.proofs.Common.{◌≡◌, ◌∙◌, sym, refl, ℕ, ◌/◌, ◌%◌, ◌<◌, ◌≤◌, ◌⊎◌, inl, inr, Bool, true, false, cond, Option, Some, None, ℤ, pos, ◌+ℤ◌, ◌-ℤ◌, ◌<ℤ◌, ◌≤ℤ◌, unsigned_abs, of_z, to_z, w8, w16, MatchOption, IfSome, arith}
use Rattle.std.proofs.lemmas.Bool.{cases_order}
use Rattle.std.proofs.lemmas.Int.{by_lt_z}
use Rattle.jiff.proofs.SpanFacts.{signed_arith}
use Rattle.jiff_core.specs.declared.civil.date.Date.{Date}
use Rattle.jiff_core.specs.Calendar.{IsDate}
use Rattle.jiff_core.specs.Date.{epoch_day}
use Rattle.jiff_core.proofs.CalendarLemmas.{days_in_month_bounds}
use Rattle.jiff_core.proofs.SignedLemmas.{back_small, one_part}
use Rattle.conc_types.specs.declared.event.Moment.{Moment}
use Rattle.conc_base_law.specs.Calendar.{Civil, days_before, seconds_of}
use Rattle.conc_time.specs.Fields.{has_date}
use Rattle.conc_time.proofs.Calendars.{before_start, day_number, months_same}
use Rattle.conc_time.proofs.Dates.{days_in}
use Rattle.conc_time.proofs.Parts.{date_from, date_parts, HasDate, IsCivil}

-- the bits of a small number are the number
year_back : (n : ℕ) → n < 10000 → to_z w16 n ≡ pos n
year_back n h = back_small w16 (pos n) (omega arith)

part_back : (n : ℕ) → n < 100 → to_z w8 n ≡ pos n
part_back n h = back_small w8 (pos n) (omega arith)

-- where the law has a date, `jiff` has it
is_date : (c : Civil) → HasDate c → IsDate (pos c.year) (pos c.month) (pos c.day)
is_date c h =
    let year_in = h.year_in in
    let month_in = h.month_in in
    let day_in = h.day_in in
    let same = months_same c.year c.month month_in.0 month_in.1 in
    ((omega (arith, signed_arith), omega (arith, signed_arith)), (omega (arith, signed_arith), omega (arith, signed_arith)), (omega (arith, signed_arith), omega (arith, signed_arith)))

cases_of : (b : Bool) → (b ≡ true) ⊎ (b ≡ false)
cases_of true = inl refl
cases_of false = inr refl

-- where `jiff` has none, the law has none
pub refused : (c : Civil) → c.year < 10000 → c.month < 100 → c.day < 100 → (IsDate (to_z w16 c.year) (to_z w8 c.month) (to_z w8 c.day) → ⊥) → has_date c ≡ false
refused c year month day h =
    elim (cases_of (has_date c)) [
      | inl has ↦ absurd (h (rw (year_back c.year year, part_back c.month month, part_back c.day day) (is_date c (date_parts c has))))
      | inr lacks ↦ lacks
    ]

-- what a number that may be negative gives
none_below : (days : Option ℕ) (z : ℤ) → MatchOption days (z <ℤ pos 0) (λ n. pos n ≡ z) → z <ℤ pos 0 → days ≡ None
none_below None z h low = refl
none_below (Some n) z h low = absurd (omega (arith, signed_arith))

some_from : (days : Option ℕ) (z : ℤ) (n : ℕ) → MatchOption days (z <ℤ pos 0) (λ n. pos n ≡ z) → z ≡ pos n → days ≡ Some n
some_from None z n h e = absurd (omega (arith, signed_arith))
some_from (Some m) z n h e = let same : m ≡ n = omega (arith, signed_arith) in rw same refl

-- the law has no year 0
no_year : (c : Civil) → c.year ≡ 0 → has_date c ≡ false
no_year c e =
    elim (cases_of (has_date c)) [
      | inl has ↦ let parts = date_parts c has in let year_in = parts.year_in in absurd (omega arith)
      | inr lacks ↦ lacks
    ]

has_parts : (c : Civil) (d : Date) → d.year ≡ pos c.year → d.month ≡ c.month → d.day ≡ c.day → 1 ≤ c.year → HasDate c
has_parts c d year month day low =
    let year_in = d.year_in in
    let month_in = d.month_in in
    let day_in = rw (year, month, day) at d.day_in in
    let months = months_same c.year c.month (omega arith) (omega arith) in
    record { year_in = (low, omega (arith, signed_arith)); month_in = (omega arith, omega arith); day_in = (omega arith, omega arith) }

-- a date of `jiff` in a year from 1 on is one of the law, with as many days before it
pub read : (c : Civil) (d : Date) (days : Option ℕ) → c.year < 10000 → c.month < 100 → c.day < 100
    → (d.year ≡ to_z w16 c.year) × (pos d.month ≡ to_z w8 c.month) × (pos d.day ≡ to_z w8 c.day)
    → MatchOption days ((epoch_day d +ℤ pos 719162) <ℤ pos 0) (λ n. pos n ≡ epoch_day d +ℤ pos 719162)
    → days ≡ cond (has_date c) (Some (days_before c)) None
read c d days year month day h e =
    let y : d.year ≡ pos c.year = h.0 ∙ year_back c.year year in
    let m₂ : pos d.month ≡ pos c.month = h.1 ∙ part_back c.month month in
    let d₂ : pos d.day ≡ pos c.day = h.2 ∙ part_back c.day day in
    let m : d.month ≡ c.month = omega (arith, signed_arith) in
    let dd : d.day ≡ c.day = omega (arith, signed_arith) in
    elim (cases_order c.year 0) [
      | inl none ↦ rw (no_year c none) (none_below days _ e (before_start d (rw (y, none) (omega (arith, signed_arith)))))
      | inr (inl lt) ↦ absurd (omega arith)
      | inr (inr gt) ↦
          let parts = has_parts c d y m dd gt in
          let number = day_number c parts in
          rw (date_from c parts) (some_from days _ (days_before c) e (rw (y, m, dd) number))
    ]

within : (c : Civil) (b : Bool) → b ≡ has_date c → IfSome (cond b (Some (days_before c)) None) (λ n. n < 3652059)
within c true e = days_in c (date_parts c (sym e))
within c false e = tt

-- there are fewer than to the end of the calendar
pub few : (c : Civil) (days : Option ℕ) → days ≡ cond (has_date c) (Some (days_before c)) None → IfSome days (λ n. n < 3652059)
few c days e = rw e (within c (has_date c) refl)

-- the numbers of a date are small
pub year_number : (d : Date) (n : ℕ) (z : ℤ) → n ≡ unsigned_abs (to_z w16 (of_z w16 z)) → z ≡ d.year → n ≡ unsigned_abs d.year
year_number d n z e year =
    let year_in = d.year_in in
    e ∙ rw (year, back_small w16 d.year (omega (arith, signed_arith, one_part d.year))) refl

pub month_number : (d : Date) (n : ℕ) (z : ℤ) → n ≡ unsigned_abs (to_z w8 (of_z w8 z)) → z ≡ pos d.month → n ≡ d.month
month_number d n z e month = let month_in = d.month_in in e ∙ rw (month, part_back d.month (omega arith)) refl

pub day_of_month : (d : Date) (n : ℕ) (z : ℤ) → n ≡ unsigned_abs (to_z w8 (of_z w8 z)) → z ≡ pos d.day → n ≡ d.day
day_of_month d n z e day =
    let day_in = d.day_in in
    let short = days_in_month_bounds d.year d.month in
    e ∙ rw (day, part_back d.day (omega arith)) refl

pub record IsPlaced (seconds : ℕ) (c : Civil) : Type 0 where
  pub valid : IsCivil c
  pub at : seconds ≡ seconds_of c

-- a date with a time of the day is their moment
pub placed : (t : Moment) (d : Date) (c : Civil) → epoch_day d ≡ pos (t.seconds / 86400) -ℤ pos 719162
    → c.year ≡ unsigned_abs d.year → c.month ≡ d.month → c.day ≡ d.day
    → c.hour ≡ t.seconds % 86400 / 3600 → c.minute ≡ t.seconds % 86400 / 60 % 60 → c.second ≡ t.seconds % 86400 % 60
    → IsPlaced t.seconds c
unfolding seconds_of
placed t d c e year month day hour minute second =
    let low : pos 1 ≤ℤ d.year =
    by_lt_z d.year (pos 1) (λ lt. let before = before_start d lt in absurd (omega (arith, signed_arith))) (λ ge. ge) in
    let y : d.year ≡ pos c.year = omega (arith, signed_arith, one_part d.year) in
    let parts = has_parts c d y (sym month) (sym day) (omega (arith, signed_arith)) in
    let same : epoch_day d +ℤ pos 719162 ≡ pos (days_before c) = rw (y, sym month, sym day) (day_number c parts) in
    let days : days_before c ≡ t.seconds / 86400 = omega (arith, signed_arith) in
    record {
      valid = record {
        date = parts;
        hour_in = omega arith;
        minute_in = omega arith;
        second_in = omega arith;
      };
      at = omega arith;
    }
