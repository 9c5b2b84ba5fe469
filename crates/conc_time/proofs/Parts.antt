-- What the tests of a date and of a time say of their numbers.
use Rattle.std.proofs.Common.{◌≡◌, ◌<◌, ◌≤◌, true, arith}
use Rattle.std.proofs.lemmas.Bool.Decides.{nat_tests}
use Rattle.conc_base_law.specs.Calendar.{Civil, is_civil}
use Rattle.conc_time.specs.Fields.{has_date}
use Rattle.conc_time.proofs.Days.{month_length}

pub record HasDate (c : Civil) : Type 0 where
  pub year_in : (1 ≤ c.year) × (c.year ≤ 9999)
  pub month_in : (1 ≤ c.month) × (c.month ≤ 12)
  pub day_in : (1 ≤ c.day) × (c.day ≤ month_length c.year c.month)

pub record IsCivil (c : Civil) : Type 0 where
  pub date : HasDate c
  pub hour_in : c.hour < 24
  pub minute_in : c.minute < 60
  pub second_in : c.second < 60

pub date_parts : (c : Civil) → has_date c ≡ true → HasDate c
unfolding has_date
date_parts c h = record {
  year_in = grind (arith, nat_tests);
  month_in = grind (arith, nat_tests);
  day_in = grind (arith, nat_tests);
}

pub date_from : (c : Civil) → HasDate c → has_date c ≡ true
unfolding has_date
date_from c h = grind (arith, nat_tests, h.year_in, h.month_in, h.day_in)

pub parts_of : (c : Civil) → is_civil c ≡ true → IsCivil c
unfolding is_civil
parts_of c h = record {
  date = record {
    year_in = grind (arith, nat_tests);
    month_in = grind (arith, nat_tests);
    day_in = grind (arith, nat_tests);
  };
  hour_in = grind (arith, nat_tests);
  minute_in = grind (arith, nat_tests);
  second_in = grind (arith, nat_tests);
}

pub from_parts : (c : Civil) → IsCivil c → is_civil c ≡ true
unfolding is_civil
from_parts c h =
    grind (arith, nat_tests, h.date.year_in, h.date.month_in, h.date.day_in, h.hour_in, h.minute_in, h.second_in)
