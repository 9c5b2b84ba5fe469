-- Where a moment lies after so many units.
use Rattle.std.specs.Prelude.{ℕ, ◌+◌, ◌-◌, ◌*◌, ◌/◌, ◌%◌, min, nat_le, nat_lt, get_or, Option}
use Rattle.std.specs.Bool.{then_some}
use Rattle.conc_types.specs.declared.event.Moment.{Moment}
use Rattle.conc_base_law.specs.Calendar.{Civil, moment_at, month_lengths, seconds_of}
use Rattle.conc_base_law.specs.Managers.{day_of, time_of}
use Rattle.conc_base_law.specs.Moments.{day_in_month, month_of, year_of}
use Rattle.conc_repeat.specs.declared.courses.TimeUnit.{TimeUnit}
use Rattle.conc_repeat.specs.declared.courses.TimeUnit.TheVariants as unit

-- the moment at this number of seconds, if the calendar has not ended by then
abbrev pub moment_within : ℕ → Option Moment
moment_within n = then_some (nat_lt n 315537897600) (moment_at n)

-- the date and the time of a moment
abbrev pub civil_at : Moment → Civil
civil_at t = record {
  year = year_of (day_of t);
  month = month_of (day_of t);
  day = day_in_month (day_of t);
  hour = time_of t / 3600;
  minute = time_of t / 60 % 60;
  second = time_of t % 60;
}

-- the year and the month that are so many months later
abbrev pub year_later : ℕ → Civil → ℕ
year_later n c = c.year + (c.month - 1 + n) / 12

abbrev pub month_later : ℕ → Civil → ℕ
month_later n c = (c.month - 1 + n) % 12 + 1

-- the same time on the same day of that month, or on its last day where it is shorter
unfoldable pub months_later : ℕ → Civil → Civil
months_later n c = record {
  year = year_later n c;
  month = month_later n c;
  day = min c.day (get_or (month_lengths (year_later n c)) (month_later n c - 1) 0);
  hour = c.hour;
  minute = c.minute;
  second = c.second;
}

-- the moment of a date and a time, if its year is one of the calendar
unfoldable pub moment_by : Civil → Option Moment
moment_by c = then_some (nat_le c.year 9999) (moment_at (seconds_of c))

-- the moment that is so many units later, if the calendar has it
abbrev pub moved : Moment → TimeUnit → ℕ → Option Moment
moved t unit.Hours n = moment_within (t.seconds + 3600 * n)
moved t unit.Days n = moment_within (t.seconds + 86400 * n)
moved t unit.Weeks n = moment_within (t.seconds + 604800 * n)
moved t unit.Months n = moment_by (months_later n (civil_at t))
