-- The six numbers of a spelling, and how they are read at their places.
use Rattle.std.specs.Prelude.{ℕ, ◌+◌, ◌-◌, ◌*◌, Bool, ◌&&◌, min, nat_lt, get_or, List, slice_index}
use Rattle.conc_types.specs.Words.{is_between}
use Rattle.conc_base_law.specs.Calendar.{Civil, month_lengths}
use Rattle.conc_time.specs.declared.civil.Civil.{Civil as Numbers}

-- what the law calls them
abbrev pub civil : Numbers → Civil
civil c = record {
  year = c.year;
  month = c.month;
  day = c.day;
  hour = c.hour;
  minute = c.minute;
  second = c.second;
}

-- the digit at a place, or some digit where another byte or none stands there
abbrev pub digit_at : List ℕ → ℕ → ℕ
digit_at bytes place = min (slice_index bytes place - 48) 9

-- the number of the two digits at a place
abbrev pub two_at : List ℕ → ℕ → ℕ
two_at bytes place = 10 * digit_at bytes place + digit_at bytes (place + 1)

unfoldable pub numbers_at : List ℕ → Civil
numbers_at bytes = record {
  year = 100 * two_at bytes 0 + two_at bytes 2;
  month = two_at bytes 5;
  day = two_at bytes 8;
  hour = two_at bytes 11;
  minute = two_at bytes 14;
  second = two_at bytes 17;
}

-- the calendar has the date, in a year from 1 to 9999
unfoldable pub has_date : Civil → Bool
has_date c =
    is_between 1 9999 c.year
    && (is_between 1 12 c.month && is_between 1 (get_or (month_lengths c.year) (c.month - 1) 0) c.day)

-- a day has the time
unfoldable pub has_time : Civil → Bool
has_time c = nat_lt c.hour 24 && (nat_lt c.minute 60 && nat_lt c.second 60)

-- the seconds from midnight
abbrev pub time : Civil → ℕ
time c = 3600 * c.hour + 60 * c.minute + c.second
