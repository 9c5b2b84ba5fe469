-- The civil calendar, which is the Gregorian one for every year, and the spelling of a moment.
use Rattle.std.specs.Prelude.{◌≡◌, ℕ, ◌+◌, ◌-◌, ◌*◌, ◌%◌, ◌<◌, ◌≤◌, Bool, ◌&&◌, nat_lt, if◌then◌else◌, List, [], ◌∷◌, ◌++◌, codes, drop, length, take, Option, None, Some}
use Rattle.std.proofs.Common.{lit≤}
use Rattle.std.proofs.lemmas.Nat.{mod_below}
use Rattle.std.specs.List.{range_with_len, sum, sum_by}
use Rattle.std.specs.Prelude.{get_or}
use Rattle.std.specs.Str.{bytes_eq}
use Rattle.std.specs.Str.Parse.{digits_value}
use Rattle.conc_types.specs.declared.event.Moment.{Moment}
use Rattle.conc_types.specs.Words.{is_between}
use Rattle.conc_base_law.specs.Moments.{four_digits, is_leap, two_digits}

-- a date and a time of the day
pub record Civil : Type 0 where
  pub year : ℕ
  pub month : ℕ
  pub day : ℕ
  pub hour : ℕ
  pub minute : ℕ
  pub second : ℕ

abbrev pub days_in_year : ℕ → ℕ
days_in_year year = if is_leap year then 366 else 365

-- the days of each month of a year
unfoldable pub month_lengths : ℕ → List ℕ
month_lengths year =
    31 ∷ (if is_leap year then 29 else 28) ∷ 31 ∷ 30 ∷ 31 ∷ 30 ∷ 31 ∷ 31 ∷ 30 ∷ 31 ∷ 30 ∷ 31 ∷ []

-- the calendar has this date, in a year from 1 to 9999, and a day has this time
unfoldable pub is_civil : Civil → Bool
is_civil c =
    is_between 1 9999 c.year
    && (is_between 1 12 c.month
    && (is_between 1 (get_or (month_lengths c.year) (c.month - 1) 0) c.day
    && (nat_lt c.hour 24 && (nat_lt c.minute 60 && nat_lt c.second 60))))

-- how many days lie between 0001-01-01 and the date: those of the years, of the months and of the days before it
unfoldable pub days_before : Civil → ℕ
days_before c =
    sum_by days_in_year (range_with_len 1 (c.year - 1)) + sum (take (c.month - 1) (month_lengths c.year)) + (c.day - 1)

unfoldable pub seconds_of : Civil → ℕ
seconds_of c = 86400 * days_before c + 3600 * c.hour + 60 * c.minute + c.second

-- YYYY-MM-DDTHH:MM:SS
unfoldable pub civil_text : Civil → List ℕ
civil_text c =
    four_digits c.year ++ codes "-" ++ two_digits c.month ++ codes "-" ++ two_digits c.day ++ codes "T"
    ++ two_digits c.hour ++ codes ":" ++ two_digits c.minute ++ codes ":" ++ two_digits c.second

-- the bytes spell the moment
pub record SpellsMoment (bytes : List ℕ) (t : Moment) : Type 0 where
  pub civil : Civil
  pub valid : is_civil civil ≡ Bool.true
  pub text : bytes ≡ civil_text civil
  pub at : t.seconds ≡ seconds_of civil

-- the number that the digits at a place spell
abbrev pub number_at : List ℕ → ℕ → ℕ → ℕ
number_at bytes place count = digits_value 10 (take count (drop place bytes))

-- what the digits of a spelling say
unfoldable pub civil_of : List ℕ → Civil
civil_of bytes = record {
  year = number_at bytes 0 4;
  month = number_at bytes 5 2;
  day = number_at bytes 8 2;
  hour = number_at bytes 11 2;
  minute = number_at bytes 14 2;
  second = number_at bytes 17 2;
}

-- the bytes are the text of what their digits say
unfoldable pub is_spelling : List ℕ → Bool
is_spelling bytes = is_civil (civil_of bytes) && bytes_eq bytes (civil_text (civil_of bytes))

-- the moment at this number of seconds, which is below the end of the calendar
unfoldable pub moment_at : ℕ → Moment
moment_at n = record { seconds = n % 315537897600; civil = mod_below n 315537897600 (lit≤ tt) }

-- the moment that the bytes spell
unfoldable pub moment_of : List ℕ → Option Moment
moment_of bytes = if is_spelling bytes then Some (moment_at (seconds_of (civil_of bytes))) else None
