-- The civil text of a moment.
use Rattle.std.specs.Prelude.{ℕ, ◌+◌, ◌-◌, ◌*◌, ◌/◌, ◌%◌, Bool, not, ◌&&◌, ◌||◌, ◌==◌, nat_lt, if◌then◌else◌, List, [], ◌∷◌, ◌++◌, codes, take, unwrap_or}
use Rattle.std.specs.List.{find, range_with_len, sum}
use Rattle.conc_types.specs.declared.event.Moment.{Moment}
use Rattle.conc_base_law.specs.Managers.{day_of, time_of}

abbrev pub two_digits : ℕ → List ℕ
two_digits n = (48 + n / 10 % 10) ∷ (48 + n % 10) ∷ []

abbrev pub four_digits : ℕ → List ℕ
four_digits n = two_digits (n / 100) ++ two_digits (n % 100)

-- the days before a year, from 1 on
unfoldable pub days_before_year : ℕ → ℕ
days_before_year year = 365 * (year - 1) + (year - 1) / 4 + (year - 1) / 400 - (year - 1) / 100

unfoldable pub is_leap : ℕ → Bool
is_leap year = year % 4 == 0 && (not (year % 100 == 0) || year % 400 == 0)

-- the days of a year before a month
unfoldable pub days_before_month : ℕ → ℕ → ℕ
days_before_month year month =
    sum (take (month - 1) (31 ∷ (if is_leap year then 29 else 28) ∷ 31 ∷ 30 ∷ 31 ∷ 30 ∷ 31 ∷ 31 ∷ 30 ∷ 31 ∷ 30 ∷ 31 ∷ []))

-- the year of a day, which is counted from 0: the first one that ends after it
unfoldable pub year_of : ℕ → ℕ
year_of day = unwrap_or (find (λ year. nat_lt day (days_before_year (year + 1))) (range_with_len 1 9999)) 0

-- its place in its year, from 0, its month, and its place in its month, from 1
unfoldable pub day_in_year : ℕ → ℕ
day_in_year day = day - days_before_year (year_of day)

unfoldable pub month_of : ℕ → ℕ
month_of day =
    unwrap_or (find (λ month. nat_lt (day_in_year day) (days_before_month (year_of day) (month + 1))) (range_with_len 1 12)) 0

unfoldable pub day_in_month : ℕ → ℕ
day_in_month day = day_in_year day - days_before_month (year_of day) (month_of day) + 1

-- YYYY-MM-DDTHH:MM:SS
unfoldable pub date_text : ℕ → List ℕ
date_text day =
    four_digits (year_of day) ++ codes "-" ++ two_digits (month_of day) ++ codes "-" ++ two_digits (day_in_month day)

unfoldable pub time_text : ℕ → List ℕ
time_text time = two_digits (time / 3600) ++ codes ":" ++ two_digits (time / 60 % 60) ++ codes ":" ++ two_digits (time % 60)

unfoldable pub moment_text : Moment → List ℕ
moment_text t = date_text (day_of t) ++ codes "T" ++ time_text (time_of t)
