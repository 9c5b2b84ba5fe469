-- The numbers of a text are read back from their places.
use Rattle.std.proofs.Common.{◌≡◌, refl, ℕ, ◌+◌, ◌/◌, ◌%◌, ◌<◌, arith}
use Rattle.std.specs.Char.{digit_value}
use Rattle.std.specs.Str.Parse.{digits_value}
use Rattle.std.proofs.lemmas.Bool.Decides.{nat_tests}
use Rattle.conc_base_law.specs.Calendar.{Civil, civil_of, civil_text}
use Rattle.conc_base_law.specs.Moments.{four_digits, two_digits}
use Rattle.conc_time.specs.Fields.{numbers_at}

digit_back : (d : ℕ) → d < 10 → digit_value (48 + d) ≡ d
digit_back d h = grind (arith, nat_tests)

two_back : (n : ℕ) → n < 100 → digits_value 10 (two_digits n) ≡ n
two_back n h =
    rw (digit_back (n / 10 % 10) (omega arith), digit_back (n % 10) (omega arith)) (omega arith)

four_back : (n : ℕ) → n < 10000 → digits_value 10 (four_digits n) ≡ n
four_back n h =
    rw (digit_back (n / 100 / 10 % 10) (omega arith), digit_back (n / 100 % 10) (omega arith), digit_back (n % 100 / 10 % 10) (omega arith), digit_back (n % 100 % 10) (omega arith)) (omega arith)

abbrev civil_of_numbers : ℕ → ℕ → ℕ → ℕ → ℕ → ℕ → Civil
civil_of_numbers y m d h n s = record { year = y; month = m; day = d; hour = h; minute = n; second = s }

civil_from : (y y₂ m m₂ d d₂ h h₂ n n₂ s s₂ : ℕ) → y ≡ y₂ → m ≡ m₂ → d ≡ d₂ → h ≡ h₂ → n ≡ n₂ → s ≡ s₂
    → civil_of_numbers y m d h n s ≡ civil_of_numbers y₂ m₂ d₂ h₂ n₂ s₂
civil_from y y₂ m m₂ d d₂ h h₂ n n₂ s s₂ year month day hour minute second = rw (year, month, day, hour, minute, second) refl

-- dates and times with the same numbers are one
pub civil_same : (a b : Civil) → a.year ≡ b.year → a.month ≡ b.month → a.day ≡ b.day → a.hour ≡ b.hour → a.minute ≡ b.minute → a.second ≡ b.second → a ≡ b
civil_same a b year month day hour minute second = civil_from _ _ _ _ _ _ _ _ _ _ _ _ year month day hour minute second

-- each number has as many digits as its place
pub record HasPlaces (c : Civil) : Type 0 where
  pub year : c.year < 10000
  pub month : c.month < 100
  pub day : c.day < 100
  pub hour : c.hour < 100
  pub minute : c.minute < 100
  pub second : c.second < 100

-- by the law
pub read_back : (c : Civil) → HasPlaces c → civil_of (civil_text c) ≡ c
unfolding civil_of civil_text
read_back c h = civil_same _ c (four_back c.year h.year) (two_back c.month h.month) (two_back c.day h.day) (two_back c.hour h.hour) (two_back c.minute h.minute) (two_back c.second h.second)

-- and by the reader
pub numbers_back : (c : Civil) → HasPlaces c → numbers_at (civil_text c) ≡ c
unfolding numbers_at civil_text
numbers_back c h =
    let year = h.year in
    let month = h.month in
    let day = h.day in
    let hour = h.hour in
    let minute = h.minute in
    let second = h.second in
    civil_same _ c (omega arith) (omega arith) (omega arith) (omega arith) (omega arith) (omega arith)
