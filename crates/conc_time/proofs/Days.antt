-- The days before a year and before a month of it: each grows by the length of what passes.
use Rattle.std.proofs.Common.{◌≡◌, refl, ℕ, zero, suc, ◌+◌, ◌-◌, ◌≤◌, get_or, arith}
use Rattle.std.specs.List.{range_with_len, sum_by}
use Rattle.std.proofs.lemmas.Bool.Decides.{nat_tests}
use Rattle.std.proofs.lemmas.List.Sums.{sum_by-cons}
use Rattle.conc_base_law.specs.Calendar.{Civil, days_before, days_in_year, month_lengths}
use Rattle.conc_base_law.specs.Moments.{days_before_month, days_before_year, is_leap}

abbrev pub month_length : ℕ → ℕ → ℕ
month_length year month = get_or (month_lengths year) (month - 1) 0

-- a year that ends
pub next_year : (year : ℕ) → 1 ≤ year → days_before_year (year + 1) ≡ days_before_year year + days_in_year year
unfolding days_before_year is_leap
next_year year h = grind (arith, nat_tests)

-- years that end one after the other
years_from : (year n : ℕ) → 1 ≤ year → days_before_year year + sum_by days_in_year (range_with_len year n) ≡ days_before_year (year + n)
years_from year zero h = let e : year + 0 ≡ year = omega arith in rw e (omega arith)
years_from year (suc n) h =
    let e : year + suc n ≡ year + 1 + n = omega arith in
    let more = years_from (year + 1) n (omega arith) in
    rw e (omega (arith, next_year year h, sum_by-cons days_in_year year (range_with_len (year + 1) n)))

years_all : (year : ℕ) → 1 ≤ year → sum_by days_in_year (range_with_len 1 (year - 1)) ≡ days_before_year year
years_all year h =
    let e : 1 + (year - 1) ≡ year = omega arith in
    let first : days_before_year 1 ≡ 0 = unfold days_before_year in refl in
    omega (arith, rw e at (years_from 1 (year - 1) (omega arith)))

-- a month that ends
pub next_month : (year month : ℕ) → 1 ≤ month → month ≤ 12 → days_before_month year (month + 1) ≡ days_before_month year month + month_length year month
unfolding days_before_month month_lengths
next_month year zero low high = absurd (omega arith)
next_month year (suc zero) low high = grind arith
next_month year (suc (suc zero)) low high = grind arith
next_month year (suc (suc (suc zero))) low high = grind arith
next_month year (suc (suc (suc (suc zero)))) low high = grind arith
next_month year (suc (suc (suc (suc (suc zero))))) low high = grind arith
next_month year (suc (suc (suc (suc (suc (suc zero)))))) low high = grind arith
next_month year (suc (suc (suc (suc (suc (suc (suc zero))))))) low high = grind arith
next_month year (suc (suc (suc (suc (suc (suc (suc (suc zero)))))))) low high = grind arith
next_month year (suc (suc (suc (suc (suc (suc (suc (suc (suc zero))))))))) low high = grind arith
next_month year (suc (suc (suc (suc (suc (suc (suc (suc (suc (suc zero)))))))))) low high = grind arith
next_month year (suc (suc (suc (suc (suc (suc (suc (suc (suc (suc (suc zero))))))))))) low high = grind arith
next_month year (suc (suc (suc (suc (suc (suc (suc (suc (suc (suc (suc (suc zero)))))))))))) low high = grind arith
next_month year (suc (suc (suc (suc (suc (suc (suc (suc (suc (suc (suc (suc (suc n))))))))))))) low high = absurd (omega arith)

-- the first month, and all
pub first_month : (year : ℕ) → days_before_month year 1 ≡ 0
unfolding days_before_month
first_month year = refl

pub all_months : (year : ℕ) → days_before_month year 13 ≡ days_in_year year
unfolding days_before_month
all_months year = grind arith

-- the days before a date
pub days_apart : (c : Civil) → 1 ≤ c.year → days_before c ≡ days_before_year c.year + days_before_month c.year c.month + (c.day - 1)
unfolding days_before days_before_month month_lengths
days_apart c h = rw (years_all c.year h) refl
