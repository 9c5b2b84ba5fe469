-- The year, the month and the day that the searches of the law find are those of the date.
use Rattle.std.proofs.Common.{◌≡◌, ap, refl, ℕ, zero, suc, ◌+◌, ◌-◌, ◌<◌, ◌≤◌, ◌⊎◌, inl, inr, Bool, true, false, Some, arith}
use Rattle.std.specs.Prelude.{nat_lt, unwrap_or}
use Rattle.std.specs.List.{find, range_with_len}
use Rattle.std.proofs.lemmas.Bool.{cases_order}
use Rattle.std.proofs.lemmas.Bool.Decides.{nat_tests}
use Rattle.conc_base_law.specs.Calendar.{Civil, days_before}
use Rattle.conc_base_law.specs.Moments.{day_in_month, day_in_year, days_before_month, days_before_year, month_of, year_of}
use Rattle.conc_time.proofs.Days.{all_months, days_apart, next_month, next_year}
use Rattle.conc_time.proofs.Parts.{HasDate}

-- the first number that passes
pub record IsFirst (test : ℕ → Bool) (from found : ℕ) : Type 0 where
  pub low : from ≤ found
  pub hit : test found ≡ true
  pub miss : (n : ℕ) → from ≤ n → n < found → test n ≡ false

-- the search finds it
pub finds : (test : ℕ → Bool) (from count found : ℕ) → IsFirst test from found → found < from + count → find test (range_with_len from count) ≡ Some found
finds test from zero found h high = let low = h.low in absurd (omega arith)
finds test from (suc count) found h high =
    let low = h.low in
    elim (cases_order from found) [
      | inl e ↦ rw (e, h.hit) refl
      | inr (inl lt) ↦ rw (h.miss from (omega arith) lt)
          (finds test (from + 1) count found (record { low = omega arith; hit = h.hit; miss = λ n above below. h.miss n (omega arith) below }) (omega arith))
      | inr (inr gt) ↦ absurd (omega arith)
    ]

bool_cases : (b : Bool) → (b ≡ true) ⊎ (b ≡ false)
bool_cases true = inl refl
bool_cases false = inr refl

pub record First (test : ℕ → Bool) (from last : ℕ) : Type 0 where
  pub found : ℕ
  pub first : IsFirst test from found
  pub high : found ≤ last

-- where one passes, there is a first one
pub first_from : (test : ℕ → Bool) (from more : ℕ) → test (from + more) ≡ true → First test from (from + more)
first_from test from zero h =
    let e : from + 0 ≡ from = omega arith in
    record { found = from; first = record { low = omega arith; hit = rw e at h; miss = λ n above below. absurd (omega arith) }; high = omega arith }
first_from test from (suc more) h =
    let e : from + suc more ≡ from + 1 + more = omega arith in
    elim (bool_cases (test from)) [
      | inl hit ↦ record { found = from; first = record { low = omega arith; hit = hit; miss = λ n above below. absurd (omega arith) }; high = omega arith }
      | inr miss ↦
          let later = first_from test (from + 1) more (rw e at h) in
          let low = later.first.low in
          let high = later.high in
          record {
            found = later.found;
            first = record {
              low = omega arith;
              hit = later.first.hit;
              miss = λ n above below. elim (cases_order from n) [
                | inl same ↦ rw (← same) miss
                | inr (inl lt) ↦ later.first.miss n (omega arith) below
                | inr (inr gt) ↦ absurd (omega arith)
              ];
            };
            high = omega arith;
          }
    ]

-- years and months begin one after the other
pub years_grow : (year later : ℕ) → 1 ≤ year → year ≤ later → days_before_year year ≤ days_before_year later
unfolding days_before_year
years_grow year later low h = grind (arith, nat_tests)

months_add : (year month k : ℕ) → 1 ≤ month → month + k ≤ 13 → days_before_month year month ≤ days_before_month year (month + k)
months_add year month zero low high = let e : month + 0 ≡ month = omega arith in rw e (omega arith)
months_add year month (suc k) low high =
    let e : month + suc k ≡ month + k + 1 = omega arith in
    rw e (omega (arith, months_add year month k low (omega arith), next_month year (month + k) (omega arith) (omega arith)))

pub months_grow : (year month later : ℕ) → 1 ≤ month → month ≤ later → later ≤ 13 → days_before_month year month ≤ days_before_month year later
months_grow year month later low h high =
    let e : month + (later - month) ≡ later = omega arith in
    rw e at (months_add year month (later - month) low (omega arith))

-- a day among those of a year is of that year
pub year_found : (day year : ℕ) → 1 ≤ year → year ≤ 9999 → days_before_year year ≤ day → day < days_before_year (year + 1) → year_of day ≡ year
unfolding year_of
year_found day year low high after before =
    let test : ℕ → Bool = λ y. nat_lt day (days_before_year (y + 1)) in
    let first : IsFirst test 1 year = record {
      low = low;
      hit = grind (arith, nat_tests);
      miss = λ y above below. let grows = years_grow (y + 1) year (omega arith) (omega arith) in grind (arith, nat_tests);
    } in
    ap (λ o. unwrap_or o 0) (finds test 1 9999 year first (omega arith))

-- and one among those of a month of that month
pub month_found : (day year month : ℕ) → year_of day ≡ year → 1 ≤ month → month ≤ 12 → days_before_year year + days_before_month year month ≤ day → day < days_before_year year + days_before_month year (month + 1) → month_of day ≡ month
unfolding month_of day_in_year
month_found day year month e low high after before =
    let test : ℕ → Bool = λ m. nat_lt (day - days_before_year year) (days_before_month year (m + 1)) in
    let first : IsFirst test 1 month = record {
      low = low;
      hit = grind (arith, nat_tests);
      miss = λ m above below. let grows = months_grow year (m + 1) month (omega arith) (omega arith) (omega arith) in grind (arith, nat_tests);
    } in
    rw e (ap (λ o. unwrap_or o 0) (finds test 1 12 month first (omega arith)))

pub record IsFound (c : Civil) (day : ℕ) : Type 0 where
  pub year : year_of day ≡ c.year
  pub month : month_of day ≡ c.month
  pub day_in_month : day_in_month day ≡ c.day

-- the day of a date lies among those of its year and its month
pub date_found : (c : Civil) → HasDate c → IsFound c (days_before c)
unfolding day_in_month day_in_year
date_found c h =
    let year_in = h.year_in in
    let month_in = h.month_in in
    let day_in = h.day_in in
    let apart = days_apart c year_in.0 in
    let months = next_month c.year c.month month_in.0 month_in.1 in
    let years = next_year c.year year_in.0 in
    let all = all_months c.year in
    let grow = months_grow c.year (c.month + 1) 13 (omega arith) (omega arith) (omega arith) in
    let year : year_of (days_before c) ≡ c.year = year_found (days_before c) c.year year_in.0 year_in.1 (omega arith) (omega arith) in
    let month : month_of (days_before c) ≡ c.month = month_found (days_before c) c.year c.month year month_in.0 month_in.1 (omega arith) (omega arith) in
    record { year = year; month = month; day_in_month = rw (year, month) (omega arith) }
