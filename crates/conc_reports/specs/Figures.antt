-- Counts and sums, and what a map of them has at a key.
use Rattle.std.specs.Prelude.{ℕ, ◌+◌, ℤ, ◌+ℤ◌, if◌then◌else◌, List, Option, None, Some}
use Rattle.std.specs.BTreeMap.{BTreeMap, get_by}
use Rattle.std.specs.Borrow.{Bor}
use Rattle.std.specs.Cmp.Lexicographic.{slice_cmp}
use Rattle.std.specs.Option.{option_map}
use Rattle.std.specs.Ordering.{nat_cmp}
use Rattle.std.specs.Str.{bytes_eq}
use Rattle.conc_reports.specs.declared.figures.Figures.{Figures}

-- a count and a sum
abbrev pub shown : Figures → ℕ × ℤ
shown figures = (figures.count, figures.sum)

-- one more value
abbrev pub grown : ℤ → Option (ℕ × ℤ) → ℕ × ℤ
grown value None = (1, value)
grown value (Some figures) = (figures.0 + 1, figures.1 +ℤ value)

-- one more value under a key, if there is one
abbrev pub grown_at : Option (List ℕ) → ℤ → (List ℕ → Option (ℕ × ℤ)) → List ℕ → Option (ℕ × ℤ)
grown_at None value before key = before key
grown_at (Some k) value before key = if bytes_eq k key then Some (grown value (before key)) else before key

abbrev pub figures_at : BTreeMap (Bor (List ℕ)) Figures → List ℕ → Option (ℕ × ℤ)
figures_at groups key = option_map shown (get_by (λ k. slice_cmp nat_cmp key k.now) groups)
