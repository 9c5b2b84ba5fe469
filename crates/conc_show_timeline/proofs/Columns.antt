-- A loop over the columns.
use Rattle.std.proofs.Common.{◌≡◌, ◌∙◌, ◌<◌, ◌≤◌, ◌+◌, ◌-◌, ◌++◌, [], ℕ, suc, List, flat_map, sym, ap, refl, append_assoc, arith}
use Rattle.std.specs.List.{range_with_len}
use Rattle.std.proofs.lemmas.List.{append-nil}
use Rattle.conc_show_timeline.specs.Columns.{over_columns}

-- what is written for the columns from this one on
unfoldable pub from_column : (ℕ → List ℕ) → ℕ → List ℕ
from_column f c = flat_map f (range_with_len c (48 - c))

pub from_start : (f : ℕ → List ℕ) → from_column f 0 ≡ over_columns f
unfolding from_column over_columns
from_start f = refl

some_more : (f : ℕ → List ℕ) (c n m : ℕ) → n ≡ suc m → flat_map f (range_with_len c n) ≡ f c ++ flat_map f (range_with_len (c + 1) m)
some_more f c n m is = ap (λ (k : ℕ). flat_map f (range_with_len c k)) is

pub from_more : (f : ℕ → List ℕ) (c : ℕ) → c < 48 → from_column f c ≡ f c ++ from_column f (c + 1)
unfolding from_column
from_more f c inside = some_more f c (48 - c) (48 - (c + 1)) (omega (arith, inside))

none_more : (f : ℕ → List ℕ) (c n : ℕ) → n ≡ 0 → flat_map f (range_with_len c n) ≡ []
none_more f c n is = ap (λ (k : ℕ). flat_map f (range_with_len c k)) is

pub from_end : (f : ℕ → List ℕ) (c : ℕ) → 48 ≤ c → from_column f c ≡ []
unfolding from_column
from_end f c past = none_more f c (48 - c) (omega (arith, past))

-- a loop that has written the columns before this one
pub column_more : (f : ℕ → List ℕ) (before after whole : List ℕ) (c : ℕ) → c < 48 → before ++ from_column f c ≡ whole → after ≡ before ++ f c
    → after ++ from_column f (c + 1) ≡ whole
column_more f before after whole c inside so_far now =
    let rest = from_column f (c + 1) in
    ap (λ (xs : List ℕ). xs ++ rest) now ∙ append_assoc before (f c) rest ∙ sym (ap (λ (xs : List ℕ). before ++ xs) (from_more f c inside)) ∙ so_far

pub column_end : (f : ℕ → List ℕ) (before whole : List ℕ) (c : ℕ) → 48 ≤ c → before ++ from_column f c ≡ whole → before ≡ whole
column_end f before whole c past so_far =
    sym (append-nil before) ∙ sym (ap (λ (xs : List ℕ). before ++ xs) (from_end f c past)) ∙ so_far
