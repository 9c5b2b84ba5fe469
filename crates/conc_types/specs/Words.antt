-- Words on numbers, options and lists that the other definitions share.
use Rattle.std.specs.Prelude.{ℕ, ◌-◌, Bool, true, false, not, ◌&&◌, ◌==◌, nat_le, if◌then◌else◌, max, List, [], ◌∷◌, length, Option, None, Some, slice_get}
use Rattle.std.specs.List.{list_any}

-- there is a value, and it passes
abbrev pub some_and : {T : Type 0} → (T → Bool) → Option T → Bool
some_and test None = false
some_and test (Some x) = test x

-- there is no value, or it passes
abbrev pub none_or : {T : Type 0} → (T → Bool) → Option T → Bool
none_or test None = true
none_or test (Some x) = test x

-- the n-th of a list, counted from 1
abbrev pub numbered : {T : Type 0} → List T → ℕ → Option T
numbered xs n = if n == 0 then None else slice_get xs (n - 1)

abbrev pub is_between : ℕ → ℕ → ℕ → Bool
is_between least most n = nat_le least n && nat_le n most

abbrev pub is_empty : {T : Type 0} → List T → Bool
is_empty [] = true
is_empty (x ∷ xs) = false

abbrev pub has_length : {T : Type 0} → ℕ → List T → Bool
has_length n xs = length xs == n

-- no two elements are the same
abbrev pub are_distinct : {T : Type 0} → (T → T → Bool) → List T → Bool
are_distinct same [] = true
are_distinct same (x ∷ xs) = not (list_any (same x) xs) && are_distinct same xs

-- the greatest of a list, or 0
abbrev pub greatest : List ℕ → ℕ
greatest [] = 0
greatest (x ∷ xs) = max x (greatest xs)
