-- The pieces of a list are as long as asked, and joined they are the list again.
use Rattle.std.proofs.Common.{◌≡◌, ◌≤◌, ◌<◌, ◌+◌, ◌*◌, ◌/◌, ◌%◌, ℕ, zero, suc, Bool, true, false, ◌&&◌, ◌==◌, List, [], ◌∷◌, get_or, take, drop, length, refl, sym, ap, ◌∙◌, arith, eq-eqb}
use Rattle.std.proofs.Math.Nat.{div-mul-le_self, le-div_iff_mul-le, mod-eq-sub-div-mul, mul-div_cancel}
use Rattle.std.proofs.lemmas.Bool.Decides.{nat_tests}
use Rattle.std.proofs.lemmas.List.{drop_at, get_or-drop, get_or-take, length-append, length-drop, length-take-le, nil_from_length, take-append-drop, take_at}
use Rattle.std.specs.List.{list_all}
use Rattle.std.specs.Prelude.{Option, None, Some, IsSome, option_map}
use Rattle.conc_types.specs.Pieces.{concat, pieces, rows_of}
use Rattle.conc_types.specs.Words.{has_length}

both : (x y : Bool) → (x && y) ≡ true → (x ≡ true) × (y ≡ true)
both true y e = (refl, e)
both false y e = absurd cc

module _ {T : Type 0} where
  pub length-pieces : (count width : ℕ) (xs : List T) → length (pieces count width xs) ≡ count
  unfolding pieces
  length-pieces zero width xs = refl
  length-pieces (suc count) width xs = ap suc (length-pieces count width (drop width xs))

  pub concat-pieces : (count width : ℕ) (xs : List T) → length xs ≡ count * width → concat (pieces count width xs) ≡ xs
  unfolding pieces
  concat-pieces zero width xs e = sym (nil_from_length xs (omega (arith, e)))
  concat-pieces (suc count) width xs e =
      let rest : length (drop width xs) ≡ count * width = omega (arith, length-drop width xs, e) in
      rw (concat-pieces count width (drop width xs) rest) (take-append-drop width xs)

  pub even-pieces : (count width : ℕ) (xs : List T) → length xs ≡ count * width → list_all (has_length width) (pieces count width xs) ≡ true
  unfolding pieces
  even-pieces zero width xs e = refl
  even-pieces (suc count) width xs e =
      let rest : length (drop width xs) ≡ count * width = omega (arith, length-drop width xs, e) in
      let long : length (take width xs) ≡ width = length-take-le width xs (omega (arith, e)) in
      rw (eq-eqb (length (take width xs)) width long) (even-pieces count width (drop width xs) rest)

  first_length : (width : ℕ) (row : List T) (rows : List (List T)) → list_all (has_length width) (row ∷ rows) ≡ true → length row ≡ width
  first_length width row rows e = let k = both (length row == width) _ e in grind (arith, nat_tests)

  pub length-concat : (width : ℕ) (rows : List (List T)) → list_all (has_length width) rows ≡ true → length (concat rows) ≡ length rows * width
  length-concat width [] e = omega arith
  length-concat width (row ∷ rows) e =
      let long = first_length width row rows e in
      let k = both (length row == width) _ e in
      let rest = length-concat width rows k.1 in
      omega (arith, length-append row (concat rows))

  pub pieces-concat : (width : ℕ) (rows : List (List T)) → list_all (has_length width) rows ≡ true → pieces (length rows) width (concat rows) ≡ rows
  unfolding pieces
  pieces-concat width [] e = refl
  pieces-concat width (row ∷ rows) e =
      let long = first_length width row rows e in
      let k = both (length row == width) _ e in
      rw (take_at row (concat rows) width long, drop_at row (concat rows) width long, pieces-concat width rows k.1) refl

  -- the cell of a row in a column
  pub get_or-pieces : (count width : ℕ) (xs : List T) (row column : ℕ) (d : T) → row < count → column < width
      → get_or (get_or (pieces count width xs) row []) column d ≡ get_or xs (row * width + column) d
  unfolding pieces
  get_or-pieces zero width xs row column d below within = absurd (omega arith)
  get_or-pieces (suc count) width xs zero column d below within =
      let at : zero * width + column ≡ column = omega arith in
      rw at (get_or-take width xs column d within)
  get_or-pieces (suc count) width xs (suc row) column d below within =
      let at : suc row * width + column ≡ width + (row * width + column) = omega arith in
      rw at (get_or-pieces count width (drop width xs) row column d (omega arith) within ∙ get_or-drop width xs (row * width + column) d)

-- as many as there are whole pieces, none is left
whole : (size width : ℕ) → size % width ≡ 0 → size ≡ size / width * width
whole size width e = omega (arith, mod-eq-sub-div-mul size width, div-mul-le_self size width)

-- a place within the pieces is within the list
pub below-pieces : (size width row column : ℕ) → row < size / width → column < width → row * width + column < size
below-pieces size width row column below within =
    let some : 0 < width = omega arith in
    let next : row + 1 ≤ size / width = omega arith in
    let fits : (row + 1) * width ≤ size = (le-div_iff_mul-le {k = width} {x = row + 1} {y = size} some).0 next in
    omega arith

module _ {T : Type 0} where
  pub length-rows : (width : ℕ) (cells : List T) → length (rows_of width cells) ≡ length cells / width
  length-rows width cells = length-pieces (length cells / width) width cells

  pub even-rows : (width : ℕ) (cells : List T) → length cells % width ≡ 0 → list_all (has_length width) (rows_of width cells) ≡ true
  even-rows width cells e = even-pieces (length cells / width) width cells (whole (length cells) width e)

  pub concat-rows : (width : ℕ) (cells : List T) → length cells % width ≡ 0 → concat (rows_of width cells) ≡ cells
  concat-rows width cells e = concat-pieces (length cells / width) width cells (whole (length cells) width e)

  pub rows-concat : (width : ℕ) (cells : List T) (rows : List (List T)) → 0 < width → concat rows ≡ cells → list_all (has_length width) rows ≡ true → rows_of width cells ≡ rows
  rows-concat width cells rows some e even =
      let size : length (concat rows) / width ≡ length rows = rw (length-concat width rows even) (mul-div_cancel (length rows) some) in
      rw (← e) (rw size (pieces-concat width rows even))

-- what points to a value is there
pub is_some-points : {A B : Type 0} (f : A → B) (o : Option A) (x : B) → option_map f o ≡ Some x → IsSome o
is_some-points f None x e = absurd cc
is_some-points f (Some y) x e = refl
