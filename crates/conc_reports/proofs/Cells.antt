-- Each row of a table is as long as its columns.
use Rattle.std.proofs.Common.{◌≡◌, ◌<◌, ℕ, zero, suc, Bool, true, false, ◌&&◌, ◌==◌, List, [], ◌∷◌, get_or, length, refl, arith}
use Rattle.std.specs.List.{list_all}
use Rattle.std.proofs.lemmas.Bool.Decides.{nat_tests}
use Rattle.conc_types.specs.Words.{has_length}

both : (x y : Bool) → (x && y) ≡ true → (x ≡ true) × (y ≡ true)
both true y e = (refl, e)
both false y e = absurd cc

pub length-row : (width : ℕ) (rows : List (List (List ℕ))) (index : ℕ) → list_all (has_length width) rows ≡ true → index < length rows → length (get_or rows index []) ≡ width
length-row width [] index e below = absurd (omega arith)
length-row width (row ∷ rows) zero e below = let k = both (length row == width) _ e in grind (arith, nat_tests)
length-row width (row ∷ rows) (suc index) e below =
    let k = both (length row == width) _ e in length-row width rows index k.1 (omega arith)
