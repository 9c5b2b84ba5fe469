-- What one more string adds to the places, and where the string at an index stands.
use Rattle.std.proofs.Common.{◌≡◌, ◌≤◌, ◌<◌, ◌-◌, ◌+◌, ℕ, zero, suc, List, [], ◌∷◌, ◌++◌, Some, get_or, take, drop, length, refl, sym, ap, ◌∙◌, arith}
use Rattle.std.specs.Prelude.{slice_get}
use Rattle.std.proofs.lemmas.List.{drop-append-le, drop_at, length-append, length-drop, take-append-le, take_all}
use Rattle.conc_types.specs.Cells.{AreEnds, cut, start_of}

-- the start of some places is below their size
pub start-low : (start : ℕ) (ends : List ℕ) (size : ℕ) → AreEnds start ends size → start ≤ size
unfolding AreEnds
start-low start [] size h = omega (arith, h)
start-low start (end ∷ ends) size h =
    let rest = start-low end ends size h.1 in
    let low = h.0 in
    omega arith

-- one place more, where a string's bytes end
pub AreEnds-push : (start : ℕ) (ends bytes more : List ℕ) (end : ℕ) → end ≡ length bytes + length more → AreEnds start ends (length bytes) → AreEnds start (ends ++ end ∷ []) (length (bytes ++ more))
unfolding AreEnds
AreEnds-push start [] bytes more end e h = (omega (arith, h), e ∙ sym (length-append bytes more))
AreEnds-push start (first ∷ ends) bytes more end e h = (h.0, AreEnds-push first ends bytes more end e h.1)

-- one string for each place
pub length-cut : (start : ℕ) (ends bytes : List ℕ) → length (cut start ends bytes) ≡ length ends
unfolding cut
length-cut start [] bytes = refl
length-cut start (end ∷ ends) bytes = ap suc (length-cut end ends bytes)

-- one string more
pub cut-push : (start : ℕ) (ends bytes more : List ℕ) (end : ℕ) → end ≡ length bytes + length more → AreEnds start ends (length bytes)
    → cut start (ends ++ end ∷ []) (bytes ++ more) ≡ cut start ends bytes ++ more ∷ []
unfolding cut AreEnds
cut-push start [] bytes more end e h =
    let at : drop start (bytes ++ more) ≡ more = drop_at bytes more start (sym h) in
    let all : take (end - start) more ≡ more = take_all (end - start) more (omega (arith, h)) in
    rw (at, all) refl
cut-push start (first ∷ ends) bytes more end e h =
    let up = start-low first ends (length bytes) h.1 in
    let low = h.0 in
    let at : start ≤ length bytes = omega arith in
    let fits : first - start ≤ length (drop start bytes) = omega (arith, length-drop start bytes) in
    let head : take (first - start) (drop start (bytes ++ more)) ≡ take (first - start) (drop start bytes) =
    rw (drop-append-le start bytes more at) (take-append-le (first - start) (drop start bytes) more fits) in
    rw (head, cut-push first ends bytes more end e h.1) refl

-- the string at an index
pub slice_get-cut : (start : ℕ) (ends bytes : List ℕ) (index d : ℕ) → index < length ends
    → slice_get (cut start ends bytes) index ≡ Some (take (get_or ends index d - start_of start ends index) (drop (start_of start ends index) bytes))
unfolding cut start_of
slice_get-cut start [] bytes index d below = absurd (omega arith)
slice_get-cut start (end ∷ ends) bytes zero d below = refl
slice_get-cut start (end ∷ ends) bytes (suc index) d below = slice_get-cut end ends bytes index d (omega arith)

-- it lies within the buffer
pub record IsWithin (start : ℕ) (ends : List ℕ) (size index d : ℕ) : Type 0 where
  pub order : start_of start ends index ≤ get_or ends index d
  pub bound : get_or ends index d ≤ size

pub is_within : (start : ℕ) (ends : List ℕ) (size index d : ℕ) → AreEnds start ends size → index < length ends → IsWithin start ends size index d
unfolding AreEnds start_of
is_within start [] size index d h below = absurd (omega arith)
is_within start (end ∷ ends) size zero d h below = record { order = h.0; bound = start-low end ends size h.1 }
is_within start (end ∷ ends) size (suc index) d h below =
    let rest = is_within end ends size index d h.1 (omega arith) in
    record { order = rest.order; bound = rest.bound }

-- the start of a string, by the end of the one before
pub start_of-first : (start : ℕ) (ends : List ℕ) → start_of start ends 0 ≡ start
unfolding start_of
start_of-first start [] = refl
start_of-first start (end ∷ ends) = refl

start_of-next : (start : ℕ) (ends : List ℕ) (index d : ℕ) → suc index < length ends → start_of start ends (suc index) ≡ get_or ends index d
unfolding start_of
start_of-next start [] index d below = absurd (omega arith)
start_of-next start (end ∷ []) index d below = absurd (omega arith)
start_of-next start (end ∷ next ∷ ends) zero d below = refl
start_of-next start (end ∷ next ∷ ends) (suc index) d below = start_of-next end (next ∷ ends) index d (omega arith)

pub start_of-later : (start : ℕ) (ends : List ℕ) (index d : ℕ) → 0 < index → index < length ends → start_of start ends index ≡ get_or ends (index - 1) d
start_of-later start ends zero d some below = absurd (omega arith)
start_of-later start ends (suc index) d some below =
    let step : suc index - 1 ≡ index = omega arith in
    rw step (start_of-next start ends index d below)

pub ruleset starts = (start_of-first, start_of-later)
