-- The table of places, as far as it is made.
use Rattle.std.proofs.Common.{◌≡◌, refl, sym, ◌∙◌, ◌<◌, ◌≤◌, ◌+◌, ℕ, max, List, [], ◌∷◌, ◌++◌, map, arith}
use Rattle.std.specs.Prelude.{unwrap_or}
use Rattle.std.specs.List.{fold, reduce, sum_by}
use Rattle.conc_types.specs.declared.manager.Manager.{Manager}
use Rattle.conc_types.specs.declared.manager.Shift.{Shift}
use Rattle.conc_types.specs.Shifts.{most_places}
use Rattle.conc_types.specs.Words.{greatest}
use Rattle.conc_history_lines.specs.Places.{starts_from}

-- ---- the places of a manager

fold-max : (a : ℕ) (xs : List ℕ) → fold max a xs ≡ max a (greatest xs)
fold-max a [] = omega arith
fold-max a (x ∷ xs) = fold-max (max a x) xs ∙ omega arith

pub most_from : (shifts : List Shift) → most_places shifts ≡ unwrap_or (reduce max (map (λ shift. shift.places) shifts)) 1
most_from [] = refl
most_from (shift ∷ shifts) = sym (fold-max shift.places (map (λ (s : Shift). s.places) shifts))

-- ---- the table

-- these are the numbers of the managers before the rest, whose first place has this index, and the rest has few places
pub record AreStarts (managers rest : List Manager) (first : ℕ) (starts : List ℕ) : Type 0 where
  pub all : starts_from 0 managers ≡ starts ++ starts_from first rest
  pub few : first + sum_by (λ m. most_places m.shifts) rest ≤ 64
