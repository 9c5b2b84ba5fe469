-- Work shifts and rules.
use Rattle.std.specs.Prelude.{ℕ, if◌then◌else◌, List, map}
use Rattle.conc_types.specs.declared.manager.Shift.{Shift}
use Rattle.conc_types.specs.Words.{greatest, is_empty}

-- the places of a manager in all: those of its greatest shift, or 1 where it has none
abbrev pub most_places : List Shift → ℕ
most_places shifts = if is_empty shifts then 1 else greatest (map (λ shift. shift.places) shifts)
