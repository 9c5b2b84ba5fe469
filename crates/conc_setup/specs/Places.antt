-- The places of managers.
use Rattle.std.specs.Prelude.{ℕ, List}
use Rattle.std.specs.List.{sum_by}
use Rattle.conc_types.specs.Shifts.{most_places}
use Rattle.conc_data_entries.specs.declared.raw.RawManager.{RawManager}

-- the places of managers in all
abbrev pub places_in_all : List RawManager → ℕ
places_in_all managers = sum_by (λ m. most_places m.shifts.list) managers
