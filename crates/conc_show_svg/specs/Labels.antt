-- What the rows and the plan tell of a request.
use Rattle.std.specs.Prelude.{ℕ, ◌+◌, Bool, false, is_some, if◌then◌else◌, List, [], ◌∷◌}
use Rattle.std.specs.Option.{option_map_or}
use Rattle.conc_types.specs.declared.event.RequestId.{RequestId}
use Rattle.conc_types.specs.Words.{numbered}
use Rattle.conc_base_law.specs.Words.{id_eq}
use Rattle.conc_show_model.specs.declared.model.Planned.{Planned}
use Rattle.conc_show_model.specs.declared.model.Row.{Row}

-- the index of the row of a request, or how many rows there are
abbrev pub row_of : List Row → RequestId → ℕ
row_of [] r = 0
row_of (row ∷ later) r = if id_eq row.request r then 0 else row_of later r + 1

-- the name of a request
abbrev pub name_of : List Row → RequestId → List ℕ
name_of [] r = []
name_of (row ∷ later) r = if id_eq row.request r then row.name else name_of later r

-- it is a member of a set
abbrev pub is_member : List Planned → RequestId → Bool
is_member planned r = option_map_or (λ p. is_some p.set) (numbered planned r.number) false
