-- What the facts at an index say of the request at that index.
use Rattle.std.specs.Prelude.{Bool, false, not, ◌&&◌, ◌==◌, Option, None, Some}
use Rattle.conc_types.specs.declared.event.PlaceId.{PlaceId}
use Rattle.conc_types.specs.declared.facts.Facts.{Facts}
use Rattle.conc_types.specs.Words.{some_and}
use Rattle.conc_base_law.specs.State.{is_completed, is_live}

-- it is let out
abbrev pub let_at : Option Facts → Bool
let_at None = false
let_at (Some own) = own.let_out

-- it runs at the place
abbrev pub here_at : PlaceId → Option Facts → Bool
here_at place None = false
here_at place (Some own) = some_and (λ p. p.index == place.index) own.place

-- it waits to be let out, and is not held
abbrev pub waits : Facts → Bool
waits own = own.entered && (not (is_live own) && (not (is_completed own) && not own.held))

abbrev pub waits_at : Option Facts → Bool
waits_at None = false
waits_at (Some own) = waits own
