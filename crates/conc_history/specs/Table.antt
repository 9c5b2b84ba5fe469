-- The table of the requests, read from the state at the end of a history.
use Rattle.std.specs.Prelude.{ℕ, List, [], ◌∷◌, map}
use Rattle.std.specs.List.{concat}
use Rattle.std.specs.Option.{option_map_or}
use Rattle.conc_types.specs.declared.event.Phase.{Phase}
use Rattle.conc_types.specs.declared.event.Status.{Status}
use Rattle.conc_types.specs.declared.facts.State.{State}
use Rattle.conc_types.specs.declared.plan.Plan.{Plan}
use Rattle.conc_types.specs.declared.plan.Req.{Req}
use Rattle.conc_base_law.specs.Status.{status_of}
use Rattle.conc_base_law.specs.Text.{id_word, item_name, line_of, phase_word, status_word}

-- the line of a request with this phase and status
abbrev pub line_with : Plan → Req → Phase × Status → List ℕ
line_with plan r s = line_of (id_word r.number ∷ phase_word s.0 ∷ status_word s.1 ∷ item_name plan r.item ∷ [])

-- the line of a request, if it is submitted
unfoldable pub line_at : Plan → State → Req → List ℕ
line_at plan s r = option_map_or (line_with plan r) (status_of plan s r) []

-- the lines of all requests
unfoldable pub table_at : Plan → State → List ℕ
table_at plan s = concat (map (line_at plan s) plan.requests)
