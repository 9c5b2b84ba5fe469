-- The room that one more life needs.
use Rattle.std.specs.Prelude.{ℕ, ◌+◌, ◌*◌, List, [], ◌∷◌, length, IsFalse, ⊤}
use Rattle.std.specs.List.{list_any}
use Rattle.conc_types.specs.declared.event.Event.{Event}
use Rattle.conc_types.specs.declared.plan.Plan.{Plan}
use Rattle.conc_types.specs.declared.script.Reading.{Reading}
use Rattle.conc_base_law.specs.Kinds.{is_resume}

-- for how many events there has to be room so that one more life fits
abbrev pub need : Plan → List Reading → ℕ
need plan readings = 8 * length plan.requests + 2 * length plan.script.commands + length readings + 2

-- the events are those of one life: no resume stands after the first of them
abbrev pub IsOfOneLife : List Event → Type 0
IsOfOneLife [] = ⊤
IsOfOneLife (e ∷ later) = IsFalse (list_any is_resume later)
