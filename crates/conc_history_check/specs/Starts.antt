-- Whether a request may start at a place.
use Rattle.std.specs.Prelude.{Bool}
use Rattle.std.specs.List.{list_any}
use Rattle.conc_types.specs.declared.event.PlaceId.{PlaceId}
use Rattle.conc_types.specs.declared.facts.State.{State}
use Rattle.conc_types.specs.declared.plan.Plan.{Plan}
use Rattle.conc_base_law.specs.Next.{may_start}

-- a request of the plan may start there
abbrev pub one_may_start : Plan → State → PlaceId → Bool
one_may_start plan s place = list_any (λ r. may_start plan s r place) plan.requests
