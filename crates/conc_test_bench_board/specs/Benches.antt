-- The plan of the measurement.
use Rattle.std.specs.Prelude.{◌≡◌, IsFalse}
use Rattle.conc_types.specs.declared.event.RequestId.{RequestId}
use Rattle.conc_types.specs.declared.plan.Plan.{Plan}
use Rattle.conc_base_law.specs.Places.{count_of_places}
use Rattle.conc_pool_seats.specs.Rule.{exclude}
use Rattle.conc_pool_seats.specs.Words.{count_of_requests}

-- no two requests exclude each other
pub record ExcludesNothing (plan : Plan) : Type 0 where
  pub each : (r q : RequestId) → IsFalse (exclude plan r q)

-- it has the requests and places of the measurement, and no two requests exclude each other
pub record IsBench (plan : Plan) : Type 0 where
  pub requests : count_of_requests plan ≡ 3840
  pub places : count_of_places plan ≡ 64
  pub apart : ExcludesNothing plan
