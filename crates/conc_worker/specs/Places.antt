-- The places that a worker serves.
use Rattle.std.specs.Prelude.{List, IsTrue}
use Rattle.conc_types.specs.declared.event.PlaceId.{PlaceId}
use Rattle.conc_types.specs.declared.plan.Plan.{Plan}
use Rattle.conc_pool_seats.specs.Places.{AreAmong, has}
use Rattle.conc_pool_seats.specs.Words.{IsPlace}
use Rattle.conc_board.specs.declared.hand.Hand.{Hand}
use Rattle.conc_board.specs.Seats.{places_of_hand}

-- each of the places is one of the plan
abbrev pub ArePlaces : Plan → List PlaceId → Type 0
ArePlaces plan places = (p : PlaceId) → IsTrue (has places p) → IsPlace plan p

-- each of the places is one of the plan, and the hand's own
pub record AreServed (plan : Plan) (hand : Hand) (places : List PlaceId) : Type 0 where
  pub of_plan : ArePlaces plan places
  pub own : AreAmong places (places_of_hand hand)
