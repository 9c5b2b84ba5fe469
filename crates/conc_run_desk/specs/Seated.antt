-- A lead that is seated at a board of a plan, between two calls.
use Rattle.std.specs.Prelude.{◌≡◌, length, Some}
use Rattle.conc_types.specs.declared.event.RequestId.{RequestId}
use Rattle.conc_types.specs.declared.plan.Plan.{Plan}
use Rattle.conc_board.specs.declared.lead.Lead.{Lead}
use Rattle.conc_board.specs.Seats.{lead_state_of}
use Rattle.conc_pool_seats.specs.LeadStates.{IsSettled}
use Rattle.conc_pool_seats.specs.Words.{count_of_requests, count_of_words}

-- it knows the plan, has a lead state for each request and what it wrote to each word, and is in the middle of no call
pub record IsSeated (plan : Plan) (lead : Lead) : Type 0 where
  pub knows : lead.seat.me.0.plan ≡ Some plan
  pub lead_states : length lead.seat.me.0.lead_states ≡ count_of_requests plan
  pub settled : (r : RequestId) → IsSettled (lead_state_of lead r)
  pub switches : length lead.seat.me.0.switches ≡ count_of_words plan
