-- What one request, the lead and a hand are before a call, and what a call leaves as it was.
use Rattle.std.specs.Prelude.{◌≡◌, ◌≢◌, [], ◌∷◌, IsTrue}
use Rattle.conc_types.specs.declared.event.PlaceId.{PlaceId}
use Rattle.conc_types.specs.declared.event.RequestId.{RequestId}
use Rattle.conc_pool_seats.specs.declared.views.Doing.TheVariants.{Idle}
use Rattle.conc_pool_seats.specs.declared.views.LeadState.{LeadState}
use Rattle.conc_pool_seats.specs.declared.views.LeadState.TheVariants.{Seen}
use Rattle.conc_pool_seats.specs.LeadStates.{IsLet}
use Rattle.conc_pool_seats.specs.Places.{has as has_place, without}
use Rattle.conc_pool_seats.specs.Words.{IsPlace}
use Rattle.conc_board.specs.declared.board.Board.{Board}
use Rattle.conc_board.specs.declared.hand.Claim.{Claim}
use Rattle.conc_board.specs.declared.hand.Hand.{Hand}
use Rattle.conc_board.specs.declared.lead.Lead.{Lead}
use Rattle.conc_board.specs.declared.lead.Looked.{Looked}
use Rattle.conc_board.specs.declared.lead.Looked.TheVariants.{Claimed}
use Rattle.conc_board.specs.Claims.{HasClaim}
use Rattle.conc_board.specs.Seats.{IsHandOf, IsLeadOf, SameLeadStates, doing_of, lead_state_of, places_of_hand, places_of_lead, plan_of}

-- the hand does nothing, and the place is one of its own
pub record IsFree (board : Board) (place : PlaceId) (hand : Hand) : Type 0 where
  pub of_board : IsHandOf board hand
  pub idle : doing_of hand ≡ Idle
  pub of_plan : IsPlace (plan_of board) place
  pub own : IsTrue (has_place (places_of_hand hand) place)

-- the claim is the one that the hand waits with
pub record WaitsWith (board : Board) (hand : Hand) (claim : Claim) : Type 0 where
  pub of_board : IsHandOf board hand
  pub has : HasClaim hand claim

-- a place of the lead's passes on to a hand, and all else that the lead has stays
pub record PassesOn (board : Board) (place : PlaceId) (old new : Lead) : Type 0 where
  pub lead : IsLeadOf board new
  pub lead_states : SameLeadStates old new
  pub left : places_of_lead new ≡ without (places_of_lead old) (place ∷ [])

-- calls on one request alone
pub record OnlyOne (board : Board) (r : RequestId) (old new : Lead) : Type 0 where
  pub lead : IsLeadOf board new
  pub others : (q : RequestId) → q ≢ r → lead_state_of new q ≡ lead_state_of old q

-- the requests 1 and 2 are let out, and have no go
pub record AreBothLet (board : Board) (lead : Lead) : Type 0 where
  pub lead_of_board : IsLeadOf board lead
  pub one : IsLet (lead_state_of lead (record { number = 1 }))
  pub two : IsLet (lead_state_of lead (record { number = 2 }))

-- where a claim was seen, the lead knows its place
abbrev pub IsSeen : Looked → LeadState → Type 0
IsSeen (Claimed p) lead_state = lead_state ≡ Seen p
IsSeen answer lead_state = Unit {0}
