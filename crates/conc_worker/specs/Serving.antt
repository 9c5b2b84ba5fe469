-- What a look for the answer to a claim comes to.
use Rattle.std.specs.Prelude.{◌≡◌, ⊤, ℕ, ◌==◌, Bool, false, [], ◌∷◌, ◌++◌}
use Rattle.conc_types.specs.declared.event.PlaceId.{PlaceId}
use Rattle.conc_types.specs.declared.event.RequestId.{RequestId}
use Rattle.conc_types.specs.declared.plan.Plan.{Plan}
use Rattle.conc_pool_seats.specs.declared.posted.Posted.{Posted}
use Rattle.conc_pool_seats.specs.declared.views.Doing.TheVariants.{Idle}
use Rattle.conc_pool_seats.specs.Rule.{Runs}
use Rattle.conc_pool_seats.specs.Words.{request_word, run_word, stopping}
use Rattle.conc_board.specs.declared.hand.Claim.{Claim}
use Rattle.conc_board.specs.declared.hand.Hand.{Hand}
use Rattle.conc_board.specs.declared.hand.Polled.TheVariants as polled
use Rattle.conc_board.specs.Claims.{Polls, claim_place, claim_request}
use Rattle.conc_board.specs.Seats.{PostsNothing, PostsOne, doing_of, found_by_hand}
use Rattle.conc_worker.specs.Leaving.{Leaves}
use Rattle.conc_worker.specs.declared.serving.Served.{Served}
use Rattle.conc_worker.specs.declared.serving.Served.TheVariants as served

-- The hand served the request at the place, and does nothing then. It made three steps, each on the request's word:
-- the poll found the go, with the stop sign or without; the look for the stop sign and the post found it running. It left
-- that it stopped exactly where the look found the stop sign.
pub record ServesAt (plan : Plan) (r : RequestId) (place : PlaceId) (old new : Hand) : Type 0 where
  pub idle : doing_of new ≡ Idle
  pub stop : Bool
  pub looked : ℕ
  pub posted : ℕ
  pub left : Posted
  pub looked_fits : Runs stop place looked
  pub posted_fits : Runs false place posted
  pub leaves : Leaves plan r (looked == stopping place) left
  pub posts : PostsOne r left old new
  pub found :
      found_by_hand new ≡ found_by_hand old
      ++ (request_word r, run_word stop place) ∷ (request_word r, looked) ∷ (request_word r, posted) ∷ []

-- so it is with the request for which something was left, where something was
abbrev pub IfPosted : Served → (RequestId → Type 0) → Type 0
IfPosted (served.Posted r) IsSo = IsSo r
IfPosted answer IsSo = ⊤

-- what is answered to a claim, and what the hand does then
abbrev pub Serves : Plan → Served → Claim → Hand → Hand → Type 0
Serves plan (served.Posted r) claim old new =
    (r ≡ claim_request claim) × ServesAt plan (claim_request claim) (claim_place claim) old new
Serves plan (served.NotYet same) claim old new = Polls (polled.NotYet same) claim old new × PostsNothing old new
Serves plan served.Withdrawn claim old new = Polls polled.Withdrawn claim old new × PostsNothing old new
