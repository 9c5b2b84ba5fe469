-- Claims and permits, and what a hand's calls answer.
use Rattle.std.specs.Prelude.{◌≡◌, ◌≢◌, ◌⊎◌, ℕ, ◌≤◌, ◌==◌, ◌||◌, Bool, List, [], ◌∷◌, ◌++◌, Option, IsTrue, IfSome}
use Rattle.conc_types.specs.declared.event.PlaceId.{PlaceId}
use Rattle.conc_types.specs.declared.event.RequestId.{RequestId}
use Rattle.conc_types.specs.declared.plan.Plan.{Plan}
use Rattle.conc_base_law.specs.Words.{Has}
use Rattle.conc_board.specs.Admission.{admits_at}
use Rattle.conc_pool_seats.specs.declared.posted.Posted.{Posted}
use Rattle.conc_pool_seats.specs.declared.views.Doing.TheVariants.{Idle, Waits, Serves}
use Rattle.conc_pool_seats.specs.Places.{has}
use Rattle.conc_pool_seats.specs.Reports.{MayLeave}
use Rattle.conc_pool_seats.specs.Rule.{Runs}
use Rattle.conc_pool_seats.specs.Words.{IsPlace, IsRequest, claimed, count_of_requests, place_word, released, request_word, run_word, running, stopping}
use Rattle.conc_board.specs.declared.board.Board.{Board}
use Rattle.conc_board.specs.declared.hand.Claim.{Claim}
use Rattle.conc_board.specs.declared.hand.Hand.{Hand}
use Rattle.conc_board.specs.declared.hand.Permit.{Permit}
use Rattle.conc_board.specs.declared.hand.Polled.{Polled}
use Rattle.conc_board.specs.declared.hand.Polled.TheVariants as polled
use Rattle.conc_board.specs.Seats.{AddsOne, IsHandOf, Stays, doing_of, found_by_hand, places_of_hand, plan_of}

-- ---- claims and permits

abbrev pub claim_request : Claim → RequestId
claim_request claim = claim.request

abbrev pub claim_place : Claim → PlaceId
claim_place claim = claim.place

abbrev pub permit_request : Permit → RequestId
permit_request permit = permit.request

abbrev pub permit_place : Permit → PlaceId
permit_place permit = permit.place

-- the claim is the one that the hand has
abbrev pub HasClaim : Hand → Claim → Type 0
HasClaim hand claim = doing_of hand ≡ Waits (claim_request claim) (claim_place claim)

-- the permit is the one that the hand has, with the stop sign or without
abbrev pub HasPermitWith : Bool → Hand → Permit → Type 0
HasPermitWith stop hand permit = doing_of hand ≡ Serves (permit_request permit) (permit_place permit) stop

abbrev pub HasPermit : Hand → Permit → Type 0
HasPermit hand permit = (stop : Bool) × HasPermitWith stop hand permit

-- this may be left with the permit that the hand has
abbrev pub MayPost : Plan → Hand → Permit → Posted → Type 0
MayPost plan hand permit posted =
    (stop : Bool) × HasPermitWith stop hand permit × MayLeave plan (permit_request permit) stop posted

-- ---- a claim is made

-- the hand does nothing, and the place is one of the board's and its own
pub record MayClaim (board : Board) (place : PlaceId) (old : Hand) : Type 0 where
  pub hand : IsHandOf board old
  pub idle : doing_of old ≡ Idle
  pub of_plan : IsPlace (plan_of board) place
  pub own : IsTrue (has (places_of_hand old) place)

-- a step of the hand's that claims this request, and one that does not
pub record ClaimsOne (board : Board) (r : RequestId) (place : PlaceId) (old new : Hand) (claim : Claim) : Type 0 where
  pub hand : Stays board old new
  pub request : claim_request claim ≡ r
  pub at_place : claim_place claim ≡ place
  pub waits : HasClaim new claim
  pub found : found_by_hand new ≡ found_by_hand old ++ (request_word r, released) ∷ []

pub record MissesOne (board : Board) (r : RequestId) (old new : Hand) : Type 0 where
  pub hand : Stays board old new
  pub idle : doing_of new ≡ Idle
  pub found : AddsOne (request_word r) (λ n. n ≢ released) (found_by_hand old) (found_by_hand new)

-- A request was claimed for a place whose manager admits it; the last step found it Released.
pub record ClaimsAt (board : Board) (place : PlaceId) (old new : Hand) (claim : Claim) : Type 0 where
  pub hand : Stays board old new
  pub request : IsRequest (plan_of board) (claim_request claim)
  pub admitted : IsTrue (admits_at (plan_of board) place (claim_request claim))
  pub at_place : claim_place claim ≡ place
  pub waits : HasClaim new claim
  pub steps : List (ℕ × ℕ)
  pub found :
      found_by_hand new ≡ found_by_hand old ++ (steps ++ (request_word (claim_request claim), released) ∷ [])

-- in these steps the request was found as not Released
abbrev pub IsMissed : List (ℕ × ℕ) → RequestId → Type 0
IsMissed steps r = (n : ℕ) × (n ≢ released) × Has steps (request_word r, n)

-- so was each of the first requests that the place's manager admits
abbrev pub AreMissed : Plan → PlaceId → List (ℕ × ℕ) → ℕ → Type 0
AreMissed plan place steps count =
    (r : RequestId) → 1 ≤ r.number → r.number ≤ count → IsTrue (admits_at plan place r) → IsMissed steps r

-- the hand made these steps, and does nothing
pub record ClaimsNone (board : Board) (old new : Hand) (steps : List (ℕ × ℕ)) : Type 0 where
  pub hand : Stays board old new
  pub idle : doing_of new ≡ Idle
  pub found : found_by_hand new ≡ found_by_hand old ++ steps

-- it claimed nothing by some steps
pub record MissesSome (board : Board) (old new : Hand) : Type 0 where
  pub steps : List (ℕ × ℕ)
  pub made : ClaimsNone board old new steps

-- each request that the place's manager admits was found as not Released
pub record MissesAll (board : Board) (place : PlaceId) (old new : Hand) : Type 0 where
  pub steps : List (ℕ × ℕ)
  pub made : ClaimsNone board old new steps
  pub missed : AreMissed (plan_of board) place steps (count_of_requests (plan_of board))

-- No request was claimed: the place was found closed, or each request that its manager admits was
-- found as not Released.
pub record FindsNone (board : Board) (place : PlaceId) (old new : Hand) : Type 0 where
  pub steps : List (ℕ × ℕ)
  pub made : ClaimsNone board old new steps
  pub cause :
      Has steps (place_word (plan_of board) place, 0)
      ⊎ AreMissed (plan_of board) place steps (count_of_requests (plan_of board))

-- the next step was on the word of this request
abbrev pub LooksNextAt : RequestId → Hand → Hand → Type 0
LooksNextAt r old new =
    (n : ℕ) × (rest : List (ℕ × ℕ)) × (found_by_hand new ≡ found_by_hand old ++ (request_word r, n) ∷ rest)

-- the hint, where the place's manager admits it, was looked at next
abbrev pub LooksNextAtHint : Plan → PlaceId → Option RequestId → Hand → Hand → Type 0
LooksNextAtHint plan place hint old new = IfSome hint (λ r. IsTrue (admits_at plan place r) → LooksNextAt r old new)

-- The place was found closed, and nothing else was looked at; or it was found open, and the hint, where the
-- place's manager admits it, was looked at before any other request.
abbrev pub FollowsHint : Board → PlaceId → Option RequestId → Hand → Hand → Type 0
FollowsHint board place hint old new = IfSome hint (λ r. IsTrue (admits_at (plan_of board) place r) →
    (found_by_hand new ≡ found_by_hand old ++ (place_word (plan_of board) place, 0) ∷ [])
    ⊎ ((n : ℕ) × (rest : List (ℕ × ℕ))
    × (found_by_hand new ≡ found_by_hand old ++ (place_word (plan_of board) place, 1) ∷ (request_word r, n) ∷ rest)))

-- ---- a claim is answered

-- what a poll answers to a claim, and what the hand does then
abbrev pub Polls : Polled → Claim → Hand → Hand → Type 0
Polls (polled.Go permit) claim old new =
    (permit_request permit ≡ claim_request claim) × (permit_place permit ≡ claim_place claim)
    × ((stop : Bool) × HasPermitWith stop new permit
    × (found_by_hand new ≡ found_by_hand old ++ (request_word (claim_request claim), run_word stop (claim_place claim)) ∷ []))
Polls (polled.NotYet same) claim old new =
    (claim_request same ≡ claim_request claim) × (claim_place same ≡ claim_place claim) × HasClaim new same
    × (found_by_hand new ≡ found_by_hand old ++ (request_word (claim_request claim), claimed (claim_place claim)) ∷ [])
Polls polled.Withdrawn claim old new =
    (doing_of new ≡ Idle)
    × AddsOne (request_word (claim_request claim)) (λ n. (n ≢ claimed (claim_place claim)) × (n ≢ running (claim_place claim)) × (n ≢ stopping (claim_place claim)))
    (found_by_hand old) (found_by_hand new)

-- ---- the request is told to stop

-- the permit, after its word was loaded, has the stop sign where it had it or the word is Stopping
pub record Warned (answer : Bool) (permit : Permit) (old new : Hand) : Type 0 where
  pub stop : Bool
  pub loaded : ℕ
  pub was : HasPermitWith stop old permit
  pub now : HasPermitWith (answer || stop) new permit
  pub answers : answer ≡ (loaded == stopping (permit_place permit))
  pub fits : Runs stop (permit_place permit) loaded
  pub found : found_by_hand new ≡ found_by_hand old ++ (request_word (permit_request permit), loaded) ∷ []
