-- Boards, leads and hands as contracts speak of them.
use Rattle.std.specs.Prelude.{◌≡◌, ◌≢◌, ℕ, ◌≤◌, ◌==◌, Bool, false, List, [], ◌∷◌, ◌++◌, length, slice_index, Option, Some, IsFalse, IsTrue}
use Rattle.conc_types.specs.declared.event.PlaceId.{PlaceId}
use Rattle.conc_types.specs.declared.event.RequestId.{RequestId}
use Rattle.conc_types.specs.declared.plan.Plan.{Plan}
use Rattle.conc_pool_seats.specs.declared.posted.Posted.{Posted}
use Rattle.conc_pool_seats.specs.declared.views.Doing.{Doing}
use Rattle.conc_pool_seats.specs.declared.views.Doing.TheVariants.{Idle}
use Rattle.conc_pool_seats.specs.declared.views.LeadState.{LeadState}
use Rattle.conc_pool_seats.specs.Courses.{GoesOn}
use Rattle.conc_pool_seats.specs.Doings.{IsWithin}
use Rattle.conc_pool_seats.specs.Places.{has, without}
use Rattle.conc_pool_seats.specs.Reports.{MayLeave}
use Rattle.conc_pool_seats.specs.Rule.{Runs, exclude}
use Rattle.conc_pool_seats.specs.LeadStates.{IsLetOrGone, IsSettled, WordFits, is_marked, lead_state_in}
use Rattle.conc_pool_seats.specs.Words.{IsPlace, count_of_requests, count_of_words, end_word, place_word, request_word}
use Rattle.conc_board.specs.Admission.{IsAdmitted}
use Rattle.conc_board.specs.declared.board.Board.{Board}
use Rattle.conc_board.specs.declared.hand.Hand.{Hand}
use Rattle.conc_board.specs.declared.lead.Lead.{Lead}

-- the plan of a board
abbrev pub plan_of : Board → Plan
plan_of board = board.table.shared.key

-- one step found this in the word, and added it to what the seat found
abbrev pub AddsOne : ℕ → (ℕ → Type 0) → List (ℕ × ℕ) → List (ℕ × ℕ) → Type 0
AddsOne word IsSo old new = (n : ℕ) × IsSo n × (new ≡ old ++ (word, n) ∷ [])

-- the word of a place or of the end
abbrev pub IsFlag : ℕ → Type 0
IsFlag n = n ≤ 1

-- it is seen as set, or not
abbrev pub IsFlagSeen : Bool → ℕ → Type 0
IsFlagSeen answer n = (n ≤ 1) × (answer ≡ (n == 1))

-- ---- leads

-- the lead state of a request in the lead's view
abbrev pub lead_state_of : Lead → RequestId → LeadState
lead_state_of lead r = lead_state_in lead.seat.me.0.lead_states r

-- the places that are the lead's
abbrev pub places_of_lead : Lead → List PlaceId
places_of_lead lead = lead.seat.me.0.places

-- what its steps found, in order: the number of the word, and what stood there
abbrev pub found_by_lead : Lead → List (ℕ × ℕ)
found_by_lead lead = lead.seat.me.0.found

-- what it took out of slots, in order: the number of the request's word, and what was posted
abbrev pub posts_of_lead : Lead → List (ℕ × Posted)
posts_of_lead lead = lead.seat.me.0.posts

-- what it last wrote to a word that is no request's
abbrev pub switch_of : Lead → ℕ → ℕ
switch_of lead word = slice_index lead.seat.me.0.switches word

-- one step of the lead's found this in the word
abbrev pub LeadFinds : ℕ → (ℕ → Type 0) → Lead → Lead → Type 0
LeadFinds word IsSo old new = AddsOne word IsSo (found_by_lead old) (found_by_lead new)

-- it found the word of the request as its lead state has it
abbrev pub FindsFitting : RequestId → Lead → Lead → Type 0
FindsFitting r old new = LeadFinds (request_word r) (WordFits (lead_state_of old r)) old new

-- this may be left for the request, by its mark
abbrev pub IsLeftFor : Board → Lead → RequestId → Posted → Type 0
IsLeftFor board lead r posted = MayLeave (plan_of board) r (is_marked (lead_state_of lead r)) posted

-- the lead is the one of this board, and knows its plan
pub record IsLeadOf (board : Board) (lead : Lead) : Type 0 where
  pub seat : lead.seat.table_id ≡ board.table.shared.table_id
  pub plan : lead.seat.me.0.plan ≡ Some (plan_of board)
  pub lead_states : length lead.seat.me.0.lead_states ≡ count_of_requests (plan_of board)
  pub settled : (r : RequestId) → IsSettled (lead_state_of lead r)
  pub switches : length lead.seat.me.0.switches ≡ count_of_words (plan_of board)

-- the request excludes none that is let out or has the go
abbrev pub IsApart : Board → RequestId → Lead → Type 0
IsApart board r lead =
    (q : RequestId) → IsLetOrGone (lead_state_of lead q) → IsFalse (exclude (plan_of board) r q)

-- each place of the board is the lead's
pub record HasAllPlaces (board : Board) (lead : Lead) : Type 0 where
  pub each : (p : PlaceId) → IsPlace (plan_of board) p → IsTrue (has (places_of_lead lead) p)

-- each request is in the lead state that it was in
pub record SameLeadStates (old new : Lead) : Type 0 where
  pub each : (r : RequestId) → lead_state_of new r ≡ lead_state_of old r

-- each word that is no request's is as the lead wrote it before
pub record SameSwitches (old new : Lead) : Type 0 where
  pub each : (word : ℕ) → switch_of new word ≡ switch_of old word

-- what the lead took out of slots before is the beginning of what it has taken since
abbrev pub TakesMore : Lead → Lead → Type 0
TakesMore old new = (taken : List (ℕ × Posted)) × (posts_of_lead new ≡ posts_of_lead old ++ taken)

-- a call on a request: its lead state goes on, other requests are in the lead states that they were in, and
-- the lead has the places that it had, and has them open or closed as before
pub record Changes (board : Board) (r : RequestId) (old new : Lead) : Type 0 where
  pub lead : IsLeadOf board new
  pub goes_on : GoesOn (lead_state_of old r) (lead_state_of new r)
  pub others : (q : RequestId) → q ≢ r → lead_state_of new q ≡ lead_state_of old q
  pub places : places_of_lead new ≡ places_of_lead old
  pub switches : SameSwitches old new
  pub posts : TakesMore old new

-- a call that finds the word of a request as its lead state has it, and sets that lead state
pub record SetsLeadState (board : Board) (r : RequestId) (state : LeadState) (old new : Lead) : Type 0 where
  pub lead : Changes board r old new
  pub lead_state : lead_state_of new r ≡ state
  pub found : FindsFitting r old new

-- a call on no request
pub record LeavesLeadStates (board : Board) (old new : Lead) : Type 0 where
  pub lead : IsLeadOf board new
  pub lead_states : SameLeadStates old new
  pub places : places_of_lead new ≡ places_of_lead old
  pub posts : TakesMore old new

-- what the lead last wrote to a word that is no request's, which is 0 or 1
abbrev pub IsAsWritten : Lead → ℕ → ℕ → Type 0
IsAsWritten lead word n = (n ≡ switch_of lead word) × IsFlag n

-- a call that writes this to a word that is no request's, in which it finds what was written last
pub record SetsFlag (board : Board) (word value : ℕ) (old new : Lead) : Type 0 where
  pub lead : LeavesLeadStates board old new
  pub found : LeadFinds word (IsAsWritten old word) old new
  pub set : switch_of new word ≡ value
  pub others : (other : ℕ) → other ≢ word → switch_of new other ≡ switch_of old other

-- ---- places and the end

-- the lead has the place open
abbrev pub HasOpen : Board → Lead → PlaceId → Type 0
HasOpen board lead p = switch_of lead (place_word (plan_of board) p) ≡ 1

-- it has told that there is no more to come
abbrev pub HasTold : Board → Lead → Type 0
HasTold board lead = switch_of lead (end_word (plan_of board)) ≡ 1

-- it has opened no place, and has not told
pub record HasSetNothing (lead : Lead) : Type 0 where
  pub each : (word : ℕ) → switch_of lead word ≡ 0

-- ---- hands

-- what a hand does
abbrev pub doing_of : Hand → Doing
doing_of hand = hand.seat.me.0.doing

-- the places that are the hand's
abbrev pub places_of_hand : Hand → List PlaceId
places_of_hand hand = hand.seat.me.0.places

-- what its steps found, in order
abbrev pub found_by_hand : Hand → List (ℕ × ℕ)
found_by_hand hand = hand.seat.me.0.found

-- what it left in slots, in order: the number of the request's word, and what was posted
abbrev pub posts_of_hand : Hand → List (ℕ × Posted)
posts_of_hand hand = hand.seat.me.0.posts

-- it left nothing
abbrev pub PostsNothing : Hand → Hand → Type 0
PostsNothing old new = posts_of_hand new ≡ posts_of_hand old

-- it left this for the request, and nothing else
abbrev pub PostsOne : RequestId → Posted → Hand → Hand → Type 0
PostsOne r posted old new = posts_of_hand new ≡ posts_of_hand old ++ (request_word r, posted) ∷ []

-- one step of the hand's found this in the word
abbrev pub HandFinds : ℕ → (ℕ → Type 0) → Hand → Hand → Type 0
HandFinds word IsSo old new = AddsOne word IsSo (found_by_hand old) (found_by_hand new)

-- it found the word of the request running at the place
abbrev pub FindsRunningAt : RequestId → PlaceId → Hand → Hand → Type 0
FindsRunningAt r place old new = HandFinds (request_word r) (Runs false place) old new

-- it found the place open, or not
abbrev pub FindsOpen : Board → PlaceId → Bool → Hand → Hand → Type 0
FindsOpen board place answer old new = HandFinds (place_word (plan_of board) place) (IsFlagSeen answer) old new

-- the slots that are out with it
abbrev pub slots_of : Hand → List (ℕ × Option Posted)
slots_of hand = hand.seat.me.1

-- The hand is one of this board, and what it does is for a request and a place of the board's plan: for a request that
-- the manager of the place admits.
pub record IsHandOf (board : Board) (hand : Hand) : Type 0 where
  pub seat : hand.seat.table_id ≡ board.table.shared.table_id
  pub within : IsWithin (plan_of board) (doing_of hand)
  pub admitted : IsAdmitted (plan_of board) (doing_of hand)

-- it is one still, and has the places that it had
pub record Stays (board : Board) (old new : Hand) : Type 0 where
  pub hand : IsHandOf board new
  pub places : places_of_hand new ≡ places_of_hand old

-- ---- a hand that is split off

-- The hand does nothing, and has these places, which were the lead's. Else the lead is as it was.
pub record IsSplitOff (board : Board) (places : List PlaceId) (old new : Lead) (made : Hand) : Type 0 where
  pub lead : IsLeadOf board new
  pub lead_states : SameLeadStates old new
  pub left : places_of_lead new ≡ without (places_of_lead old) places
  pub found : found_by_lead new ≡ found_by_lead old
  pub switches : SameSwitches old new
  pub posts : posts_of_lead new ≡ posts_of_lead old
  pub hand : IsHandOf board made
  pub idle : doing_of made ≡ Idle
  pub passed : places_of_hand made ≡ places
  pub nothing_found : found_by_hand made ≡ []
