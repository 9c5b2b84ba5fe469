-- The workers of a run, and which places the lead and they have together.
use Rattle.std.specs.Prelude.{◌≡◌, All, ◌⊎◌, ◌↔◌, ◌<◌, ◌≤◌, ◌%◌, ℕ, List, [], length, slice_index_or, Option, None, Some, IsTrue}
use Rattle.conc_types.specs.declared.event.PlaceId.{PlaceId}
use Rattle.conc_types.specs.declared.plan.Plan.{Plan}
use Rattle.conc_base_law.specs.Places.{count_of_places}
use Rattle.conc_base_law.specs.Words.{Has}
use Rattle.conc_pool_seats.specs.declared.views.Doing.TheVariants.{Idle}
use Rattle.conc_pool_seats.specs.Places.{has}
use Rattle.conc_pool_seats.specs.Words.{IsPlace}
use Rattle.conc_board.specs.declared.board.Board.{Board}
use Rattle.conc_board.specs.declared.hand.Hand.{Hand}
use Rattle.conc_board.specs.declared.lead.Lead.{Lead}
use Rattle.conc_board.specs.Seats.{IsHandOf, doing_of, places_of_hand, places_of_lead, plan_of}
use Rattle.conc_pool_lanes.specs.Lanes.{IsHandPassOf, plan_of as plan_of_lanes}
use Rattle.conc_pool_lanes.specs.declared.lanes.Lanes.{Lanes}
use Rattle.conc_run_workers.specs.declared.crew.CrewMember.{CrewMember}
use Rattle.conc_run_workers.specs.declared.crew.Shared.{Shared}
use Rattle.conc_worker.specs.Places.{AreServed}

-- ---- which places a worker serves

-- the places of the plan whose index leaves this remainder when divided by the number of threads
abbrev pub AreDealt : Plan → ℕ → ℕ → List PlaceId → Type 0
AreDealt plan threads rest places = (p : PlaceId) → IsTrue (has places p) ↔ ((p.index < count_of_places plan) × (p.index % threads ≡ rest))

-- ---- hands

-- a worker has a hand of this board, which does nothing, and serves these places of its own
abbrev pub IsFree : Board → List PlaceId → Option Hand → Type 0
IsFree board places None = ⊥
IsFree board places (Some hand) = IsHandOf board hand × (doing_of hand ≡ Idle) × AreServed (plan_of board) hand places

abbrev pub IsFreeMember : Board → CrewMember → Type 0
IsFreeMember board worker = IsFree board worker.places.items worker.hand

-- its hand was taken in
abbrev pub IsTakenIn : CrewMember → Type 0
IsTakenIn worker = worker.hand ≡ None

-- its pass takes from these lanes
abbrev pub HasPass : Lanes → CrewMember → Type 0
HasPass lanes worker = IsHandPassOf lanes worker.pass

-- the places that are its hand's
abbrev pub places_had : Option Hand → List PlaceId
places_had None = []
places_had (Some hand) = places_of_hand hand

-- each hand has the places that it had
pub record SamePlaces (before after : List CrewMember) : Type 0 where
  pub long : length after ≡ length before
  pub each : (i : ℕ) (d : CrewMember) → i < length before → places_had (slice_index_or after i d).hand ≡ places_had (slice_index_or before i d).hand

-- each has the list of places that it had
pub record SameLists (before after : List CrewMember) : Type 0 where
  pub long : length after ≡ length before
  pub each : (i : ℕ) (d : CrewMember) → i < length before → (slice_index_or after i d).places.items ≡ (slice_index_or before i d).places.items

-- each worker has the pass that it had
pub record SamePasses (before after : List CrewMember) : Type 0 where
  pub long : length after ≡ length before
  pub each : (i : ℕ) (d : CrewMember) → i < length before → (slice_index_or after i d).pass ≡ (slice_index_or before i d).pass

-- each place of the plan is the lead's, or that of a worker's hand
pub record Covers (plan : Plan) (lead : Lead) (crew : List CrewMember) : Type 0 where
  pub each : (p : PlaceId) → IsPlace plan p
      → IsTrue (has (places_of_lead lead) p) ⊎ ((w : CrewMember) × Has crew w × IsTrue (has (places_had w.hand) p))

-- ---- a crew that serves

-- what the threads share is of one plan
abbrev pub HasOnePlan : Shared → Type 0
HasOnePlan shared = (shared.plan.now ≡ plan_of shared.board) × (plan_of_lanes shared.lanes ≡ shared.plan.now)

-- there are workers, each with a hand that does nothing and a pass
abbrev pub MayServe : Shared → List CrewMember → Type 0
MayServe shared crew = HasOnePlan shared × (0 < length crew) × All (IsFreeMember shared.board) crew × All (HasPass shared.lanes) crew

-- each has a hand that does nothing, with the places that it had
abbrev pub HaveServed : Shared → List CrewMember → List CrewMember → Type 0
HaveServed shared before after = All (IsFreeMember shared.board) after × SamePlaces before after × SameLists before after

-- ---- the crew of a run

-- there is at least one worker; there are no more than these threads, and no more than the places of the plan, if it has any; and the places
-- are dealt among them
pub record IsCrewFor (plan : Plan) (threads : ℕ) (crew : List CrewMember) : Type 0 where
  pub some : 0 < length crew
  pub few : length crew ≤ threads
  pub spare : 0 < count_of_places plan → length crew ≤ count_of_places plan
  pub dealt : (i : ℕ) (d : CrewMember) → i < length crew → AreDealt plan (length crew) i (slice_index_or crew i d).places.items
