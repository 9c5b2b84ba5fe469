-- The rule of the board, point by point: what holds of every state that it allows, and of every step.
use Rattle.std.specs.Prelude.{◌≡◌, ◌≢◌, ◌⊎◌, ℕ, ◌<◌, ◌≤◌, Bool, true, false, List, [], ◌∷◌, ◌++◌, slice_index, None, Some, IsTrue}
use mathlib.Core.Option.{none, some}
use Rattle.atomic_table.specs.Table.{Me, Step}
use Rattle.conc_types.specs.declared.event.PlaceId.{PlaceId}
use Rattle.conc_types.specs.declared.event.RequestId.{RequestId}
use Rattle.conc_types.specs.declared.plan.Plan.{Plan}
use Rattle.conc_pool_seats.specs.declared.posted.Posted.{Posted}
use Rattle.conc_pool_seats.specs.declared.views.Doing.TheVariants.{Idle, Waits, Serves}
use Rattle.conc_pool_seats.specs.declared.views.LeadState.{LeadState}
use Rattle.conc_pool_seats.specs.declared.views.LeadState.TheVariants.{Gone, Got}
use Rattle.conc_pool_seats.specs.declared.views.View.{View}
use Rattle.conc_pool_seats.specs.Places.{has}
use Rattle.conc_pool_seats.specs.Rule.{AreApart, BoardState, HasLeft, IsAtOwn, Runs, home_at, nobody, first_view, view_at}
use Rattle.conc_pool_seats.specs.LeadStates.{WordFits, is_marked, lead_state_at}
use Rattle.conc_pool_seats.specs.Steps.{Slot, StepLeaves, back_leaves, claim_leaves, clear_leaves, given, go_leaves, got_leaves, joined, let_out_leaves, look_leaves, poll_leaves, post_leaves, see_switch_leaves, stop_leaves, switch_leaves, warn_leaves, with_places_off}
use Rattle.conc_pool_seats.specs.Words.{IsRequest, claimed, count_of_requests, ended, request_of, request_word, running, stopping}

-- ---- states

abbrev pub Leads : BoardState → ℕ → Type 0
Leads s j = (view_at s.views j).leads ≡ true

-- the lead state that the seat with this number knows
abbrev pub lead_state_by : BoardState → ℕ → ℕ → LeadState
lead_state_by s lead i = lead_state_at (view_at s.views lead).lead_states i

-- the place is one of the seat's
abbrev pub Owns : BoardState → ℕ → PlaceId → Type 0
Owns s j p = IsTrue (has (view_at s.views j).places p)

-- one seat leads, and of the requests that are live in its view no two exclude each other
pub record LeadStatesExclude (plan : Plan) (s : BoardState) : Type 0 where
  pub some_lead : (lead : ℕ) × Leads s lead
  pub one_lead : (lead other : ℕ) → Leads s lead → Leads s other → lead ≡ other
  pub apart : (lead : ℕ) → Leads s lead → AreApart plan (view_at s.views lead).lead_states

-- the word of each request fits its lead state
pub record WordsFitLeadStates (plan : Plan) (s : BoardState) : Type 0 where
  pub each : (lead i : ℕ) → Leads s lead → i < count_of_requests plan
      → WordFits (lead_state_by s lead i) (slice_index s.words i)

-- a place belongs to one seat, and what a hand does is at a place of its own
pub record PlacesHaveOneOwner (s : BoardState) : Type 0 where
  pub one_owner : (j k : ℕ) (p : PlaceId) → Owns s j p → Owns s k p → j ≡ k
  pub at_own : (j : ℕ) → IsAtOwn (view_at s.views j).places (view_at s.views j).doing
  pub left : (nobody.places ≡ []) × (nobody.doing ≡ Idle)

-- where a word is Claimed by a place, its owner waits; where it is Running or Stopping at one, its owner
-- waits or has the permit
pub record ClaimsAreWaitedFor (plan : Plan) (s : BoardState) : Type 0 where
  pub claimed : (i : ℕ) (p : PlaceId) → i < count_of_requests plan → p.index < 64 → slice_index s.words i ≡ claimed p →
      (j : ℕ) × Owns s j p × ((view_at s.views j).doing ≡ Waits (request_of i) p)
  pub running : (i : ℕ) (p : PlaceId) → i < count_of_requests plan → p.index < 64 → Runs false p (slice_index s.words i) →
      (j : ℕ) × Owns s j p × (((view_at s.views j).doing ≡ Waits (request_of i) p) ⊎ ((stop : Bool) × ((view_at s.views j).doing ≡ Serves (request_of i) p stop)))

-- where a seat has a permit, the word is Running or Stopping at its place, with the stop sign Stopping
pub record PermitsRun (plan : Plan) (s : BoardState) : Type 0 where
  pub each : (j : ℕ) (r : RequestId) (p : PlaceId) (stop : Bool) → (view_at s.views j).doing ≡ Serves r p stop →
      IsRequest plan r × Runs stop p (slice_index s.words (request_word r))

-- a slot is out with the hand that has the permit, or with the lead that got what was left; where a
-- request ended and has the go, what may be left for it is at home; else the slot is at home and empty
pub record SlotsAreWhereTheyBelong (plan : Plan) (s : BoardState) : Type 0 where
  pub with_hand : (j : ℕ) (r : RequestId) (p : PlaceId) (stop : Bool) → (view_at s.views j).doing ≡ Serves r p stop →
      home_at s.homes (request_word r) ≡ none
  pub with_lead : (lead i : ℕ) (p : PlaceId) (marked : Bool) → Leads s lead → i < count_of_requests plan →
      lead_state_by s lead i ≡ Got p marked → home_at s.homes i ≡ none
  pub left : (lead i : ℕ) (p : PlaceId) (marked : Bool) → Leads s lead → i < count_of_requests plan →
      lead_state_by s lead i ≡ Gone p marked → slice_index s.words i ≡ ended p
      → HasLeft plan (request_of i) marked (home_at s.homes i)
  pub empty : (lead i : ℕ) → Leads s lead → i < count_of_requests plan →
      ((j : ℕ) (p : PlaceId) (stop : Bool) → (view_at s.views j).doing ≢ Serves (request_of i) p stop) →
      ((p : PlaceId) (marked : Bool) → lead_state_by s lead i ≢ Got p marked) →
      ((p : PlaceId) (marked : Bool) → lead_state_by s lead i ≡ Gone p marked → slice_index s.words i ≢ ended p) →
      home_at s.homes i ≡ some None

-- the words of places and of the end are 0 or 1
pub record FlagsAreBits (plan : Plan) (s : BoardState) : Type 0 where
  pub each : (i : ℕ) → count_of_requests plan ≤ i → slice_index s.words i ≤ 1

-- the lead knows them: each is what it last wrote there
pub record FlagsAreKnown (plan : Plan) (s : BoardState) : Type 0 where
  pub each : (lead i : ℕ) → Leads s lead → count_of_requests plan ≤ i → slice_index s.words i ≡ slice_index (view_at s.views lead).switches i

-- no request whose word is Running is marked, and each whose word is Stopping is
pub record MarksStop (plan : Plan) (s : BoardState) : Type 0 where
  pub running : (lead i : ℕ) (p : PlaceId) → Leads s lead → i < count_of_requests plan → p.index < 64 →
      slice_index s.words i ≡ running p → is_marked (lead_state_by s lead i) ≡ false
  pub stopping : (lead i : ℕ) (p : PlaceId) → Leads s lead → i < count_of_requests plan → p.index < 64 →
      slice_index s.words i ≡ stopping p → is_marked (lead_state_by s lead i) ≡ true

pub record Points (plan : Plan) (s : BoardState) : Type 0 where
  pub lead_states : LeadStatesExclude plan s
  pub words : WordsFitLeadStates plan s
  pub places : PlacesHaveOneOwner s
  pub claims : ClaimsAreWaitedFor plan s
  pub permits : PermitsRun plan s
  pub slots : SlotsAreWhereTheyBelong plan s
  pub flags : FlagsAreBits plan s
  pub known : FlagsAreKnown plan s
  pub marks : MarksStop plan s

-- ---- steps

-- the step adds to what its seat found the number of the word and what stood there, and nothing else
abbrev pub Records : StepLeaves → Type 0
Records leaves =
    (st : Step Slot) (before : Me Slot View) (n : ℕ) (after : Me Slot View) → leaves st before n after
    → after.0.found ≡ before.0.found ++ (st.word, n) ∷ []

-- each kind of step does; and what is found is empty at first, in a new hand and in the view that is left
-- when a hand is taken in, and neither a split nor a join changes what the lead found
pub record StepsAreRecorded : Type 0 where
  pub let_out : Records let_out_leaves
  pub look : Records look_leaves
  pub go : Records go_leaves
  pub back : Records back_leaves
  pub stop : Records stop_leaves
  pub get : Records got_leaves
  pub clear : Records clear_leaves
  pub switch : Records switch_leaves
  pub see_switch : Records see_switch_leaves
  pub claim : Records claim_leaves
  pub poll : Records poll_leaves
  pub see_stop : Records warn_leaves
  pub post : Records post_leaves
  pub first : (plan : Plan) → (first_view plan).found ≡ []
  pub new_hand : (ps : List PlaceId) (v : View) → (given ps v).found ≡ []
  pub split : (ps : List PlaceId) (v : View) → (with_places_off ps v).found ≡ v.found
  pub join : (v w : View) → (joined v w).found ≡ v.found
  pub left : nobody.found ≡ []

-- the step leaves what its seat took and left as it was
abbrev pub KeepsPosts : StepLeaves → Type 0
KeepsPosts leaves = (st : Step Slot) (before : Me Slot View) (n : ℕ) (after : Me Slot View) → leaves st before n after → after.0.posts ≡ before.0.posts

-- Two kinds of step add to it: the lead's load that takes a slot, what was in the slot; a hand's post, what it leaves
-- there. No other kind does.
pub record PostsAreRecorded : Type 0 where
  pub get : (st : Step Slot) (before : Me Slot View) (n : ℕ) (after : Me Slot View) → got_leaves st before n after
      → (after.0.posts ≡ before.0.posts)
      ⊎ ((x : Posted) × (after.1 ≡ (st.word, Some x) ∷ before.1) × (after.0.posts ≡ before.0.posts ++ (st.word, x) ∷ []))
  pub post : (st : Step Slot) (before : Me Slot View) (n : ℕ) (after : Me Slot View) (x : Posted) (slots : List (ℕ × Slot)) → post_leaves st before n after
      → before.1 ≡ (st.word, Some x) ∷ slots → after.0.posts ≡ before.0.posts ++ (st.word, x) ∷ []
  pub let_out : KeepsPosts let_out_leaves
  pub look : KeepsPosts look_leaves
  pub go : KeepsPosts go_leaves
  pub back : KeepsPosts back_leaves
  pub stop : KeepsPosts stop_leaves
  pub clear : KeepsPosts clear_leaves
  pub switch : KeepsPosts switch_leaves
  pub see_switch : KeepsPosts see_switch_leaves
  pub claim : KeepsPosts claim_leaves
  pub poll : KeepsPosts poll_leaves
  pub see_stop : KeepsPosts warn_leaves
  pub first : (plan : Plan) → (first_view plan).posts ≡ []
  pub new_hand : (ps : List PlaceId) (v : View) → (given ps v).posts ≡ []
  pub split : (ps : List PlaceId) (v : View) → (with_places_off ps v).posts ≡ v.posts
  pub join : (v w : View) → (joined v w).posts ≡ v.posts
  pub left : nobody.posts ≡ []

-- ---- what was found, taken and left is not read

abbrev pub without_finds : View → View
without_finds v = record v { found = []; posts = [] }

-- the views of the second list are those of the first, but for what was found, taken and left
abbrev pub DifferInFinds : List View → List View → Type 0
DifferInFinds views others = (j : ℕ) → without_finds (view_at others j) ≡ without_finds (view_at views j)
