-- The rule of the board, over the words, the slots at home and all views.
use Rattle.std.specs.Prelude.{◌≡◌, ◌≢◌, ◌⊎◌, ℕ, ◌<◌, ◌≤◌, Bool, true, false, List, [], length, replicate, slice_index, slice_index_or, Option, Some, None, IsTrue}
use mathlib.Core.Option as maybe
use mathlib.Core.Option.{none, some}
use Rattle.atomic_table.specs.Table.{State}
use Rattle.conc_types.specs.declared.event.PlaceId.{PlaceId}
use Rattle.conc_types.specs.declared.event.RequestId.{RequestId}
use Rattle.conc_types.specs.declared.plan.Plan.{Plan}
use Rattle.conc_types.specs.Plans.{request}
use Rattle.conc_types.specs.Words.{some_and}
use Rattle.conc_base_law.specs.Places.{count_of_places}
use Rattle.conc_base_law.specs.Plans.{are_exclusive}
use Rattle.conc_pool_seats.specs.declared.posted.Posted.{Posted}
use Rattle.conc_pool_seats.specs.declared.views.Doing.{Doing}
use Rattle.conc_pool_seats.specs.declared.views.Doing.TheVariants.{Idle, Waits, Serves}
use Rattle.conc_pool_seats.specs.declared.views.LeadState.{LeadState}
use Rattle.conc_pool_seats.specs.declared.views.LeadState.TheVariants.{NotLet, Let, Seen, Gone, Got, Done}
use Rattle.conc_pool_seats.specs.declared.views.View.{View}
use Rattle.conc_pool_seats.specs.Places.{has, below}
use Rattle.conc_pool_seats.specs.Reports.{MayLeave}
use Rattle.conc_pool_seats.specs.LeadStates.{IsLive, lead_state_at}
use Rattle.conc_pool_seats.specs.Words.{IsPlace, IsRequest, claimed, count_of_requests, count_of_words, done, ended, idle, released, request_of, request_word, run_word, running, stopping}

-- ---- views

-- the view that a seat leaves behind when it is taken in, and that of a number which no seat has
abbrev pub nobody : View
nobody = record { leads = false; plan = None; lead_states = []; switches = []; places = []; doing = Idle; found = []; posts = [] }

-- the lead's view of a new board
abbrev pub first_view : Plan → View
first_view plan = record {
  leads = true;
  plan = Some plan;
  lead_states = replicate (count_of_requests plan) NotLet;
  switches = replicate (count_of_words plan) 0;
  places = below (count_of_places plan);
  doing = Idle;
  found = [];
  posts = [];
}

-- the view of the seat with this number
abbrev pub view_at : List View → ℕ → View
view_at views j = slice_index_or views j nobody

-- what the owner of a place does
abbrev pub doing_at : List View → (PlaceId → ℕ) → PlaceId → Doing
doing_at views owner p = (view_at views (owner p)).doing

-- ---- exclusion

-- two requests of the plan never run at the same time
abbrev pub exclude : Plan → RequestId → RequestId → Bool
exclude plan r q =
    some_and (λ x. some_and (λ y. are_exclusive plan x y) (request plan q)) (request plan r)

-- of the requests that are live in the lead's view no two exclude each other
abbrev pub AreApart : Plan → List LeadState → Type 0
AreApart plan lead_states =
    (i j : ℕ) → i ≢ j → IsLive (lead_state_at lead_states i) → IsLive (lead_state_at lead_states j)
    → exclude plan (request_of i) (request_of j) ≡ false

-- ---- slots

-- what is at home in a slot: nothing where a seat has it
abbrev pub Home : Type 0
Home = maybe.Option (Option Posted)

abbrev pub home_at : List Home → ℕ → Home
home_at homes i = slice_index_or homes i none

-- something is at home that may be left for the request
abbrev pub HasLeft : Plan → RequestId → Bool → Home → Type 0
HasLeft plan r told home = (x : Posted) × (home ≡ some (Some x)) × MayLeave plan r told x

-- ---- one request

-- While it runs, the hand at its place waits still, and the slot is at home and empty; or the hand
-- serves it, and has the slot.
abbrev pub IsServed : Doing → RequestId → PlaceId → Home → Type 0
IsServed doing r p home =
    ((doing ≡ Waits r p) × (home ≡ some None))
    ⊎ ((stop : Bool) × (doing ≡ Serves r p stop) × (home ≡ none))

-- a place of the plan claims the request, and its hand waits
abbrev pub IsClaimed : Plan → (PlaceId → Doing) → RequestId → ℕ → Type 0
IsClaimed plan at r word = (p : PlaceId) × IsPlace plan p × (word ≡ claimed p) × (at p ≡ Waits r p)

module _ (plan : Plan) (at : PlaceId → Doing) (r : RequestId) where
  -- The lead state of a request, its word and its slot fit together; at p: what the owner of p does.
  abbrev pub Fits : LeadState → ℕ → Home → Type 0
  Fits NotLet word home = (word ≡ idle) × (home ≡ some None)
  Fits Let word home = ((word ≡ released) ⊎ IsClaimed plan at r word) × (home ≡ some None)
  Fits (Seen p) word home = IsPlace plan p × (word ≡ claimed p) × (at p ≡ Waits r p) × (home ≡ some None)
  Fits (Gone p marked) word home =
      IsPlace plan p
      × (((word ≡ run_word marked p) × IsServed (at p) r p home) ⊎ ((word ≡ ended p) × HasLeft plan r marked home))
  Fits (Got p marked) word home = IsPlace plan p × (word ≡ ended p) × (home ≡ none)
  Fits (Done marked) word home = (word ≡ done) × (home ≡ some None)

-- ---- one seat

-- the word of a request that is served at p, with the stop sign or without
abbrev pub Runs : Bool → PlaceId → ℕ → Type 0
Runs false p word = (word ≡ running p) ⊎ (word ≡ stopping p)
Runs true p word = word ≡ stopping p

-- What the seat j does is for a request of the plan at a place of its own, and what it serves runs.
abbrev pub Works : Plan → (PlaceId → ℕ) → List ℕ → ℕ → Doing → Type 0
Works plan owner words j Idle = Unit {0}
Works plan owner words j (Waits r p) = (owner p ≡ j) × IsRequest plan r × IsPlace plan p
Works plan owner words j (Serves r p stop) =
    (owner p ≡ j) × IsRequest plan r × IsPlace plan p × Runs stop p (slice_index words (request_word r))

-- the place at which a seat has something to do is one of its own
abbrev pub IsAtOwn : List PlaceId → Doing → Type 0
IsAtOwn places Idle = Unit {0}
IsAtOwn places (Waits r p) = IsTrue (has places p)
IsAtOwn places (Serves r p stop) = IsTrue (has places p)

-- ---- the rule

-- words, what is at home in the slots, and what each seat knows
abbrev pub BoardState : Type 0
BoardState = State (Option Posted) View

-- It holds between any two steps. `lead` is the number of the lead's seat, and `owner` gives the
-- number of the seat that owns a place.
pub record Keep (plan : Plan) (s : BoardState) : Type 0 where
  pub lead : ℕ
  pub owner : PlaceId → ℕ
  pub few_places : count_of_places plan ≤ 64
  pub all_words : length s.words ≡ count_of_words plan
  pub all_slots : length s.homes ≡ count_of_requests plan
  pub all_lead_states : length (view_at s.views lead).lead_states ≡ count_of_requests plan
  pub leads : (view_at s.views lead).leads ≡ true
  pub one_lead : (j : ℕ) → (view_at s.views j).leads ≡ true → j ≡ lead
  pub knows_plan : (view_at s.views lead).plan ≡ Some plan
  pub one_owner : (j : ℕ) (p : PlaceId) → has (view_at s.views j).places p ≡ true → owner p ≡ j
  pub at_own : (j : ℕ) → IsAtOwn (view_at s.views j).places (view_at s.views j).doing
  pub apart : AreApart plan (view_at s.views lead).lead_states
  pub each_request : (i : ℕ) → i < count_of_requests plan →
      Fits plan (doing_at s.views owner) (request_of i)
      (lead_state_at (view_at s.views lead).lead_states i) (slice_index s.words i) (home_at s.homes i)
  pub each_seat : (j : ℕ) → Works plan owner s.words j (view_at s.views j).doing
  pub all_switches : length (view_at s.views lead).switches ≡ count_of_words plan
  pub each_switch : (i : ℕ) → count_of_requests plan ≤ i → slice_index s.words i ≡ slice_index (view_at s.views lead).switches i
  pub switches : (i : ℕ) → count_of_requests plan ≤ i → slice_index s.words i ≤ 1
