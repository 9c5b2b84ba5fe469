-- What the lead can do on the board next. Each move names what the call that makes it asks for, on the words and slots as they are.
use Rattle.std.specs.Prelude.{◌≡◌, ◌⊎◌, ◌∷◌, ◌++◌, [], ℕ, Bool, List, Option, None, slice_index, reverse, IsFalse, IsTrue}
use Rattle.conc_types.specs.declared.event.Event.{Event}
use Rattle.conc_types.specs.declared.event.Event.TheVariants as event
use Rattle.conc_types.specs.declared.event.PlaceId.{PlaceId}
use Rattle.conc_types.specs.declared.event.RequestId.{RequestId}
use Rattle.conc_types.specs.declared.plan.Plan.{Plan}
use Rattle.conc_types.specs.declared.script.Reading.{Reading}
use Rattle.conc_base_law.specs.Law.{Lawful}
use Rattle.conc_base_law.specs.Next.{forced}
use Rattle.conc_base_law.specs.State.{state}
use Rattle.conc_board.specs.Seats.{lead_state_of}
use Rattle.conc_board.specs.declared.lead.Lead.{Lead}
use Rattle.conc_pool_seats.specs.LeadStates.{IsLetOrGone}
use Rattle.conc_pool_seats.specs.Rule.{BoardState, HasLeft, exclude}
use Rattle.conc_pool_seats.specs.Words.{IsPlace, IsRequest, claimed, ended, idle, place_word}
use Rattle.conc_pool_seats.specs.declared.views.Doing.TheVariants.{Waits}
use Rattle.conc_pool_seats.specs.declared.views.LeadState.TheVariants.{NotLet, Let, Seen, Gone}
use Rattle.conc_run_desk.specs.Desks.{IsLetAfter}
use Rattle.conc_run_desk.specs.Logging.{IsItsTurn}
use Rattle.conc_run_desk.specs.Seated.{IsSeated}
use Rattle.conc_run_progress.specs.Boards.{doing_in, is_usable_after, slot_of, word_of}

-- it opens a place that may be used at the last reading, and is closed
pub record CanOpen (plan : Plan) (list : List Event) (s : BoardState) : Type 0 where
  pub place : PlaceId
  pub of_plan : IsPlace plan place
  pub usable : IsTrue (is_usable_after plan (reverse list) place)
  pub closed : slice_index s.words (place_word plan place) ≡ 0

-- it lets out a request that is let in the list and does not run: one that is not on the board, and excludes none that is
pub record CanLetOut (plan : Plan) (list : List Event) (lead : Lead) (s : BoardState) : Type 0 where
  pub request : RequestId
  pub of_plan : IsRequest plan request
  pub let_in : IsLetAfter plan (reverse list) request
  pub lead_state : lead_state_of lead request ≡ NotLet
  pub apart : (q : RequestId) → IsLetOrGone (lead_state_of lead q) → IsFalse (exclude plan request q)
  pub word : word_of s request ≡ idle

-- it sees that a request which it let out is claimed
pub record CanSee (plan : Plan) (lead : Lead) (s : BoardState) : Type 0 where
  pub request : RequestId
  pub place : PlaceId
  pub of_plan : IsRequest plan request
  pub lead_state : lead_state_of lead request ≡ Let
  pub word : word_of s request ≡ claimed place

-- What it has to answer to a claim that it saw: the go, where the start may come next, or that the request is withdrawn, where the place may not be used.
abbrev pub HasAnswer : Plan → List Reading → List Event → Option Event → RequestId → PlaceId → Type 0
HasAnswer plan readings list kept r p =
    (Lawful plan readings (list ++ event.Started r p ∷ []) × IsItsTurn kept (event.Started r p))
    ⊎ IsFalse (is_usable_after plan (reverse list) p)

-- it answers a claim that it saw, to a hand that waits for it
pub record CanAnswer (plan : Plan) (readings : List Reading) (list : List Event) (kept : Option Event) (lead : Lead) (s : BoardState) : Type 0 where
  pub request : RequestId
  pub place : PlaceId
  pub hand : ℕ
  pub of_plan : IsRequest plan request
  pub lead_state : lead_state_of lead request ≡ Seen place
  pub word : word_of s request ≡ claimed place
  pub waits : doing_in s hand ≡ Waits request place
  pub answer : HasAnswer plan readings list kept request place

-- It takes what was left for a request that has the go. Nothing is forced, and no end is kept.
pub record CanCollect (plan : Plan) (list : List Event) (kept : Option Event) (lead : Lead) (s : BoardState) : Type 0 where
  pub request : RequestId
  pub place : PlaceId
  pub marked : Bool
  pub of_plan : IsRequest plan request
  pub lead_state : lead_state_of lead request ≡ Gone place marked
  pub word : word_of s request ≡ ended place
  pub left : HasLeft plan request marked (slot_of s request)
  pub nothing_forced : forced plan (state plan (reverse list)) ≡ None
  pub nothing_kept : kept ≡ None

-- one of these moves
pub data LeadMove (plan : Plan) (readings : List Reading) (list : List Event) (kept : Option Event) (lead : Lead) (s : BoardState) : Type 0 where
  opens : CanOpen plan list s → LeadMove plan readings list kept lead s
  lets_out : CanLetOut plan list lead s → LeadMove plan readings list kept lead s
  sees : CanSee plan lead s → LeadMove plan readings list kept lead s
  answers : CanAnswer plan readings list kept lead s → LeadMove plan readings list kept lead s
  collects : CanCollect plan list kept lead s → LeadMove plan readings list kept lead s

-- the lead is in the middle of no call, and can make such a move
abbrev pub LeadCan : Plan → List Reading → List Event → Option Event → Lead → BoardState → Type 0
LeadCan plan readings list kept lead s = IsSeated plan lead × LeadMove plan readings list kept lead s
