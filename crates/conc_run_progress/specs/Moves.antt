-- What each move leaves of the list and of the board: the steps of a seat by which it is made.
use Rattle.std.specs.Prelude.{◌≡◌, ◌∷◌, ◌++◌, [], ℕ, List, Option, slice_index}
use mathlib.Core.Logic.{inl, inr}
use mathlib.Core.Option.{none, some}
use lib.ListN.{get_elem?}
use Rattle.atomic_table.specs.Table.{Act, Me, Step, carried_after, step, stepped}
use Rattle.conc_types.specs.declared.event.Event.{Event}
use Rattle.conc_types.specs.declared.event.Event.TheVariants as event
use Rattle.conc_types.specs.declared.event.PlaceId.{PlaceId}
use Rattle.conc_types.specs.declared.event.RequestId.{RequestId}
use Rattle.conc_types.specs.declared.plan.Plan.{Plan}
use Rattle.conc_types.specs.declared.script.Reading.{Reading}
use Rattle.conc_board.specs.declared.lead.Lead.{Lead}
use Rattle.conc_pool_seats.specs.Rule.{BoardState}
use Rattle.conc_pool_seats.specs.Steps.{Slot, StepLeaves, back_leaves, claim_leaves, clear_leaves, got_leaves, let_out_leaves, look_leaves, poll_leaves, post_leaves, stop_leaves, switch_leaves}
use Rattle.conc_pool_seats.specs.Words.{claimed, count_of_requests, done, ended, idle, place_word, released, request_word, running, stopping}
use Rattle.conc_pool_seats.specs.declared.views.View.{View}
use Rattle.conc_run_progress.specs.Boards.{word_of}
use Rattle.conc_run_progress.specs.HandMoves.{HandMove, claims, polls, posts}
use Rattle.conc_run_progress.specs.LeadMoves.{CanCollect, CanLetOut, CanOpen, CanSee, HasAnswer, LeadMove, answers, collects, lets_out, opens, sees}

-- ---- one step

-- The seat with this number makes a step, from its view and the slots that it has. The word of the step holds the value then, and the seat is left as a step of this
-- kind leaves it.
abbrev pub MakesStep : BoardState → ℕ → Me Slot View → Step Slot → ℕ → StepLeaves → BoardState → Type 0
MakesStep s seat me st value leaves next =
    (view : View) × (act : Act Slot)
    × leaves st me (slice_index s.words st.word) (view, carried_after me.1 act)
    × (next ≡ stepped s st.word value seat me.1 view act)

-- a step on this word, with one number
abbrev pub on_word : Plan → ℕ → ℕ → Step Slot
on_word plan word first = step (count_of_requests plan) word first 0 none

-- the lead makes such a step
abbrev pub LeadSteps : Plan → Lead → BoardState → ℕ → ℕ → ℕ → StepLeaves → BoardState → Type 0
LeadSteps plan lead s word first value leaves next = MakesStep s lead.seat.id lead.seat.me (on_word plan word first) value leaves next

-- ---- what a move of the lead leaves

abbrev pub OpensTo : (plan : Plan) (list : List Event) (lead : Lead) (s : BoardState) → CanOpen plan list s → BoardState → Type 0
OpensTo plan list lead s can next = LeadSteps plan lead s (place_word plan can.place) 1 1 switch_leaves next

abbrev pub LetsOutTo : (plan : Plan) (list : List Event) (lead : Lead) (s : BoardState) → CanLetOut plan list lead s → BoardState → Type 0
LetsOutTo plan list lead s can next = LeadSteps plan lead s (request_word can.request) released released let_out_leaves next

-- a look leaves the word as it is
abbrev pub SeesTo : (plan : Plan) (lead : Lead) (s : BoardState) → CanSee plan lead s → BoardState → Type 0
SeesTo plan lead s can next = LeadSteps plan lead s (request_word can.request) 0 (word_of s can.request) look_leaves next

-- the request is withdrawn
abbrev pub WithdrawsTo : Plan → Lead → BoardState → RequestId → BoardState → Type 0
WithdrawsTo plan lead s r next = LeadSteps plan lead s (request_word r) idle idle back_leaves next

-- Where the start may come next it is logged, and whatever the board is then. Else the request is withdrawn.
abbrev pub AnswersTo : (plan : Plan) (readings : List Reading) (list : List Event) (kept : Option Event) (lead : Lead) (s : BoardState) (r : RequestId) (p : PlaceId)
    → HasAnswer plan readings list kept r p → List Event → BoardState → Type 0
AnswersTo plan readings list kept lead s r p (inl start) list' next = list' ≡ list ++ event.Started r p ∷ []
AnswersTo plan readings list kept lead s r p (inr unusable) list' next = (list' ≡ list) × WithdrawsTo plan lead s r next

-- The lead gets the slot, which is the first of the two steps of a collect.
abbrev pub GetsTo : (plan : Plan) (list : List Event) (kept : Option Event) (lead : Lead) (s : BoardState) → CanCollect plan list kept lead s → BoardState → Type 0
GetsTo plan list kept lead s can next = LeadSteps plan lead s (request_word can.request) 0 (word_of s can.request) got_leaves next

-- By the second it writes that the request is done. It has the slot then, and is in the middle of a call.
abbrev pub WritesDone : Plan → BoardState → ℕ → Me Slot View → RequestId → BoardState → Type 0
WritesDone plan s seat me r next = MakesStep s seat me (on_word plan (request_word r) done) done clear_leaves next

-- by the move that the lead makes: the list and the board
abbrev pub LeadLeaves : (plan : Plan) (readings : List Reading) (list : List Event) (kept : Option Event) (lead : Lead) (s : BoardState)
    → LeadMove plan readings list kept lead s → List Event → BoardState → Type 0
LeadLeaves plan readings list kept lead s (opens can) list' next = (list' ≡ list) × OpensTo plan list lead s can next
LeadLeaves plan readings list kept lead s (lets_out can) list' next = (list' ≡ list) × LetsOutTo plan list lead s can next
LeadLeaves plan readings list kept lead s (sees can) list' next = (list' ≡ list) × SeesTo plan lead s can next
LeadLeaves plan readings list kept lead s (answers can) list' next = AnswersTo plan readings list kept lead s can.request can.place can.answer list' next
LeadLeaves plan readings list kept lead s (collects can) list' next = (list' ≡ list) × GetsTo plan list kept lead s can next

-- ---- what else the lead does, by what an event means for the board

-- it tells a request that runs at a place to stop, and closes a place
abbrev pub StopsTo : Plan → Lead → BoardState → RequestId → PlaceId → BoardState → Type 0
StopsTo plan lead s r p next =
    MakesStep s lead.seat.id lead.seat.me (step (count_of_requests plan) (request_word r) (running p) (stopping p) none) (stopping p) stop_leaves next

abbrev pub ClosesTo : Plan → Lead → BoardState → PlaceId → BoardState → Type 0
ClosesTo plan lead s p next = LeadSteps plan lead s (place_word plan p) 0 0 switch_leaves next

-- ---- what a move of a hand leaves: a board, with the same list

-- a hand makes a step, with the view and the slots that it has
abbrev pub HandSteps : BoardState → ℕ → Step Slot → ℕ → StepLeaves → BoardState → Type 0
HandSteps s hand st value leaves next = (me : Me Slot View) × (get_elem? s.views hand ≡ some me.0) × MakesStep s hand me st value leaves next

abbrev pub HandLeaves : (plan : Plan) (s : BoardState) (hand : ℕ) → HandMove plan s hand → BoardState → Type 0
HandLeaves plan s hand (claims can) next =
    HandSteps s hand (step (count_of_requests plan) (request_word can.request) released (claimed can.place) none) (claimed can.place) claim_leaves next
HandLeaves plan s hand (polls can) next = HandSteps s hand (on_word plan (request_word can.request) 0) (word_of s can.request) poll_leaves next
HandLeaves plan s hand (posts can) next = HandSteps s hand (on_word plan (request_word can.request) (ended can.place)) (ended can.place) post_leaves next
