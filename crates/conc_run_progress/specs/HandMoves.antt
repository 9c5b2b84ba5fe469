-- What a worker's hand can do on the board next. Each move names what the call that makes it asks for, on the words and slots as they are.
use Rattle.std.specs.Prelude.{◌≡◌, ◌≢◌, ℕ, Bool, slice_index, IsSome, IsTrue}
use mathlib.Core.Option.{none}
use Rattle.conc_types.specs.declared.event.PlaceId.{PlaceId}
use Rattle.conc_types.specs.declared.event.RequestId.{RequestId}
use Rattle.conc_types.specs.declared.plan.Plan.{Plan}
use Rattle.conc_board.specs.Admission.{admits_at}
use Rattle.conc_pool_seats.specs.Places.{has}
use Rattle.conc_pool_seats.specs.Reports.{report_for}
use Rattle.conc_pool_seats.specs.Rule.{BoardState, Runs, view_at}
use Rattle.conc_pool_seats.specs.Words.{IsPlace, IsRequest, claimed, end_word, place_word, released}
use Rattle.conc_pool_seats.specs.declared.views.Doing.TheVariants.{Idle, Waits, Serves}
use Rattle.conc_run_progress.specs.Boards.{IsHandIn, doing_in, slot_of, word_of}

-- It does nothing, is not told that there is no more to come, and claims a request that is let out, at an open place of its own whose
-- manager admits the request.
pub record CanClaim (plan : Plan) (s : BoardState) (hand : ℕ) : Type 0 where
  pub idle : doing_in s hand ≡ Idle
  pub not_told : slice_index s.words (end_word plan) ≡ 0
  pub place : PlaceId
  pub place_of_plan : IsPlace plan place
  pub own : IsTrue (has (view_at s.views hand).places place)
  pub open_there : slice_index s.words (place_word plan place) ≡ 1
  pub request : RequestId
  pub request_of_plan : IsRequest plan request
  pub admitted : IsTrue (admits_at plan place request)
  pub word : word_of s request ≡ released

-- it waits for a request, and learns what became of its claim, since the word is no claim of its place any more
pub record CanPoll (s : BoardState) (hand : ℕ) : Type 0 where
  pub request : RequestId
  pub place : PlaceId
  pub waits : doing_in s hand ≡ Waits request place
  pub answered : word_of s request ≢ claimed place

-- it serves a request, has its slot, and leaves what came of it; there is a report to make
pub record CanPost (plan : Plan) (s : BoardState) (hand : ℕ) : Type 0 where
  pub request : RequestId
  pub place : PlaceId
  pub stop : Bool
  pub serves : doing_in s hand ≡ Serves request place stop
  pub runs : Runs stop place (word_of s request)
  pub slot : slot_of s request ≡ none
  pub report : IsSome (report_for plan request)

-- one of these moves
pub data HandMove (plan : Plan) (s : BoardState) (hand : ℕ) : Type 0 where
  claims : CanClaim plan s hand → HandMove plan s hand
  polls : CanPoll s hand → HandMove plan s hand
  posts : CanPost plan s hand → HandMove plan s hand

-- some worker's hand can make such a move
abbrev pub HandCan : Plan → BoardState → Type 0
HandCan plan s = (hand : ℕ) × IsHandIn s hand × HandMove plan s hand
