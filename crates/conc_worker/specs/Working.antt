-- What a worker's hand does from one call to the next.
use Rattle.std.specs.Prelude.{◌≡◌, ℕ, ◌≤◌, List, [], ◌∷◌, ◌++◌, length, Option, None, Some}
use Rattle.conc_pool_seats.specs.declared.views.Doing.TheVariants.{Idle}
use Rattle.conc_pool_seats.specs.Places.{AreAmong}
use Rattle.conc_pool_seats.specs.Words.{end_word}
use Rattle.conc_pool_lanes.specs.Lanes.{IsHandPassOf}
use Rattle.conc_pool_lanes.specs.declared.lanes.HandPass.{HandPass}
use Rattle.conc_board.specs.declared.board.Board.{Board}
use Rattle.conc_board.specs.declared.hand.Hand.{Hand}
use Rattle.conc_board.specs.Claims.{HasClaim}
use Rattle.conc_board.specs.Seats.{IsHandOf, Stays, doing_of, found_by_hand, places_of_hand, plan_of}
use Rattle.conc_worker.specs.declared.worker.Worker.{Worker}
use Rattle.conc_worker.specs.declared.worker.ToDo.{ToDo}
use Rattle.conc_worker.specs.declared.worker.ToDo.TheVariants as to_do

-- ---- steps

-- the hand made some steps: it is one of the board still, and has the places that it had
pub record MakesSteps (board : Board) (old new : Hand) : Type 0 where
  pub hand : Stays board old new
  pub steps : List (ℕ × ℕ)
  pub found : found_by_hand new ≡ found_by_hand old ++ steps

-- it made some steps, and does nothing
pub record ComesToRest (board : Board) (old new : Hand) : Type 0 where
  pub made : MakesSteps board old new
  pub idle : doing_of new ≡ Idle

-- it made some steps, the last of which found the word of the end set
pub record SawTheEnd (board : Board) (old new : Hand) : Type 0 where
  pub steps : List (ℕ × ℕ)
  pub found : found_by_hand new ≡ found_by_hand old ++ (steps ++ (end_word (plan_of board), 1) ∷ [])

-- so it did, and does nothing
pub record Ends (board : Board) (old new : Hand) : Type 0 where
  pub hand : Stays board old new
  pub idle : doing_of new ≡ Idle
  pub saw : SawTheEnd board old new

-- ---- what comes next

-- the hand is one of the board, does nothing and has the worker's places, and the pass takes from its lanes
pub record IsFree (worker : Worker) (hand : Hand) (pass : HandPass) : Type 0 where
  pub of_board : IsHandOf worker.board.now hand
  pub idle : doing_of hand ≡ Idle
  pub own : AreAmong worker.places.now (places_of_hand hand)
  pub takes : IsHandPassOf worker.lanes.now pass

-- what the hand finds to do: a claim that it made, with where its next round of the places begins, or the end
abbrev pub Finds : Worker → ToDo → Hand → Hand → Type 0
Finds worker (to_do.Serve claim first) old new =
    MakesSteps worker.board.now old new × HasClaim new claim × (first ≤ length worker.places.now)
Finds worker to_do.Finish old new = Ends worker.board.now old new

-- it finds something to do, or nothing
abbrev pub Looks : Worker → Option ToDo → Hand → Hand → Type 0
Looks worker (Some to_do) old new = Finds worker to_do old new
Looks worker None old new = ComesToRest worker.board.now old new
