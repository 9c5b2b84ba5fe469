-- What a worker is between its calls.
use Rattle.std.specs.Prelude.{◌≡◌, All, IsTrue}
use Rattle.std.specs.Global.{Vec}
use Rattle.conc_pool_seats.specs.declared.views.Doing.TheVariants.{Idle}
use Rattle.conc_pool_seats.specs.Places.{has}
use Rattle.conc_pool_seats.specs.Words.{IsPlace}
use Rattle.conc_board.specs.declared.board.Board.{Board}
use Rattle.conc_board.specs.declared.hand.Hand.{Hand}
use Rattle.conc_board.specs.Claims.{HasClaim, HasPermit}
use Rattle.conc_board.specs.Seats.{IsHandOf, doing_of, places_of_hand, plan_of}
use Rattle.conc_test_bench_board.specs.declared.workers.Task.{Task}
use Rattle.conc_test_bench_board.specs.declared.workers.Task.TheVariants.{Free, Waits, Serves}
use Rattle.conc_test_bench_board.specs.declared.workers.Worker.{Worker}

-- the hand has what the task is about
abbrev pub IsAt : Hand → Task → Type 0
IsAt hand Free = doing_of hand ≡ Idle
IsAt hand (Waits claim) = HasClaim hand claim
IsAt hand (Serves permit) = HasPermit hand permit

-- the worker is one of the board, at a place of its own
pub record Fits (board : Board) (worker : Worker) : Type 0 where
  pub hand : IsHandOf board worker.hand
  pub of_plan : IsPlace (plan_of board) worker.place
  pub own : IsTrue (has (places_of_hand worker.hand) worker.place)
  pub task : IsAt worker.hand worker.task

-- so is each of these
abbrev pub CrewFits : Board → Vec Worker → Type 0
CrewFits board crew = All (Fits board) crew.items
