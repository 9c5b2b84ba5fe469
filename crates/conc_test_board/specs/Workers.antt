-- Workers before they begin and after they end: their plan, hands and passes.
use Rattle.std.specs.Prelude.{◌≡◌, Option, None, Some}
use Rattle.conc_types.specs.declared.event.PlaceId.{PlaceId}
use Rattle.conc_types.specs.declared.plan.Plan.{Plan}
use Rattle.conc_board.specs.declared.board.Board.{Board}
use Rattle.conc_board.specs.declared.hand.Hand.{Hand}
use Rattle.conc_board.specs.Seats.{plan_of}
use Rattle.conc_pool_lanes.specs.declared.lanes.Lanes.{Lanes}
use Rattle.conc_pool_lanes.specs.Lanes as lanes_spec
use Rattle.conc_pool_lanes.specs.Lanes.{IsHandPassOf}
use Rattle.conc_test_board.specs.declared.crew.Three.{Three}
use Rattle.conc_test_board.specs.declared.crew.Worker.{Worker}
use Rattle.conc_test_board.specs.Rounds.{IsFree}

-- the board and the lanes are of this plan
pub record AreOfPlan (plan : Plan) (board : Board) (lanes : Lanes) : Type 0 where
  pub of_board : plan ≡ plan_of board
  pub of_lanes : lanes_spec.plan_of lanes ≡ plan

-- there is a hand, and it is free at the place
abbrev pub IsFreeAt : Board → PlaceId → Option Hand → Type 0
IsFreeAt board place None = ⊥
IsFreeAt board place (Some hand) = IsFree board place hand

-- the worker's hand is so, and its pass takes from these lanes
pub record IsReady (board : Board) (lanes : Lanes) (place : PlaceId) (w : Worker) : Type 0 where
  pub free : IsFreeAt board place w.hand
  pub pass : IsHandPassOf lanes w.pass

-- each of the three is so at a place of its own
pub record AreReady (board : Board) (lanes : Lanes) (workers : Three) : Type 0 where
  pub first : IsReady board lanes (record { index = 0 }) workers.first
  pub second : IsReady board lanes (record { index = 1 }) workers.second
  pub third : IsReady board lanes (record { index = 2 }) workers.third
