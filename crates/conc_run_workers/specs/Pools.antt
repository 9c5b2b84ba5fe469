-- What a run leaves of its board and its workers.
use Rattle.std.specs.Prelude.{◌≡◌, All, List, Option, None, Some}
use Rattle.conc_types.specs.declared.event.Event.{Event}
use Rattle.conc_types.specs.declared.plan.Plan.{Plan}
use Rattle.conc_board.specs.Seats.{HasAllPlaces, IsLeadOf, plan_of}
use Rattle.conc_run_desk.specs.Desks.{HasOpenWhatIsUsable}
use Rattle.conc_run_state.specs.declared.work.Work.{Work}
use Rattle.conc_run_workers.specs.Crews.{IsTakenIn}
use Rattle.conc_run_workers.specs.Resolving.{IsDismissed}
use Rattle.conc_run_workers.specs.Runs.{LacksReport}
use Rattle.conc_run_workers.specs.declared.running.Pool.{Pool}

-- The pool was made for this plan. Nothing is let out on its board, the workers were told that there is no more to come, and each
-- came back: the lead has taken in its hand, and has all places.
pub record IsShutDown (plan : Plan) (pool : Pool) : Type 0 where
  pub made_for : plan_of pool.board ≡ plan
  pub lead : IsLeadOf pool.board pool.lead
  pub dismissed : IsDismissed pool.board pool.lead
  pub taken_in : All IsTakenIn pool.crew.items
  pub places : HasAllPlaces pool.board pool.lead

-- the places of its board are open that may be used at the last reading
abbrev pub HasOpened : Work → Pool → Type 0
HasOpened work pool = HasOpenWhatIsUsable pool.board pool.lead work

-- there is one, whose lead was handed that the report of a request found no memory, which runs after this list and need not stop
abbrev pub HasLackedReport : Plan → List Event → Option Pool → Type 0
HasLackedReport plan list None = ⊥
HasLackedReport plan list (Some pool) = LacksReport plan list pool.lead
