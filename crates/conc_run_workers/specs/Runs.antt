-- Why a run with workers ends before its history is finished.
use Rattle.std.specs.Prelude.{List, reverse, IsFalse, IsTrue}
use Rattle.conc_types.specs.declared.event.Event.{Event}
use Rattle.conc_types.specs.declared.plan.Plan.{Plan}
use Rattle.conc_types.specs.declared.plan.Req.{Req}
use Rattle.conc_base_law.specs.Facts.{facts_of}
use Rattle.conc_base_law.specs.State.{is_running, is_stopping}
use Rattle.conc_base_law.specs.Words.{Has}
use Rattle.conc_board.specs.Seats.{posts_of_lead}
use Rattle.conc_board.specs.declared.lead.Lead.{Lead}
use Rattle.conc_pool_seats.specs.Words.{request_word}
use Rattle.conc_pool_seats.specs.declared.posted.Posted.TheVariants.{NoMemory}

-- a request of the plan runs after this list, and need not stop: its report may find no memory
pub record AwaitsReport (plan : Plan) (list : List Event) : Type 0 where
  pub req : Req
  pub there : Has plan.requests req
  pub runs : IsTrue (is_running (facts_of plan (reverse list) req))
  pub goes_on : IsFalse (is_stopping (facts_of plan (reverse list) req))

-- it does, and the lead was handed that its report found none
pub record LacksReport (plan : Plan) (list : List Event) (lead : Lead) : Type 0 where
  pub awaits : AwaitsReport plan list
  pub handed : Has (posts_of_lead lead) (request_word awaits.req.number, NoMemory)
