-- Laws on the lanes of a plan.
use Rattle.std.specs.Prelude.{◌≡◌, ◌<◌, ℕ, List, [], ◌∷◌, ◌++◌, Option, IsFalse, IsTrue, drop}
use Rattle.conc_types.specs.declared.event.Event.{Event}
use Rattle.conc_types.specs.declared.event.RequestId.{RequestId}
use Rattle.conc_types.specs.declared.plan.Plan.{Plan}
use Rattle.conc_types.specs.declared.plan.Req.{Req}
use Rattle.conc_types.specs.Plans.{request}
use Rattle.conc_base_law.specs.Before.{occurs}
use Rattle.conc_base_law.specs.Kinds.{is_resume}
use Rattle.conc_base_law.specs.Law.{LawfulSoFar}
use Rattle.conc_pool_lanes.specs.Rule.{IsInOrder}
use Rattle.conc_pool_lanes.specs.Lanes.{TakesInOrder, are_shorter, joined_by}
use Rattle.conc_pool_lanes.specs.Puts.{lists_for, puts}
use Rattle.conc_pool_lanes.specs.Rooms.{room_for}
use Rattle.conc_pool_lanes.specs.declared.rule.Log.{Log}

-- of the requests that were put into a lane some were taken, in order and each by one pass; the lane holds the others
abbrev pub LanesAreInOrder : Type 0
LanesAreInOrder = (items : List RequestId) (views : List Log) → IsInOrder items views → TakesInOrder items views

-- the list of each manager grows by one request at most where a request is put
abbrev pub ListsGrowByOne : Type 0
ListsGrowByOne =
    (n m : ℕ) (plan : Plan) (r : Option Req) (lists : List (List RequestId)) → n < m
    → IsTrue (are_shorter n lists) → IsTrue (are_shorter m (joined_by plan r lists))

-- what a run puts is fewer than a lane has room for, at each lawful list that has no resume since the run began
abbrev pub LanesHaveRoom : Type 0
LanesHaveRoom =
    (plan : Plan) (begun : ℕ) (list : List Event) → LawfulSoFar plan list → IsFalse (occurs is_resume (drop begun list))
    → IsTrue (are_shorter (room_for plan) (lists_for plan (puts plan begun list)))

-- one more request joins the list of each manager that admits it
abbrev pub ListsTakeOneMore : Type 0
ListsTakeOneMore =
    (plan : Plan) (requests : List RequestId) (r : RequestId)
    → lists_for plan (requests ++ r ∷ []) ≡ joined_by plan (request plan r) (lists_for plan requests)
