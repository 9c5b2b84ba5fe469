-- Which requests a place serves.
use Rattle.std.specs.Prelude.{Bool, IsTrue}
use Rattle.conc_types.specs.declared.event.PlaceId.{PlaceId}
use Rattle.conc_types.specs.declared.event.RequestId.{RequestId}
use Rattle.conc_types.specs.declared.manager.Manager.{Manager}
use Rattle.conc_types.specs.declared.plan.Plan.{Plan}
use Rattle.conc_types.specs.Plans.{request}
use Rattle.conc_types.specs.Words.{some_and}
use Rattle.conc_base_law.specs.Managers.{admits}
use Rattle.conc_pool_seats.specs.declared.views.Doing.{Doing}
use Rattle.conc_pool_seats.specs.declared.views.Doing.TheVariants.{Idle, Waits, Serves}
use Rattle.conc_board.specs.Owners.{manager_at}

-- the manager admits the request with this number
abbrev pub admits_request : Plan → RequestId → Manager → Bool
admits_request plan r manager = some_and (admits manager) (request plan r)

-- the manager of the place admits the request
abbrev pub admits_at : Plan → PlaceId → RequestId → Bool
admits_at plan place r = some_and (admits_request plan r) (manager_at plan place)

-- what a hand does is for a request that the manager of the place admits
abbrev pub IsAdmitted : Plan → Doing → Type 0
IsAdmitted plan Idle = Unit {0}
IsAdmitted plan (Waits r p) = IsTrue (admits_at plan p r)
IsAdmitted plan (Serves r p stop) = IsTrue (admits_at plan p r)
