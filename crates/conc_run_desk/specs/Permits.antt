-- A permit on the board is a run in the list: what the rule of the board and the desk's list say together.
use Rattle.std.specs.Prelude.{◌≡◌, ℕ, Bool, List, [], ◌∷◌, Option, Some, IsFalse, IsTrue}
use Rattle.conc_types.specs.declared.event.Event.{Event}
use Rattle.conc_types.specs.declared.event.PlaceId.{PlaceId}
use Rattle.conc_types.specs.declared.event.RequestId.{RequestId}
use Rattle.conc_types.specs.declared.plan.Plan.{Plan}
use Rattle.conc_types.specs.declared.plan.Req.{Req}
use Rattle.conc_types.specs.declared.script.Reading.{Reading}
use Rattle.conc_base_law.specs.Facts.{facts_of}
use Rattle.conc_base_law.specs.Kinds.{ends, is_resume}
use Rattle.conc_base_law.specs.Law.{may_follow}
use Rattle.conc_base_law.specs.Words.{Has}
use Rattle.conc_board.specs.Permits.{IsServing, SitsAt}
use Rattle.conc_board.specs.Seats.{lead_state_of}
use Rattle.conc_board.specs.declared.lead.Lead.{Lead}
use Rattle.conc_pool_seats.specs.LeadStates.{IsGone}
use Rattle.conc_pool_seats.specs.Rule.{BoardState, exclude}
use Rattle.conc_pool_seats.specs.declared.views.LeadState.TheVariants.{Gone}
use Rattle.conc_run_desk.specs.Ties.{LeadStatesGoWith, RunsAt}

-- the request runs at the place after these events, which are given with the latest first
pub record RunsInList (plan : Plan) (past : List Event) (r : RequestId) (p : PlaceId) : Type 0 where
  pub req : Req
  pub there : Has plan.requests req
  pub number : req.number ≡ r
  pub place : (facts_of plan past req).place ≡ Some p

-- each request that has the go in the lead's view runs there after these events
pub record WhatHasTheGoRuns (plan : Plan) (past : List Event) (lead : Lead) : Type 0 where
  pub each : (r : Req) (p : PlaceId) (marked : Bool) → Has plan.requests r → lead_state_of lead r.number ≡ Gone p marked → RunsAt p marked (facts_of plan past r)

-- ---- the laws

-- it is so between any two calls of a desk
abbrev pub GoRunsBetweenCalls : Type 0
GoRunsBetweenCalls = (plan : Plan) (past : List Event) (lead : Lead) → LeadStatesGoWith plan past lead → WhatHasTheGoRuns plan past lead

-- it is so once an event is recorded, before the desk does what it means for the board. The event may follow, is no resume, and ends no
-- request that has the go
abbrev pub GoRunsOnceRecorded : Type 0
GoRunsOnceRecorded =
    (plan : Plan) (readings : Option (List Reading)) (past : List Event) (e : Event) (lead : Lead)
    → IsTrue (may_follow plan readings past e) → IsFalse (is_resume e) → ((r : RequestId) → IsGone (lead_state_of lead r) → IsFalse (ends r e))
    → WhatHasTheGoRuns plan past lead → WhatHasTheGoRuns plan (e ∷ past) lead

-- then each seat that has a permit has it for a request that runs at that place in the list
abbrev pub PermitsAreRuns : Type 0
PermitsAreRuns =
    (plan : Plan) (past : List Event) (lead : Lead) (s : BoardState) → SitsAt plan s lead → WhatHasTheGoRuns plan past lead
    → (j : ℕ) (r : RequestId) (p : PlaceId) → IsServing s.views j r p → RunsInList plan past r p

-- and no two seats have permits for requests that exclude each other
abbrev pub NoRivalsHavePermits : Type 0
NoRivalsHavePermits =
    (plan : Plan) (lead : Lead) (s : BoardState) → SitsAt plan s lead
    → (i j : ℕ) (r q : RequestId) (p u : PlaceId) → IsServing s.views i r p → IsServing s.views j q u → IsFalse (exclude plan r q)
