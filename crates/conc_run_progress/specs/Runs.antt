-- What runs has the go: how the journal's list goes with the lead's view of each request.
use Rattle.std.specs.Prelude.{◌≡◌, ◌∷◌, [], Bool, true, List, Option, None, Some, IsFalse, IsTrue}
use Rattle.conc_types.specs.declared.event.Event.{Event}
use Rattle.conc_types.specs.declared.event.PlaceId.{PlaceId}
use Rattle.conc_types.specs.declared.event.RequestId.{RequestId}
use Rattle.conc_types.specs.declared.plan.Plan.{Plan}
use Rattle.conc_types.specs.declared.plan.Req.{Req}
use Rattle.conc_types.specs.Words.{some_and}
use Rattle.conc_base_law.specs.Before.{last_life}
use Rattle.conc_base_law.specs.Facts.{facts_of}
use Rattle.conc_base_law.specs.Kinds.{ends, is_resume}
use Rattle.conc_base_law.specs.Words.{Has}
use Rattle.conc_board.specs.declared.lead.Lead.{Lead}
use Rattle.conc_board.specs.Seats.{SameLeadStates, lead_state_of}
use Rattle.conc_pool_seats.specs.declared.views.LeadState.TheVariants.{Gone}
use Rattle.conc_run_desk.specs.Following.{Follows, SameBut}
use Rattle.conc_run_desk.specs.Logging.{IsItsTurn}

-- the request has the go at the place in the lead's view, marked or not
abbrev pub HasTheGoAt : Lead → RequestId → PlaceId → Type 0
HasTheGoAt lead r p = (marked : Bool) × (lead_state_of lead r ≡ Gone p marked)

-- Each request that runs after these events, since a start of this life, has the go there, unless its end is kept. The events are given with
-- the latest first.
pub record WhatRunsHasTheGo (plan : Plan) (past : List Event) (kept : Option Event) (lead : Lead) : Type 0 where
  pub each : (r : Req) (p : PlaceId) → Has plan.requests r → (facts_of plan past r).place ≡ Some p → (facts_of plan past r).started ≡ true
      → IsFalse (some_and (ends r.number) kept) → HasTheGoAt lead r.number p

-- ---- the laws

-- After one more event it is so still, once what that event means for the board is done. The event is no resume, and is an end only where
-- that end was kept; nothing is kept then.
abbrev pub WhatRunsHasTheGoAfterEachEvent : Type 0
WhatRunsHasTheGoAfterEachEvent =
    (plan : Plan) (past : List Event) (kept : Option Event) (e : Event) (old new : Lead)
    → IsFalse (is_resume e) → IsItsTurn kept e → WhatRunsHasTheGo plan past kept old → Follows plan e old new
    → WhatRunsHasTheGo plan (e ∷ past) None new

-- at the beginning of a life it is so, whatever the lead knows
abbrev pub WhatRunsHasTheGoAtTheBeginning : Type 0
WhatRunsHasTheGoAtTheBeginning =
    (plan : Plan) (past : List Event) (kept : Option Event) (lead : Lead) → last_life past ≡ [] → WhatRunsHasTheGo plan past kept lead

-- a call on one request that takes no go leaves it so
abbrev pub WhatRunsHasTheGoAfterACall : Type 0
WhatRunsHasTheGoAfterACall =
    (plan : Plan) (past : List Event) (kept : Option Event) (r : RequestId) (old new : Lead)
    → SameBut r old new → ((p : PlaceId) → HasTheGoAt old r p → HasTheGoAt new r p)
    → WhatRunsHasTheGo plan past kept old → WhatRunsHasTheGo plan past kept new

-- so does a call that changes no lead state
abbrev pub WhatRunsHasTheGoWithTheSameLeadStates : Type 0
WhatRunsHasTheGoWithTheSameLeadStates =
    (plan : Plan) (past : List Event) (kept : Option Event) (old new : Lead)
    → SameLeadStates old new → WhatRunsHasTheGo plan past kept old → WhatRunsHasTheGo plan past kept new

-- and one that takes what was left for a request, whose end is kept then
abbrev pub WhatRunsHasTheGoOnceAnEndIsKept : Type 0
WhatRunsHasTheGoOnceAnEndIsKept =
    (plan : Plan) (past : List Event) (r : RequestId) (e : Event) (old new : Lead)
    → SameBut r old new → IsTrue (ends r e)
    → WhatRunsHasTheGo plan past None old → WhatRunsHasTheGo plan past (Some e) new
