-- How the lead's view of each request goes with the journal's list.
use Rattle.std.specs.Prelude.{◌≡◌, ◌∷◌, Bool, true, List, Option, None, Some, IsFalse, IsTrue, reverse, ⊤}
use Rattle.conc_types.specs.declared.event.Event.{Event}
use Rattle.conc_types.specs.declared.event.PlaceId.{PlaceId}
use Rattle.conc_types.specs.declared.event.RequestId.{RequestId}
use Rattle.conc_types.specs.declared.facts.Facts.{Facts}
use Rattle.conc_types.specs.declared.plan.Plan.{Plan}
use Rattle.conc_types.specs.declared.plan.Req.{Req}
use Rattle.conc_types.specs.declared.script.Reading.{Reading}
use Rattle.conc_base_law.specs.Facts.{facts_of}
use Rattle.conc_base_law.specs.Kinds.{ends, is_resume}
use Rattle.conc_base_law.specs.Law.{LawfulSoFar, may_follow}
use Rattle.conc_base_law.specs.State.{is_live}
use Rattle.conc_base_law.specs.Words.{Has}
use Rattle.conc_board.specs.declared.lead.Lead.{Lead}
use Rattle.conc_board.specs.Seats.{lead_state_of}
use Rattle.conc_pool_seats.specs.LeadStates.{IsGone, IsLetOrGone, IsSettled}
use Rattle.conc_pool_seats.specs.Rule.{exclude}
use Rattle.conc_pool_seats.specs.declared.views.LeadState.{LeadState}
use Rattle.conc_pool_seats.specs.declared.views.LeadState.TheVariants.{NotLet, Let, Seen, Gone, Got, Done}
use Rattle.conc_run_desk.specs.Following.{Follows}

-- it is let, and does not run
pub record WaitsToStart (facts : Facts) : Type 0 where
  pub let_out : facts.let_out ≡ true
  pub place : facts.place ≡ None

-- it runs at the place, since a start of the last life; where it is marked it was terminated since
pub record RunsAt (place : PlaceId) (marked : Bool) (facts : Facts) : Type 0 where
  pub place_is : facts.place ≡ Some place
  pub started : facts.started ≡ true
  pub terminated : marked ≡ true → facts.terminated ≡ true

-- the lead state of a request on the board goes with its facts
abbrev pub GoesWith : LeadState → Facts → Type 0
GoesWith NotLet facts = ⊤
GoesWith Let facts = WaitsToStart facts
GoesWith (Seen p) facts = WaitsToStart facts
GoesWith (Gone p marked) facts = RunsAt p marked facts
GoesWith (Got p marked) facts = RunsAt p marked facts
GoesWith (Done marked) facts = facts.started ≡ true

-- so does the lead state of each request of the plan after these events, which are given with the latest first
pub record LeadStatesGoWith (plan : Plan) (past : List Event) (lead : Lead) : Type 0 where
  pub each : (r : Req) → Has plan.requests r → GoesWith (lead_state_of lead r.number) (facts_of plan past r)

-- ---- the laws

-- After one more event they go with the list still, once what that event means for the board is done. The event may follow
-- the list, is no resume, and ends no request that has the go.
abbrev pub LeadStatesGoWithTheList : Type 0
LeadStatesGoWithTheList =
    (plan : Plan) (readings : Option (List Reading)) (history : List Event) (e : Event) (old new : Lead)
    → IsTrue (may_follow plan readings (reverse history) e) → IsFalse (is_resume e)
    → ((r : RequestId) → IsSettled (lead_state_of old r)) → ((r : RequestId) → IsGone (lead_state_of old r) → IsFalse (ends r e))
    → LeadStatesGoWith plan (reverse history) old → Follows plan e old new
    → LeadStatesGoWith plan (e ∷ reverse history) new

-- a request that waits to start excludes none that is let out on the board or has the go there
abbrev pub OnTheBoardNoneExcludesWhatWaits : Type 0
OnTheBoardNoneExcludesWhatWaits =
    (plan : Plan) (history : List Event) (lead : Lead) (r : Req) (q : RequestId)
    → LawfulSoFar plan history → LeadStatesGoWith plan (reverse history) lead → Has plan.requests r
    → WaitsToStart (facts_of plan (reverse history) r) → IsLetOrGone (lead_state_of lead q)
    → IsFalse (exclude plan r.number q)

-- a request that is let out on the board, or has the go there, is live
abbrev pub WhatIsOnTheBoardIsLive : Type 0
WhatIsOnTheBoardIsLive =
    (plan : Plan) (history : List Event) (lead : Lead) (r : Req)
    → LawfulSoFar plan history → LeadStatesGoWith plan (reverse history) lead → Has plan.requests r
    → IsLetOrGone (lead_state_of lead r.number) → IsTrue (is_live (facts_of plan (reverse history) r))
