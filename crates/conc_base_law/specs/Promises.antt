-- What holds where a request starts, and where a stage begins.
use Rattle.std.specs.Prelude.{◌≡◌, ◌∷◌, ◌++◌, [], ℕ, List, Option, None, Some, IsTrue, reverse}
use Rattle.conc_types.specs.declared.event.Event.{Event}
use Rattle.conc_types.specs.declared.event.Event.TheVariants as event
use Rattle.conc_types.specs.declared.event.PlaceId.{PlaceId}
use Rattle.conc_types.specs.declared.facts.State.{State}
use Rattle.conc_types.specs.declared.plan.Plan.{Plan}
use Rattle.conc_types.specs.declared.plan.Req.{Req}
use Rattle.conc_types.specs.Words.{some_and}
use Rattle.conc_base_law.specs.Law.{LawfulSoFar}
use Rattle.conc_base_law.specs.Managers.{admits}
use Rattle.conc_base_law.specs.Next.{is_vacant}
use Rattle.conc_base_law.specs.Places.{is_usable, place_of}
use Rattle.conc_base_law.specs.Stages.{has_ended, next_stage}
use Rattle.conc_base_law.specs.State.{facts_at, state}
use Rattle.conc_base_law.specs.Words.{Has}

-- the manager that has the place admits the request, the place may be used at the last tick, and no request runs there
pub record IsAdmitted (plan : Plan) (s : State) (r : Req) (place : PlaceId) : Type 0 where
  pub admitted : IsTrue (some_and (λ p. admits p.manager r) (place_of plan place))
  pub usable : IsTrue (some_and (λ t. is_usable plan t place) s.time)
  pub vacant : IsTrue (is_vacant plan s place)

-- behind the stage that began last, if one did: the first stage; or, where all members of that stage are completed, the one
-- that its link for their outcome names
abbrev pub IsNextAfter : Plan → State → Req → ℕ → Option ℕ → Type 0
IsNextAfter plan s set stage None = stage ≡ 1
IsNextAfter plan s set stage (Some last) = IsTrue (has_ended plan s set last) × (next_stage plan s set last ≡ Some stage)

abbrev pub IsNextStage : Plan → State → Req → ℕ → Type 0
IsNextStage plan s set stage = IsNextAfter plan s set stage (facts_at s set).stage

-- ---- the laws

-- where a request starts at a place, it is admitted there
abbrev pub StartsAreAdmitted : Type 0
StartsAreAdmitted =
    (plan : Plan) (before : List Event) (r : Req) (place : PlaceId) → Has plan.requests r
    → LawfulSoFar plan (before ++ event.Started r.number place ∷ []) → IsAdmitted plan (state plan (reverse before)) r place

-- where a stage of a set begins, it is the next one
abbrev pub StagesFollowLinks : Type 0
StagesFollowLinks =
    (plan : Plan) (before : List Event) (set : Req) (stage : ℕ) → Has plan.requests set
    → LawfulSoFar plan (before ++ event.Stage set.number stage ∷ []) → IsNextStage plan (state plan (reverse before)) set stage
