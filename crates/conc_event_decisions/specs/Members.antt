-- Requests among which the members of a set stand.
use Rattle.std.specs.Prelude.{◌≡◌, ℕ, List, map}
use Rattle.std.specs.List.{filter, filter_map}
use Rattle.conc_types.specs.Words.{greatest}
use Rattle.conc_types.specs.declared.event.RequestId.{RequestId}
use Rattle.conc_types.specs.declared.plan.Plan.{Plan}
use Rattle.conc_types.specs.declared.plan.Req.{Req}
use Rattle.conc_types.specs.declared.facts.State.{State}
use Rattle.conc_base_law.specs.Plans.{is_member, members}
use Rattle.conc_base_law.specs.Stages.{outcome_at, severity}

-- the members of each stage of the set stand among these requests, in order
abbrev pub AreMembers : Plan → RequestId → List Req → Type 0
AreMembers plan set requests = (stage : ℕ) → filter (is_member set stage) requests ≡ members plan set stage

-- the worst severity of the outcomes of those of the requests that are members of the stage
abbrev pub worst_among : State → RequestId → ℕ → List Req → ℕ
worst_among state set stage requests = greatest (map severity (filter_map (outcome_at state) (filter (is_member set stage) requests)))
