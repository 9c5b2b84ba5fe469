-- The listing of a plan: a line for each request.
use Rattle.std.specs.Prelude.{ℕ, List, [], ◌∷◌, ◌++◌, codes, map, Option, None, Some}
use Rattle.std.specs.Fmt.{decimal}
use Rattle.std.specs.List.{concat, join_with_byte}
use Rattle.conc_types.specs.declared.event.RequestId.{RequestId}
use Rattle.conc_types.specs.declared.plan.Plan.{Plan}
use Rattle.conc_types.specs.declared.plan.Req.{Req}
use Rattle.conc_base_law.specs.Moments.{moment_text}
use Rattle.conc_base_law.specs.Text.{item_name}

-- the request's set, or 0 where it is no member of one
abbrev pub parent_word : Option RequestId → List ℕ
parent_word None = decimal 0
parent_word (Some set) = decimal set.number

-- number, priority, start, set, stage, domain, user and name
abbrev pub request_fields : Plan → Req → List (List ℕ)
request_fields plan r =
    decimal r.number.number ∷ decimal r.priority ∷ moment_text r.start ∷ parent_word r.parent ∷ decimal r.stage
    ∷ r.domain ∷ r.user ∷ item_name plan r.item ∷ []

-- the line of a request: its fields, with a tab between two of them
unfoldable pub listed : Plan → Req → List ℕ
listed plan r = join_with_byte 9 (request_fields plan r) ++ codes "\n"

-- the lines of all requests, in order of their numbers
unfoldable pub listing : Plan → List ℕ
listing plan = concat (map (listed plan) plan.requests)
