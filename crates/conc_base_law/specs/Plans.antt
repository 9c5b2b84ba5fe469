-- What a plan says of its requests, commands and places.
use Rattle.std.specs.Prelude.{◌≡◌, Some, ℕ, [], Bool, ◌&&◌, ◌||◌, ◌==◌, nat_lt, List, Option, None, slice_get}
use Rattle.std.specs.List.{list_any, filter}
use Rattle.std.specs.Option.{option_and_then, option_map, option_map_or}
use Rattle.conc_types.specs.declared.event.RequestId.{RequestId}
use Rattle.conc_types.specs.declared.plan.Plan.{Plan}
use Rattle.conc_types.specs.declared.plan.Req.{Req}
use Rattle.conc_types.specs.declared.item.Item.{Item}
use Rattle.conc_types.specs.declared.item.Item.TheVariants as item
use Rattle.conc_types.specs.declared.program.Program.{Program}
use Rattle.conc_types.specs.declared.set.SetDef.{SetDef}
use Rattle.conc_types.specs.declared.stage.Stage.{Stage}
use Rattle.conc_types.specs.Plans.{request}
use Rattle.conc_types.specs.Words.{some_and}
use Rattle.conc_base_law.specs.Words.{Has, id_eq}
use Rattle.conc_base_law.specs.Exclusion.{excludes}
use Rattle.conc_base_law.specs.Managers.{admits}

-- the request of the set that entered r
unfoldable pub parent : Plan → Req → Option Req
parent plan r = option_and_then (request plan) r.parent

unfoldable pub parent_item : Plan → Req → Option Item
parent_item plan r = option_map (λ set. set.item) (parent plan r)

unfoldable pub program_at : Plan → Item → Option Program
program_at plan (item.Program n) = slice_get plan.setup.programs n
program_at plan (item.Set n) = None

unfoldable pub program_of : Plan → Req → Option Program
program_of plan r = program_at plan r.item

-- what the setup says of the set of a request
unfoldable pub set_at : Plan → Item → Option SetDef
set_at plan (item.Program n) = None
set_at plan (item.Set n) = slice_get plan.setup.sets n

-- its program is enabled; a set is no program
unfoldable pub is_enabled : Plan → Req → Bool
is_enabled plan r = some_and (λ program. program.enabled) (program_of plan r)

-- its program has the mark for restart
unfoldable pub has_restart : Plan → Req → Bool
has_restart plan r = some_and (λ program. program.restart) (program_of plan r)

-- some manager admits r
unfoldable pub is_admitted : Plan → Req → Bool
is_admitted plan r = list_any (λ manager. admits manager r) plan.setup.managers

-- x and y never run at the same time
unfoldable pub are_exclusive : Plan → Req → Req → Bool
are_exclusive plan x y = excludes plan.setup x y (parent_item plan x) (parent_item plan y)

-- x stands before y: the lower priority number, then the earlier start, then the lower number
unfoldable pub precedes : Req → Req → Bool
precedes x y =
    nat_lt x.priority y.priority
    || (x.priority == y.priority
    && (nat_lt x.start.seconds y.start.seconds
    || (x.start.seconds == y.start.seconds && nat_lt x.number.number y.number.number)))

-- r is a member of the stage of the set
unfoldable pub is_member : RequestId → ℕ → Req → Bool
is_member set stage r = some_and (id_eq set) r.parent && r.stage == stage

-- the members of a stage of a set, in order
unfoldable pub members : Plan → RequestId → ℕ → List Req
members plan set stage = filter (is_member set stage) plan.requests

-- the stages of a request's set
unfoldable pub stages_of : Plan → Req → List Stage
stages_of plan set = option_map_or (λ def. def.stages) (set_at plan set.item) []

-- each request is found by its number
abbrev pub AreNumbered : Plan → Type 0
AreNumbered plan = (r : Req) → Has plan.requests r → request plan r.number ≡ Some r
