-- The room of the lanes of a plan.
use Rattle.std.specs.Prelude.{ℕ, ◌+◌, ◌==◌, Bool, List, length}
use Rattle.std.specs.List.{list_all}
use Rattle.conc_types.specs.declared.plan.Plan.{Plan}
use Rattle.conc_pool_lanes.specs.Lane.{room_of}
use Rattle.conc_pool_lanes.specs.declared.lane.Lane.{Lane}

-- the room of each lane: more than a run puts
abbrev pub room_for : Plan → ℕ
room_for plan = length plan.requests + length plan.script.commands + 1

-- each lane has this room
abbrev pub have_room : ℕ → List Lane → Bool
have_room room lanes = list_all (λ lane. room_of lane == room) lanes
