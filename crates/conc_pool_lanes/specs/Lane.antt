-- A lane and its passes.
use Rattle.std.specs.Prelude.{ℕ, List}
use Rattle.crossbeam_queue.specs.Passes.{IsPassOf, ruled_capacity, view}
use Rattle.conc_types.specs.declared.event.RequestId.{RequestId}
use Rattle.conc_pool_lanes.specs.declared.lane.Lane.{Lane}
use Rattle.conc_pool_lanes.specs.declared.lane.Putter.{Putter}
use Rattle.conc_pool_lanes.specs.declared.lane.Taker.{Taker}

-- for how many requests it has room
abbrev pub room_of : Lane → ℕ
room_of lane = ruled_capacity lane.queue

-- what was put with the pass
abbrev pub put_by : Putter → List RequestId
put_by putter = (view putter.pass).requests

-- what was taken with the pass
abbrev pub taken_with : Taker → List RequestId
taken_with taker = (view taker.pass).requests

-- it is the pass that puts into this lane
abbrev pub IsPutterOf : Lane → Putter → Type 0
IsPutterOf lane putter = IsPassOf lane.queue putter.pass

-- it takes from this lane
abbrev pub IsTakerOf : Lane → Taker → Type 0
IsTakerOf lane taker = IsPassOf lane.queue taker.pass
