use Rattle.std.proofs.Common.{◌≡◌, ◌++◌, take}
use Rattle.std.specs.List.{flat_map}
use Rattle.conc_show_timeline.specs.Lanes.{lane_text}
use Rattle.conc_show_timeline.proofs.text.put_lanes.Given as goal

abbrev pub invariant-loop-place : goal.invariant-loop-place
invariant-loop-place l = l.out.items ≡ l.fn.out.items ++ flat_map (lane_text l.events) (take l.place-index l.place-items)
