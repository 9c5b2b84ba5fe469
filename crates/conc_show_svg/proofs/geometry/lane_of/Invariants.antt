use Rattle.std.proofs.Common.{◌≡◌, ◌+◌, drop}
use Rattle.conc_show_svg.specs.Geometry.{lane_of}
use Rattle.conc_show_svg.proofs.geometry.lane_of.Given as goal

abbrev pub invariant-loop-i : goal.invariant-loop-i
invariant-loop-i l = lane_of (drop l.i l.places) l.place + l.i ≡ lane_of l.places l.place
