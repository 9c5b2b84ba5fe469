use Rattle.std.proofs.Common.{◌≡◌, ◌++◌, drop}
use Rattle.conc_show_svg.specs.Frame.{lane_frame}
use Rattle.conc_show_svg.specs.Picture.{each_from}
use Rattle.conc_show_svg.proofs.picture.put_lanes.Given as goal

abbrev pub invariant-loop-i : goal.invariant-loop-i
invariant-loop-i l = l.out.items ++ each_from lane_frame l.i (drop l.i l.places) ≡ l.fn.out.items ++ each_from lane_frame 0 l.places
