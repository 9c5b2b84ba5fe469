use Rattle.std.proofs.Common.{◌≡◌, ◌++◌, take}
use Rattle.std.specs.List.{flat_map}
use Rattle.conc_show_svg.specs.Bars.{bar_text, view_of}
use Rattle.conc_show_svg.proofs.picture.put_bars.Given as goal

abbrev pub invariant-loop-run : goal.invariant-loop-run
invariant-loop-run l = l.out.items ≡ l.fn.out.items ++ flat_map (bar_text (view_of l.scene) l.band) (take l.run-index l.runs)
