use Rattle.std.proofs.Common.{◌≡◌, ◌++◌, take}
use Rattle.std.specs.List.{flat_map}
use Rattle.conc_show_svg.specs.Bars.{view_of}
use Rattle.conc_show_svg.specs.Rows.{span_text}
use Rattle.conc_show_svg.proofs.picture.put_spans.Given as goal

abbrev pub invariant-loop-span : goal.invariant-loop-span
invariant-loop-span l = l.out.items ≡ l.fn.out.items ++ flat_map (span_text (view_of l.scene)) (take l.span-index l.span-items)
