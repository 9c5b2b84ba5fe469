use Rattle.std.proofs.Common.{◌≡◌, take}
use Rattle.conc_edge_devices.specs.Trace.{after, Leaves}
use Rattle.conc_edge_devices.proofs.tear.image_after.Given as goal

abbrev pub invariant-loop-change : goal.invariant-loop-change
invariant-loop-change l = record {
  seen : l.seen.items ≡ after (take l.change-index l.changes) l.start;
  image : Leaves (take l.change-index l.changes) l.start l.start l.image.items;
  all : l.choice ≡ 1 → l.image.items ≡ l.seen.items;
}
