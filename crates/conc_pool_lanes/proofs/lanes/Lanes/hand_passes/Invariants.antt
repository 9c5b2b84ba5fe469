use Rattle.std.proofs.Common.{◌≡◌, length}
use Rattle.conc_pool_lanes.specs.Lanes.{AreHandPasses, IsLeadPassOf, puts_of}
use Rattle.conc_pool_lanes.proofs.lanes.Lanes.hand_passes.Given as goal

abbrev pub invariant-loop-hand : goal.invariant-loop-hand
invariant-loop-hand l = record {
  lead : IsLeadPassOf l.self l.lead;
  same : puts_of l.lead ≡ puts_of l.fn.lead;
  count : length l.passes.items ≡ l._hand;
  passes : AreHandPasses l.self l.passes.items;
}
