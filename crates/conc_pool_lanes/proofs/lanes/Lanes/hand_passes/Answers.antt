use Rattle.std.proofs.Common.{◌∙◌, refl, sym, subst, ap, length, arith}
use Rattle.conc_pool_lanes.specs.Lanes.{AreHandPasses}
use Rattle.conc_pool_lanes.proofs.Passes.{passes-push}
use Rattle.conc_pool_lanes.proofs.lanes.Lanes.hand_passes.Goals as goal

pub loop-hand-init : goal.loop-hand-init
unfolding AreHandPasses
loop-hand-init c =
    let none = c.in_ok-passes.ensures.items in
    record {
      lead = c.requires.lead;
      same = refl;
      count = ap length none;
      passes = subst (AreHandPasses c.args.self.now) (sym none) tt;
    }

pub loop-hand-preserved : goal.loop-hand-preserved
loop-hand-preserved c =
    let before = c.loop-hand.invariant in
    let more = c.in_ok-push.ensures.items in
    record {
      lead = c.another.ensures.lead;
      same = c.another.ensures.same ∙ before.same;
      count = omega (arith, c.in_ok-push.ensures.len, before.count);
      passes = subst (AreHandPasses c.args.self.now) (sym more)
          (passes-push c.args.self.now c.loop-hand.passes.items c.in_ok-another.field-0 before.passes c.in_ok-another.ensures.pass);
    }
