use Rattle.std.proofs.Common.{◌≡◌, true, [], ◌∷◌, ◌++◌, map, refl, sym, ap, ◌∙◌, subst, arith}
use Rattle.conc_pool_lanes.specs.Lane.{put_by}
use Rattle.conc_pool_lanes.specs.Lanes.{ArePutters}
use Rattle.conc_pool_lanes.specs.Rooms.{have_room}
use Rattle.conc_pool_lanes.proofs.Passes.{nothing-push, putters-push, room-push}
use Rattle.conc_pool_lanes.proofs.each.make_lanes.Goals as goal

pub loop-index-init : goal.loop-index-init
unfolding ArePutters
loop-index-init c =
    let lanes = c.in_ok-lanes.ensures.items in
    let putters = c.in_ok-putters.ensures.items in
    record {
      count = c.in_ok-lanes.ensures.len;
      room = subst (λ l. have_room c.args.room l ≡ true) (sym lanes) refl;
      putters = subst (λ l. ArePutters l c.in_ok-putters.putters.items) (sym lanes) (subst (λ p. ArePutters [] p) (sym putters) tt);
      empty = ap (map put_by) putters;
    }

pub loop-index-preserved : goal.loop-index-preserved
loop-index-preserved c =
    let before = c.loop-index.invariant in
    let lanes = c.in_ok-push.ensures.items in
    let putters = c.in_ok-push-2.ensures.items in
    let lane = c.in_ok-lane.lane in
    let putter = c.in_ok-lane.putter in
    let old = c.loop-index.lanes.items in
    let old_putters = c.loop-index.putters.items in
    record {
      count = omega (arith, c.in_ok-push.ensures.len, before.count);
      room = subst (λ l. have_room c.args.room l ≡ true) (sym lanes) (room-push c.args.room old lane c.in_ok-lane.ensures.room before.room);
      putters = subst (λ l. ArePutters l c.push-in-loop-index.new.self.items) (sym lanes)
          (subst (λ p. ArePutters (old ++ lane ∷ []) p) (sym putters) (putters-push old old_putters lane putter before.putters c.in_ok-lane.ensures.putter));
      empty = ap (map put_by) putters ∙ nothing-push c.loop-index._index old_putters putter before.empty c.in_ok-lane.ensures.empty;
    }
