use Rattle.std.proofs.Common.{◌≡◌, [], map, replicate, vec_len}
use Rattle.std.specs.Prelude.{IsTrue}
use Rattle.conc_pool_lanes.specs.Lane.{put_by}
use Rattle.conc_pool_lanes.specs.Lanes.{ArePutters}
use Rattle.conc_pool_lanes.specs.Rooms.{have_room}
use Rattle.conc_pool_lanes.proofs.each.make_lanes.Given as goal

abbrev pub invariant-loop-index : goal.invariant-loop-index
invariant-loop-index l = record {
  count : vec_len l.lanes ≡ l._index;
  room : IsTrue (have_room l.room l.lanes.items);
  putters : ArePutters l.lanes.items l.putters.items;
  empty : map put_by l.putters.items ≡ replicate l._index [];
}
