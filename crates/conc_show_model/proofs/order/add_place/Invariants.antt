use Rattle.std.proofs.Common.{◌≡◌, ◌++◌, take, drop}
use Rattle.conc_show_model.specs.Places.{with_place}
use Rattle.conc_show_model.proofs.order.add_place.Given as goal

abbrev pub invariant-loop-i : goal.invariant-loop-i
invariant-loop-i l = record {
  same : l.places.items ≡ l.initial.places.items;
  so_far : with_place l.place l.places.items ≡ take l.i l.places.items ++ with_place l.place (drop l.i l.places.items);
}
