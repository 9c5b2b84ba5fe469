use Rattle.conc_pool_lanes.proofs.laws.lanes_are_in_order.Goals as goal

pub returns : goal.returns
returns c = λ items views h. record {
  taken = h.taken;
  takers = h.takers;
  each_once = h.each_once;
  prefix = λ port v at may. (h.put port v at may).1;
  own = h.took;
}
