use Rattle.std.proofs.Common.{◌≡◌, ◌≤◌, ◌+◌, ◌-◌, length, take}
use Rattle.conc_types.specs.Expansion.{expansion}
use Rattle.conc_types.specs.Faults.{first_fault}
use Rattle.conc_plan.specs.Faults.{record_kind}
use Rattle.conc_plan.proofs.expanding.expand.Given as goal

abbrev pub invariant-loop-order : goal.invariant-loop-order
invariant-loop-order l = record {
  command : l.command ≡ 1 + l.order-index;
  entered : l.requests.items ≡ expansion l.setup (take l.order-index l.orders);
  few : length l.requests.items ≤ 16384;
  rest : first_fault (record_kind l.setup l.orders) (2 + l.order-index) (length l.orders - l.order-index)
      ≡ first_fault (record_kind l.setup l.orders) 2 (length l.orders);
}
