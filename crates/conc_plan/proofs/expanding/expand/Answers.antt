use Rattle.std.proofs.Common.{arith, refl, sym, ap, length, ◌+◌, ◌≤◌}
use Rattle.conc_types.specs.Expansion.{parts_by}
use Rattle.conc_plan.proofs.Commands.{count-more, entered-more, record-fails, record-passes}
use Rattle.conc_plan.proofs.Faults.{no_more_faults}
use Rattle.conc_plan.proofs.expanding.expand.Goals as goal

pub returns-then-len-entered_count-gt-MOST_REQUESTS-clause-err : goal.returns-then-len-entered_count-gt-MOST_REQUESTS-clause-err
returns-then-len-entered_count-gt-MOST_REQUESTS-clause-err c = rw c.refused.ensures (
  refl,
  record-fails c.args.setup.now c.args.orders.now _ _ _ _ _ c.loop-order-test.true c.order-item.is c.loop-order.invariant.entered
      (omega (arith, c.from.ensures, c.loop-order.invariant.command))
      (omega (arith, c.len.ensures, c.entered_count.ensures.count, c.if-len-entered_count-gt-MOST_REQUESTS.true))
      c.loop-order.invariant.rest,
)

pub loop-order-preserved : goal.loop-order-preserved
loop-order-preserved c =
    let entered = entered-more c.args.setup.now c.args.orders.now _ _ _ _ _ c.loop-order-test.true c.order-item.is
    c.loop-order.invariant.command c.loop-order.invariant.entered c.in_ok-enter.ensures in
    let few : length c.loop-order.requests.items + length (parts_by c.args.setup.now c.order-item.result.act) ≤ 16384
    = omega (arith, c.len.ensures, c.entered_count.ensures.count, c.if-len-entered_count-gt-MOST_REQUESTS.false) in
    record {
      command = omega arith;
      entered = entered;
      few = omega (
        arith,
        few,
        ap length entered,
        count-more c.args.setup.now c.args.orders.now _ _ _ c.loop-order-test.true c.order-item.is c.loop-order.invariant.entered,
      );
      rest = record-passes c.args.setup.now c.args.orders.now _ _ _ _ c.loop-order-test.true c.order-item.is c.loop-order.invariant.entered few c.loop-order.invariant.rest;
    }

pub returns-clause-faultless : goal.returns-clause-faultless
returns-clause-faultless c = sym (no_more_faults _ _ _ _ _ c.loop-order-test.false c.loop-order.invariant.rest)
