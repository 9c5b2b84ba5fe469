use Rattle.std.proofs.Common.{sym, rules, nat_lt}
use Rattle.std.proofs.lemmas.List.Sorted.{IsPartitionPoint-from_clause, IsPartitionedBy-ltb}
use Rattle.conc_machine.proofs.Order.{in_order-rises, none-earlier, readings-behind}
use Rattle.conc_machine.proofs.life.count_earlier.Goals as goal

pub returns-in-Some-clause-rest : goal.returns-in-Some-clause-rest
returns-in-Some-clause-rest c =
    let rises = in_order-rises c.args.readings.now.list c.args.readings.now.in_order in
    let parted = rw (sym c.as_slice.ensures) at
    (IsPartitionedBy-ltb (λ q. q.moment.seconds) c.args.readings.now.list c.in-Some.last.seconds rises) in
    let point = rw c.as_slice.ensures at
    (IsPartitionPoint-from_clause (λ q. nat_lt q.moment.seconds c.in-Some.last.seconds) _ _ c.partition_point.ensures.partitioned parted (λ a r q k. search rules)) in
    let few = rw c.as_slice.ensures at c.partition_point.ensures.bound in
    rw c.in-Some.is (readings-behind c.in-Some.last c.args.readings.now.list c.partition_point.result point few)

pub returns-in-None-clause-rest : goal.returns-in-None-clause-rest
returns-in-None-clause-rest c = rw c.in-None.is (none-earlier c.args.readings.now.list)
