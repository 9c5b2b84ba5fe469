use Rattle.std.proofs.Common.{◌∙◌}
use Rattle.std.proofs.lemmas.Result.{on_ok_weaker}
use Rattle.conc_event_classes.proofs.PartitionSteps.{found_few, found_here, located_joined, located_opened}
use Rattle.conc_event_classes.proofs.partition.slot.Goals as goal

pub join-requires-clause-within : goal.join-requires-clause-within
join-requires-clause-within c =
    let w = found_here c.args.plan.now c.args.partition.now.heads.items c.as_slice.result.now c.head_of-head.result _ c.in-Some.class c.class_of.result c.copied.result c.as_slice.ensures.value c.class_of.ensures c.copied.ensures c.in-Some.is in
    (found_few c.args.plan.now c.args.index c.in-Some.class w.0 c.args.partition.now c.requires.before w.1).0

pub join-requires-clause-few : goal.join-requires-clause-few
join-requires-clause-few c =
    let w = found_here c.args.plan.now c.args.partition.now.heads.items c.as_slice.result.now c.head_of-head.result _ c.in-Some.class c.class_of.result c.copied.result c.as_slice.ensures.value c.class_of.ensures c.copied.ensures c.in-Some.is in
    (found_few c.args.plan.now c.args.index c.in-Some.class w.0 c.args.partition.now c.requires.before w.1).1

pub returns-in-Some : goal.returns-in-Some
returns-in-Some c =
    let w = found_here c.args.plan.now c.args.partition.now.heads.items c.as_slice.result.now c.head_of-head.result _ c.in-Some.class c.class_of.result c.copied.result c.as_slice.ensures.value c.class_of.ensures c.copied.ensures c.in-Some.is in
    on_ok_weaker c.join.result (located_joined c.args.plan.now c.args.index c.in-Some.class c.args.r.now w.0 _ _ c.requires.before c.requires.here w.1
    (w.2 ∙ c.head_of-head.ensures c.requires.here)) c.join.ensures

pub returns-in-None : goal.returns-in-None
returns-in-None c = on_ok_weaker c.open.result (located_opened c.args.plan.now c.args.index c.args.r.now c.head_of-head.result _ _ c.requires.before c.requires.here
    (c.head_of-head.ensures c.requires.here)) c.open.ensures
