use Rattle.std.proofs.Common.{arith}
use Rattle.conc_show_model.proofs.Judged.{judged_all, judged_fault, judged_more, none_from}
use Rattle.conc_show_model.proofs.judging.judge.Goals as goal

pub returns-in-Some-clause-err : goal.returns-in-Some-clause-err
returns-in-Some-clause-err c =
    rw c.refused.ensures (judged_fault c.args.rows.now c.args.events.now c.loop-i.going.items c.loop-i.i _ c.in-Some.why (omega arith) c.index-events-i.is c.loop-i.invariant (cc))

pub loop-i-preserved : goal.loop-i-preserved
loop-i-preserved c =
    judged_more c.args.rows.now c.args.events.now c.loop-i.going.items _ c.loop-i.i _ (omega arith) c.index-events-i.is c.loop-i.invariant
    (let empty = none_from c.fault_at.result c.in_default.not-Some in cc) c.in_ok-go_on.ensures

pub returns-clause-ok : goal.returns-clause-ok
returns-clause-ok c = judged_all c.args.rows.now c.args.events.now c.loop-i.going.items c.loop-i.i (omega arith) c.loop-i.invariant
