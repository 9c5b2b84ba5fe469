use Rattle.std.proofs.Common.{◌<◌, length, arith}
use Rattle.conc_event_decisions.proofs.Greatest.{worst_among-more}
use Rattle.conc_event_decisions.proofs.stages.worst_member.Goals as goal

pub loop-r-preserved : goal.loop-r-preserved
loop-r-preserved c =
    let within : c.loop-r.r-index < length c.args.requests.now = omega arith in
    let more = worst_among-more c.args.state.now c.args.set c.args.stage c.args.requests.now c.loop-r.r-index c.r-item.result within c.r-item.is in
    omega (arith, more, c.loop-r.invariant, c.member_severity.ensures, c.max-worst.ensures)
