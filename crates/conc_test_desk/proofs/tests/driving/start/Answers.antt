use Rattle.std.proofs.Common.{refl}
use Rattle.conc_types.specs.declared.event.Event.TheVariants as event
use Rattle.conc_test_desk.proofs.Judged.{judged}
use Rattle.conc_test_desk.proofs.tests.driving.start.Goals as goal

pub log_event-requires-clause-lawful : goal.log_event-requires-clause-lawful
log_event-requires-clause-lawful g c =
    judged c.see_claim.new.desk c.machine.result.now c.machine.ensures.machine c.machine.ensures.stands (event.Started c.args.r c.see_claim.result) c.judge.result c.machine.ensures.readings
    c.machine.ensures.lawful refl c.judge.ensures c.if-not-judge.false
