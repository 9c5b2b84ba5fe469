use Rattle.conc_test_desk.proofs.Judged.{judged, plain-no_resume}
use Rattle.conc_test_desk.proofs.tests.driving.log.Goals as goal

pub log_event-requires-clause-lawful : goal.log_event-requires-clause-lawful
log_event-requires-clause-lawful g c =
    judged c.args.desk.now c.machine.result.now c.machine.ensures.machine c.machine.ensures.stands c.args.event c.judge.result c.machine.ensures.readings c.machine.ensures.lawful
    (plain-no_resume c.args.event c.requires.plain) c.judge.ensures c.if-not-judge.false
