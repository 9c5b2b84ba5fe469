use Rattle.conc_run_desk.proofs.Waiting.{let-in}
use Rattle.conc_test_desk.proofs.tests.driving.release.Goals as goal

pub release-requires-clause-let_out : goal.release-requires-clause-let_out
release-requires-clause-let_out g c =
    let-in c.machine.result.now c.progress.new.self c.args.r c.waits_to_start.result c.machine.ensures.machine c.machine.ensures.stands c.waits_to_start.ensures c.if-not-waits_to_start.false
