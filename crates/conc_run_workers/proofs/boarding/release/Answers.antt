use Rattle.std.proofs.Common.{◌≡◌, true, arith, reverse, subst, sym}
use Rattle.conc_run_state.specs.Works.{list_in}
use Rattle.conc_run_state.specs.declared.work.Work.{Work}
use Rattle.conc_run_steps.specs.Steps.{plan_in}
use Rattle.conc_run_desk.specs.Desks.{IsLetAfter}
use Rattle.conc_run_desk.proofs.Waiting.{let-in}
use Rattle.conc_run_workers.proofs.Waiting.{let-request}
use Rattle.conc_run_workers.proofs.boarding.release.Goals as goal

pub progress-requires-clause-request : goal.progress-requires-clause-request
progress-requires-clause-request c =
    let goes = c.if-not-waits_to_start.false in
    let yes : c.waits_to_start.result ≡ true = grind (arith, goes) in
    let-request c.args.board.now c.args.desk.now c.args.r c.requires.at.plan
    (let-in c.machine.result.now c.args.desk.now c.args.r c.waits_to_start.result c.machine.ensures.machine c.machine.ensures.stands c.waits_to_start.ensures yes)

pub release-requires-clause-let_out : goal.release-requires-clause-let_out
release-requires-clause-let_out c =
    let goes = c.if-not-waits_to_start.false in
    let yes : c.waits_to_start.result ≡ true = grind (arith, goes) in
    subst (λ (w : Work). IsLetAfter (plan_in w) (reverse (list_in w)) c.args.r) (sym c.progress.ensures.moves.same.work)
    (let-in c.machine.result.now c.args.desk.now c.args.r c.waits_to_start.result c.machine.ensures.machine c.machine.ensures.stands c.waits_to_start.ensures yes)
