use Rattle.std.proofs.Common.{subst, sym}
use Rattle.std.specs.Prelude.{IsSome}
use Rattle.conc_types.specs.declared.event.RequestId.{RequestId}
use Rattle.conc_pool_seats.specs.Reports.{report_for}
use Rattle.conc_board.specs.Claims.{HasPermit}
use Rattle.conc_worker.proofs.Reported.{made_there, served_has_report}
use Rattle.conc_worker.proofs.serving.serve_once.Goals as goal

pub posted_as-posted-requires : goal.posted_as-posted-requires
posted_as-posted-requires g c =
    let permit = c.in-Go.permit in let go = c.in-Go.ensures.polled in
    let has : HasPermit c.poll.new.hand permit = (go.2.0, go.2.1) in
    let there = served_has_report c.args.board.now c.args.plan.now c.poll.new.hand permit c.requires.plan c.in-Go.ensures.hand.hand has in
    made_there c.report_for.result (report_for c.args.plan.now c.request-request.result) c.report_for.ensures
    (subst (λ (r : RequestId). IsSome (report_for c.args.plan.now r)) (sym c.request-request.ensures) there)
