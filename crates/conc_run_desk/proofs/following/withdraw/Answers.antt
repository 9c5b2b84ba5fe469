use Rattle.std.proofs.Common.{◌≡◌, length, sym, subst}
use Rattle.conc_types.specs.declared.plan.Plan.{Plan}
use Rattle.conc_board.specs.Seats.{lead_state_of}
use Rattle.conc_pool_seats.specs.Words.{IsRequest, count_of_requests}
use Rattle.conc_run_desk.proofs.Named.{is_request, not_let, not_withdrawn}
use Rattle.conc_run_desk.proofs.following.withdraw.Goals as goal

pub returns-then-is_none-clause-lead_state : goal.returns-then-is_none-clause-lead_state
returns-then-is_none-clause-lead_state c =
    let plan : Plan = c.args.plan.now in
    not_withdrawn (lead_state_of c.args.lead.now c.args.r)
    (not_let plan c.args.r c.args.lead.now.seat.me.0.lead_states c.request.result c.request.ensures c.if-is_none.ensures
    (subst (λ (p : Plan). length c.args.lead.now.seat.me.0.lead_states ≡ count_of_requests p) (sym c.requires.plan) c.requires.lead.lead_states))

pub progress-requires-clause-request : goal.progress-requires-clause-request
progress-requires-clause-request c =
    subst (λ (p : Plan). IsRequest p c.args.r) c.requires.plan (is_request c.args.plan.now c.args.r c.request.result c.request.ensures c.if-is_none.ensures)
