use Rattle.std.proofs.Common.{◌≡◌, length, sym, subst}
use Rattle.conc_types.specs.declared.plan.Plan.{Plan}
use Rattle.conc_board.specs.Seats.{lead_state_of}
use Rattle.conc_pool_seats.specs.Words.{IsRequest, count_of_requests}
use Rattle.conc_run_desk.proofs.Named.{is_request, not_let}
use Rattle.conc_run_desk.proofs.Stopping.{none_runs, stops_what_runs}
use Rattle.conc_run_desk.proofs.following.tell_to_stop.Goals as goal

pub returns-then-is_none-clause-stops : goal.returns-then-is_none-clause-stops
returns-then-is_none-clause-stops c =
    let plan : Plan = c.args.plan.now in let lead = c.args.lead.now in
    none_runs c.args.r lead lead (lead_state_of lead c.args.r)
    (not_let plan c.args.r lead.seat.me.0.lead_states c.request.result c.request.ensures c.if-is_none.ensures
    (subst (λ (p : Plan). length lead.seat.me.0.lead_states ≡ count_of_requests p) (sym c.requires.plan) c.requires.lead.lead_states))

pub returns-then-matches-clause-stops : goal.returns-then-matches-clause-stops
returns-then-matches-clause-stops c =
    stops_what_runs c.args.r c.args.lead.now c.progress.new.lead c.stop.new.lead c.stop.result c.progress.ensures.found c.stop.ensures.stopped c.progress.ensures.lead_state

pub progress-requires-clause-request : goal.progress-requires-clause-request
progress-requires-clause-request c =
    subst (λ (p : Plan). IsRequest p c.args.r) c.requires.plan (is_request c.args.plan.now c.args.r c.request.result c.request.ensures c.if-is_none.ensures)
