use Rattle.std.proofs.Common.{refl, sym, ◌∙◌, ap, subst}
use Rattle.conc_types.specs.declared.plan.Plan.{Plan}
use Rattle.conc_pool_seats.specs.Words.{IsRequest}
use Rattle.conc_run_state.specs.Machines.{Machine, plan_of}
use Rattle.conc_run_desk.proofs.Named.{is_request}
use Rattle.conc_run_desk.specs.Desks.{lead_state_at}
use Rattle.conc_run_workers.proofs.Advancing.{stays-moves, stays-twice, still-gone, still-let}
use Rattle.conc_run_workers.proofs.Stepping.{both, loans-same, none, ok, on-board, may-step}
use Rattle.conc_run_workers.proofs.resolving.Resolver.look_at.Goals as goal

pub returns-then-is_none : goal.returns-then-is_none
returns-then-is_none g c = none c.requires (g.met.E.Disk.seen_is_left c.args.self.now.spool.now)

pub progress-requires-clause-request : goal.progress-requires-clause-request
progress-requires-clause-request g c =
    subst (λ (p : Plan). IsRequest p c.args.r) (c.plan.ensures ∙ ap (λ (m : Machine). plan_of m) c.machine.ensures.machine ∙ sym c.requires.at_work.at.plan)
    (is_request c.plan.result.now c.args.r c.request.result c.request.ensures c.if-is_none.ensures)

pub start-requires-clause-request : goal.start-requires-clause-request
start-requires-clause-request g c =
    subst (λ (p : Plan). IsRequest p c.args.r) (c.plan.ensures ∙ ap (λ (m : Machine). plan_of m) c.machine.ensures.machine ∙ sym c.requires.at_work.at.plan)
    (is_request c.plan.result.now c.args.r c.request.result c.request.ensures c.if-is_none.ensures)

pub start-requires-clause-let_out : goal.start-requires-clause-let_out
start-requires-clause-let_out g c = still-let (lead_state_at c.args.self.now.desk.now c.args.r) (lead_state_at c.progress.new.self c.args.r) c.in-Let.ensures.progress c.progress.ensures.lead_state

pub end-requires-clause-gone : goal.end-requires-clause-gone
end-requires-clause-gone g c = still-gone (lead_state_at c.args.self.now.desk.now c.args.r) (lead_state_at c.progress.new.self c.args.r) c.in-Gone.ensures.progress c.progress.ensures.lead_state

pub start-requires-clause-may_step : goal.start-requires-clause-may_step
start-requires-clause-may_step g c = may-step (on-board c.requires (g.met.E.Disk.seen_is_left c.args.self.now.spool.now) (loans-same refl) refl (stays-moves c.progress.ensures.moves))

pub end-requires-clause-request : goal.end-requires-clause-request
end-requires-clause-request g c =
    subst (λ (p : Plan). IsRequest p c.args.r) (c.plan.ensures ∙ ap (λ (m : Machine). plan_of m) c.machine.ensures.machine ∙ sym c.requires.at_work.at.plan)
    (is_request c.plan.result.now c.args.r c.request.result c.request.ensures c.if-is_none.ensures)

pub end-requires-clause-may_step : goal.end-requires-clause-may_step
end-requires-clause-may_step g c = may-step (on-board c.requires (g.met.E.Disk.seen_is_left c.args.self.now.spool.now) (loans-same refl) refl (stays-moves c.progress.ensures.moves))

pub returns-in-NotLet : goal.returns-in-NotLet
returns-in-NotLet g c = ok (on-board c.requires (g.met.E.Disk.seen_is_left c.args.self.now.spool.now) (loans-same refl) refl (stays-twice (stays-moves c.progress.ensures.moves) c.release.ensures))

pub returns-in-Let : goal.returns-in-Let
returns-in-Let g c = both (on-board c.requires (g.met.E.Disk.seen_is_left c.args.self.now.spool.now) (loans-same refl) refl (stays-moves c.progress.ensures.moves)) c.start.ensures

pub returns-in-Gone : goal.returns-in-Gone
returns-in-Gone g c = both (on-board c.requires (g.met.E.Disk.seen_is_left c.args.self.now.spool.now) (loans-same refl) refl (stays-moves c.progress.ensures.moves)) c.end.ensures

pub returns-in-Done : goal.returns-in-Done
returns-in-Done g c = ok (on-board c.requires (g.met.E.Disk.seen_is_left c.args.self.now.spool.now) (loans-same refl) refl (stays-moves c.progress.ensures.moves))
