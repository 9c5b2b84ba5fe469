use Rattle.std.proofs.Common.{[], length, append-nil, arith, refl, sym, ◌∙◌, ap, subst}
use mathlib.Core.Logic.{dite}
use native.Mathlib.Decide.{ℕ_discrete}
use Rattle.conc_types.specs.declared.event.RequestId.{RequestId}
use Rattle.conc_types.specs.declared.plan.Plan.{Plan}
use Rattle.conc_board.specs.Seats.{plan_of as board_plan}
use Rattle.conc_board.proofs.Leads.{takes_twice}
use Rattle.conc_pool_seats.specs.LeadStates.{IsLet}
use Rattle.conc_pool_seats.proofs.Facts.{request_eq}
use Rattle.conc_run_state.specs.Machines.{Machine, plan_of}
use Rattle.conc_run_desk.specs.Desks.{lead_state_at}
use Rattle.conc_run_workers.proofs.Advancing.{stays-twice}
use Rattle.conc_run_workers.proofs.Waiting.{number-in, request-in}
use Rattle.conc_run_workers.proofs.boarding.withdraw_all.Goals as goal

pub loop-request-init : goal.loop-request-init
loop-request-init c = record {
  stays = record { at = c.requires.at; same = record { work = refl; kept = refl; begun_with = refl; failed = refl }; places = refl; switches = record { each = λ word. refl } };
  posts = ([], sym (append-nil _));
  items = c.as_slice-request-items.ensures ∙ ap (λ (p : Plan). p.requests) (c.plan.ensures ∙ ap (λ (m : Machine). plan_of m) c.machine.ensures.machine ∙ sym c.requires.at.plan);
  none = λ r named early is. let first = named.from_one in absurd (omega (arith, first, early));
}

pub withdraw-requires-clause-request : goal.withdraw-requires-clause-request
withdraw-requires-clause-request c =
    let test = c.loop-request-test.true in let end = c.loop-request.auto.request-index-end in
    request-in (board_plan c.args.board.now) _ c.loop-request.request-index c.request-item.result c.loop-request.invariant.items (omega (arith, test, end)) c.request-item.is

pub loop-request-preserved : goal.loop-request-preserved
loop-request-preserved c =
    let test = c.loop-request-test.true in let end = c.loop-request.auto.request-index-end in
    let i = c.loop-request.invariant in let n = c.loop-request.request-index in let x = c.request-item.result in let w = c.withdraw.ensures in
    let number = number-in (board_plan c.args.board.now) _ n x i.items (omega (arith, test, end)) c.request-item.is in record {
      stays = stays-twice i.stays w.stays;
      posts = takes_twice c.args.desk.now.lead c.loop-request.desk.lead c.withdraw.new.desk.lead i.posts w.others.posts;
      items = i.items;
      none = λ r named early. dite (ℕ_discrete r.number x.number.number)
          (λ e is. w.not_let (subst (λ (z : RequestId). IsLet (lead_state_at c.withdraw.new.desk z)) (request_eq r x.number e) is))
          (λ other is. i.none r named (omega (arith, number, early, other)) (subst IsLet (w.others.lead_states r (λ e. other (ap (λ (z : RequestId). z.number) e))) is));
    }

pub returns-clause-none_let : goal.returns-clause-none_let
returns-clause-none_let c = λ r named is.
    let test = c.loop-request-test.false in let end = c.loop-request.auto.request-index-end in let i = c.loop-request.invariant in
    let last = named.within in let all = ap (λ l. length l) i.items in
    i.none r named (omega (arith, test, end, last, all)) is
