use Rattle.std.proofs.Common.{arith, ap, subst, sym}
use Rattle.conc_pool_seats.specs.declared.views.LeadState.{LeadState}
use Rattle.conc_pool_seats.specs.declared.views.LeadState.TheVariants.{NotLet}
use Rattle.conc_pool_seats.specs.declared.views.View.{View}
use Rattle.conc_pool_seats.specs.LeadStates.{IsLet, WordFits}
use Rattle.conc_pool_seats.proofs.LeadSteps.{withdraws}
use Rattle.conc_board.specs.Seats.{lead_state_of}
use Rattle.conc_board.proofs.Leads.{adds_one, changes, lead_state_there, new_lead_state}
use Rattle.conc_board.proofs.LookedSo.{back_goes_on}
use Rattle.conc_board.proofs.board.Board.back.Goals as goal

pub swap-requires : goal.swap-requires
swap-requires c =
    let b = c.args.self.now in let q = c.requires.request in let word = c.request_word.ensures in (
      c.requires.lead.seat,
      omega (arith, b.words),
      withdraws b.table.shared.key _ _ _ c.request_word.result c.args.lead.now.leads (omega arith)
          (subst IsLet (sym (lead_state_there c.args.lead.now.seat.me.0.lead_states c.args.r c.request_word.result word q.from_one)) c.requires.lead_state),
    )

pub returns : goal.returns
returns c = record {
  lead = changes _ _ _ _ c.request_word.result NotLet c.swap.result c.requires.lead c.requires.request c.request_word.ensures c.swap.ensures.0 c.swap.ensures.2.0
      (back_goes_on (lead_state_of c.args.lead.now c.args.r) c.requires.lead_state) tt;
  lead_state = new_lead_state _ c.args.r _ _ c.request_word.result NotLet c.swap.result c.requires.lead.lead_states c.requires.request c.request_word.ensures c.swap.ensures.2.0;
  found = adds_one (WordFits (lead_state_of c.args.lead.now c.args.r)) _ c.request_word.result c.swap.result _ _ c.request_word.ensures
      (subst (λ (z : LeadState). WordFits z c.swap.result) (lead_state_there c.args.lead.now.seat.me.0.lead_states c.args.r c.request_word.result c.request_word.ensures c.requires.request.from_one) c.swap.ensures.2.2)
      (ap (λ (v : View). v.found) c.swap.ensures.2.0);
}
