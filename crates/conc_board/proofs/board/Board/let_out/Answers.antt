use Rattle.std.proofs.Common.{◌∙◌, arith, ap, inr, refl, subst, sym}
use Rattle.conc_types.specs.declared.event.RequestId.{RequestId}
use Rattle.conc_pool_seats.specs.declared.views.LeadState.{LeadState}
use Rattle.conc_pool_seats.specs.declared.views.LeadState.TheVariants.{Let}
use Rattle.conc_pool_seats.specs.declared.views.View.{View}
use Rattle.conc_pool_seats.specs.Courses.{GoesOn}
use Rattle.conc_pool_seats.specs.Rule.{exclude}
use Rattle.conc_pool_seats.specs.LeadStates.{IsLive, WordFits}
use Rattle.conc_pool_seats.specs.Words.{request_of}
use Rattle.conc_pool_seats.proofs.LeadSteps.{lets_out}
use Rattle.conc_board.specs.Seats.{lead_state_of}
use Rattle.conc_board.proofs.Leads.{adds_one, changes, lead_state_in-word, lead_state_there, let_or_gone, new_lead_state, request_there}
use Rattle.conc_board.proofs.board.Board.let_out.Goals as goal

pub swap-requires : goal.swap-requires
swap-requires c =
    let b = c.args.self.now in let plan = b.table.shared.key in let q = c.requires.request in
    let word = c.request_word.ensures in let ss = c.args.lead.now.seat.me.0.lead_states in (
      c.requires.lead.seat,
      omega (arith, b.words),
      lets_out plan _ _ _ c.request_word.result c.args.lead.now.leads (omega arith)
          (lead_state_there ss c.args.r c.request_word.result word q.from_one ∙ c.requires.lead_state)
          (λ j live. ap (λ (z : RequestId). exclude plan z (request_of j)) (request_there c.args.r c.request_word.result word q.from_one)
          ∙ c.requires.apart (request_of j) (let_or_gone (lead_state_of c.args.lead.now (request_of j)) (c.requires.lead.settled (request_of j)) (subst IsLive (sym (lead_state_in-word ss j)) live))),
    )

pub returns : goal.returns
returns c = record {
  lead = changes _ _ _ _ c.request_word.result Let c.swap.result c.requires.lead c.requires.request c.request_word.ensures c.swap.ensures.0 c.swap.ensures.2.0
      (subst (λ (z : LeadState). GoesOn z Let) (sym c.requires.lead_state) (inr refl)) tt;
  lead_state = new_lead_state _ c.args.r _ _ c.request_word.result Let c.swap.result c.requires.lead.lead_states c.requires.request c.request_word.ensures c.swap.ensures.2.0;
  found = adds_one (WordFits (lead_state_of c.args.lead.now c.args.r)) _ c.request_word.result c.swap.result _ _ c.request_word.ensures
      (subst (λ (z : LeadState). WordFits z c.swap.result) (sym c.requires.lead_state) c.swap.ensures.2.2) (ap (λ (v : View). v.found) c.swap.ensures.2.0);
}
