use Rattle.std.proofs.Common.{◌≡◌, ◌∙◌, arith, ap, false, inr, refl, subst, sym}
use Rattle.conc_pool_seats.specs.declared.views.LeadState.{LeadState}
use Rattle.conc_pool_seats.specs.declared.views.LeadState.TheVariants.{Gone, Seen}
use Rattle.conc_pool_seats.specs.declared.views.View.{View}
use Rattle.conc_pool_seats.specs.Courses.{GoesOn}
use Rattle.conc_pool_seats.specs.LeadStates.{WordFits, gone, lead_state_at}
use Rattle.conc_pool_seats.specs.Steps.{with_lead_state}
use Rattle.conc_pool_seats.proofs.LeadSteps.{goes_by}
use Rattle.conc_board.specs.Seats.{lead_state_of}
use Rattle.conc_board.proofs.Leads.{adds_one, changes, lead_state_there, new_lead_state}
use Rattle.conc_board.proofs.board.Board.go.Goals as goal

-- the lead has seen the claim of this place
seen : (c : goal.After-running) → lead_state_at c.args.lead.now.seat.me.0.lead_states c.request_word.result ≡ Seen c.args.place
seen c = lead_state_there c.args.lead.now.seat.me.0.lead_states c.args.r c.request_word.result c.request_word.ensures c.requires.request.from_one ∙ c.requires.lead_state

pub swap-requires : goal.swap-requires
swap-requires c =
    let b = c.args.self.now in let q = c.requires.request in let word = c.request_word.ensures in (
      c.requires.lead.seat,
      omega (arith, b.words),
      goes_by b.table.shared.key _ _ _ c.request_word.result c.args.place c.running.result c.running.ensures c.args.lead.now.leads (omega arith) (seen c),
    )

pub returns : goal.returns
returns c = record {
  lead = changes _ _ _ _ c.request_word.result (Gone c.args.place false) c.swap.result c.requires.lead c.requires.request c.request_word.ensures c.swap.ensures.0
      (c.swap.ensures.2.0 ∙ ap (λ (z : LeadState). with_lead_state c.args.lead.now.seat.me.0 c.request_word.result (gone z) c.swap.result) (lead_state_there c.args.lead.now.seat.me.0.lead_states c.args.r c.request_word.result c.request_word.ensures c.requires.request.from_one ∙ c.requires.lead_state))
      (subst (λ (z : LeadState). GoesOn z (Gone c.args.place false)) (sym c.requires.lead_state) (inr (inr refl))) tt;
  lead_state = new_lead_state _ c.args.r _ _ c.request_word.result (Gone c.args.place false) c.swap.result c.requires.lead.lead_states c.requires.request c.request_word.ensures
      (c.swap.ensures.2.0 ∙ ap (λ (z : LeadState). with_lead_state c.args.lead.now.seat.me.0 c.request_word.result (gone z) c.swap.result) (lead_state_there c.args.lead.now.seat.me.0.lead_states c.args.r c.request_word.result c.request_word.ensures c.requires.request.from_one ∙ c.requires.lead_state));
  found = adds_one (WordFits (lead_state_of c.args.lead.now c.args.r)) _ c.request_word.result c.swap.result _ _ c.request_word.ensures
      (subst (λ (z : LeadState). WordFits z c.swap.result) (lead_state_there c.args.lead.now.seat.me.0.lead_states c.args.r c.request_word.result c.request_word.ensures c.requires.request.from_one) c.swap.ensures.2.2)
      (ap (λ (v : View). v.found) c.swap.ensures.2.0);
}
