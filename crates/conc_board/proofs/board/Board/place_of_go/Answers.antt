use Rattle.std.proofs.Common.{◌≡◌, ◌∙◌, Option, arith, ap, inl, subst, sym}
use Rattle.conc_types.specs.declared.event.PlaceId.{PlaceId}
use Rattle.conc_types.specs.declared.plan.Plan.{Plan}
use Rattle.conc_pool_seats.specs.declared.views.LeadState.{LeadState}
use Rattle.conc_pool_seats.specs.declared.views.LeadState.TheVariants.{Gone}
use Rattle.conc_pool_seats.specs.declared.views.View.{View}
use Rattle.conc_pool_seats.specs.LeadStates.{WordFits, looked}
use Rattle.conc_pool_seats.specs.Steps.{HasPlace, LookFits, with_lead_state}
use Rattle.conc_pool_seats.proofs.LeadSteps.{looks}
use Rattle.conc_board.specs.Seats.{lead_state_of, plan_of}
use Rattle.conc_board.proofs.Leads.{adds_one, changes, lead_state_there, new_lead_state}
use Rattle.conc_board.proofs.StoppedSo.{gone_place, place_of_word}
use Rattle.conc_board.proofs.board.Board.place_of_go.Goals as goal

pub load-word-requires : goal.load-word-requires
load-word-requires c =
    let b = c.args.self.now in let q = c.requires.request in let word = c.request_word.ensures in
    (c.requires.lead.seat, omega (arith, b.words), looks b.table.shared.key _ _ _ c.request_word.result c.args.lead.now.leads (omega arith))

-- the load leaves the request in its lead state
loaded : (c : goal.After-place_named) → (let t = gone_place (lead_state_of c.args.lead.now c.args.r) c.requires.lead_state in
    c.load-word.new.seat.me.0 ≡ with_lead_state c.args.lead.now.seat.me.0 c.request_word.result (Gone t.0 t.1) c.load-word.result)
loaded c = let t = gone_place (lead_state_of c.args.lead.now c.args.r) c.requires.lead_state in
    let there = lead_state_there c.args.lead.now.seat.me.0.lead_states c.args.r c.request_word.result c.request_word.ensures c.requires.request.from_one in
    c.load-word.ensures.2.0 ∙ ap (λ (z : LeadState). with_lead_state c.args.lead.now.seat.me.0 c.request_word.result (looked z c.load-word.result) c.load-word.result) (there ∙ t.2)

pub returns-clause-lead : goal.returns-clause-lead
returns-clause-lead c = let t = gone_place (lead_state_of c.args.lead.now c.args.r) c.requires.lead_state in
    changes _ _ _ _ c.request_word.result (Gone t.0 t.1) c.load-word.result c.requires.lead c.requires.request c.request_word.ensures c.load-word.ensures.0 (loaded c) (inl (sym t.2)) tt

pub returns-clause-same : goal.returns-clause-same
returns-clause-same c = let t = gone_place (lead_state_of c.args.lead.now c.args.r) c.requires.lead_state in
    new_lead_state (plan_of c.args.self.now) c.args.r _ _ c.request_word.result (Gone t.0 t.1) c.load-word.result c.requires.lead.lead_states c.requires.request c.request_word.ensures (loaded c) ∙ sym t.2

pub returns-clause-place : goal.returns-clause-place
returns-clause-place c = let t = gone_place (lead_state_of c.args.lead.now c.args.r) c.requires.lead_state in
    let b = c.args.self.now in let n = c.load-word.result in
    let there = lead_state_there c.args.lead.now.seat.me.0.lead_states c.args.r c.request_word.result c.request_word.ensures c.requires.request.from_one ∙ t.2 in
    let named = place_of_word (plan_of b) t.0 c.place_named.result t.1 n (omega (arith, b.few_places, b.place_count))
    (subst (λ (z : Option Plan × LeadState). HasPlace z.0 (looked z.1 n)) (λ i. (c.requires.lead.plan i, there i)) c.load-word.ensures.2.2)
    (subst (λ (z : LeadState). LookFits (looked z n) n) there c.load-word.ensures.2.3) c.place_named.ensures in
    (t.1, t.2 ∙ ap (λ (z : PlaceId). Gone z t.1) named)

pub returns-clause-found : goal.returns-clause-found
returns-clause-found c = let t = gone_place (lead_state_of c.args.lead.now c.args.r) c.requires.lead_state in let n = c.load-word.result in
    let there = lead_state_there c.args.lead.now.seat.me.0.lead_states c.args.r c.request_word.result c.request_word.ensures c.requires.request.from_one ∙ t.2 in
    adds_one (WordFits (lead_state_of c.args.lead.now c.args.r)) _ c.request_word.result n _ _ c.request_word.ensures
    (subst (λ (z : LeadState). WordFits z n) (sym t.2) (subst (λ (z : LeadState). LookFits (looked z n) n) there c.load-word.ensures.2.3))
    (ap (λ (v : View). v.found) c.load-word.ensures.2.0)
