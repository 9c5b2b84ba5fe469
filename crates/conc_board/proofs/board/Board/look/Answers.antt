use Rattle.std.proofs.Common.{◌∙◌, Option, arith, ap, subst, sym}
use Rattle.conc_types.specs.declared.plan.Plan.{Plan}
use Rattle.conc_pool_seats.specs.declared.views.LeadState.{LeadState}
use Rattle.conc_pool_seats.specs.declared.views.View.{View}
use Rattle.conc_pool_seats.specs.LeadStates.{looked}
use Rattle.conc_pool_seats.specs.Steps.{HasPlace, LookFits, with_lead_state}
use Rattle.conc_pool_seats.proofs.LeadSteps.{looks}
use Rattle.conc_board.specs.Looks.{Looks, Shows}
use Rattle.conc_board.specs.Seats.{lead_state_of, plan_of}
use Rattle.conc_board.proofs.Leads.{adds_one, changes, lead_state_there, new_lead_state}
use Rattle.conc_board.proofs.LookedSo.{looked_goes_on, looked_settled, looked_so}
use Rattle.conc_board.proofs.board.Board.look.Goals as goal

pub load-word-requires : goal.load-word-requires
load-word-requires c =
    let b = c.args.self.now in let q = c.requires.request in let word = c.request_word.ensures in
    (c.requires.lead.seat, omega (arith, b.words), looks b.table.shared.key _ _ _ c.request_word.result c.args.lead.now.leads (omega arith))

pub returns-clause-lead : goal.returns-clause-lead
returns-clause-lead c =
    let there = lead_state_there c.args.lead.now.seat.me.0.lead_states c.args.r c.request_word.result c.request_word.ensures c.requires.request.from_one in
    let n = c.load-word.result in
    changes _ _ _ _ c.request_word.result (looked (lead_state_of c.args.lead.now c.args.r) n) n c.requires.lead c.requires.request c.request_word.ensures c.load-word.ensures.0
    (c.load-word.ensures.2.0 ∙ ap (λ (z : LeadState). with_lead_state c.args.lead.now.seat.me.0 c.request_word.result (looked z n) n) there)
    (looked_goes_on (lead_state_of c.args.lead.now c.args.r) n) (looked_settled (lead_state_of c.args.lead.now c.args.r) n (c.requires.lead.settled c.args.r))

pub returns-clause-lead_state : goal.returns-clause-lead_state
returns-clause-lead_state c =
    let there = lead_state_there c.args.lead.now.seat.me.0.lead_states c.args.r c.request_word.result c.request_word.ensures c.requires.request.from_one in
    let n = c.load-word.result in let b = c.args.self.now in let plan = plan_of b in let leaves = c.load-word.ensures.2 in
    let now = new_lead_state plan c.args.r c.args.lead.now.seat.me.0 c.load-word.new.seat.me.0 c.request_word.result (looked (lead_state_of c.args.lead.now c.args.r) n) n c.requires.lead.lead_states c.requires.request c.request_word.ensures
    (leaves.0 ∙ ap (λ (z : LeadState). with_lead_state c.args.lead.now.seat.me.0 c.request_word.result (looked z n) n) there) in
    let so = looked_so plan (omega (arith, b.few_places, b.place_count)) n c.looked_by.result (lead_state_of c.args.lead.now c.args.r) c.requires.lead_state
    (subst (λ (z : Option Plan × LeadState). HasPlace z.0 (looked z.1 n)) (λ i. (c.requires.lead.plan i, there i)) leaves.2)
    (subst (λ (z : LeadState). LookFits (looked z n) n) there leaves.3) c.looked_by.ensures in
    subst (Looks plan c.looked_by.result (lead_state_of c.args.lead.now c.args.r)) (sym now) so.0

pub returns-clause-found : goal.returns-clause-found
returns-clause-found c =
    let there = lead_state_there c.args.lead.now.seat.me.0.lead_states c.args.r c.request_word.result c.request_word.ensures c.requires.request.from_one in
    let n = c.load-word.result in let b = c.args.self.now in let plan = plan_of b in let leaves = c.load-word.ensures.2 in
    let so = looked_so plan (omega (arith, b.few_places, b.place_count)) n c.looked_by.result (lead_state_of c.args.lead.now c.args.r) c.requires.lead_state
    (subst (λ (z : Option Plan × LeadState). HasPlace z.0 (looked z.1 n)) (λ i. (c.requires.lead.plan i, there i)) leaves.2)
    (subst (λ (z : LeadState). LookFits (looked z n) n) there leaves.3) c.looked_by.ensures in
    adds_one (Shows c.looked_by.result) _ c.request_word.result n _ _ c.request_word.ensures so.1 (ap (λ (v : View). v.found) leaves.0)
