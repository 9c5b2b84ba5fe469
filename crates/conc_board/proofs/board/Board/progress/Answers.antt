use Rattle.std.proofs.Common.{◌≡◌, ◌∙◌, Option, arith, ap, subst, sym}
use Rattle.conc_types.specs.declared.plan.Plan.{Plan}
use Rattle.conc_pool_seats.specs.declared.views.LeadState.{LeadState}
use Rattle.conc_pool_seats.specs.declared.views.View.{View}
use Rattle.conc_pool_seats.specs.LeadStates.{WordFits, looked}
use Rattle.conc_pool_seats.specs.Steps.{HasPlace, LookFits, with_lead_state}
use Rattle.conc_pool_seats.proofs.LeadSteps.{looks}
use Rattle.conc_board.specs.Looks.{LooksOn}
use Rattle.conc_board.specs.Seats.{lead_state_of, plan_of}
use Rattle.conc_board.proofs.Leads.{adds_one, changes, lead_state_there, new_lead_state}
use Rattle.conc_board.proofs.LookedSo.{looked_goes_on, looked_settled}
use Rattle.conc_board.proofs.ProgressSo.{fits_before, looks_on, progress_so}
use Rattle.conc_board.proofs.board.Board.progress.Goals as goal

pub load-word-requires : goal.load-word-requires
load-word-requires c =
    let b = c.args.self.now in let q = c.requires.request in let word = c.request_word.ensures in
    (c.requires.lead.seat, omega (arith, b.words), looks b.table.shared.key _ _ _ c.request_word.result c.args.lead.now.leads (omega arith))

-- the view after the load
loaded : (c : goal.After-progress_by) → c.load-word.new.seat.me.0
    ≡ with_lead_state c.args.lead.now.seat.me.0 c.request_word.result (looked (lead_state_of c.args.lead.now c.args.r) c.load-word.result) c.load-word.result
loaded c =
    let there = lead_state_there c.args.lead.now.seat.me.0.lead_states c.args.r c.request_word.result c.request_word.ensures c.requires.request.from_one in
    c.load-word.ensures.2.0 ∙ ap (λ (z : LeadState). with_lead_state c.args.lead.now.seat.me.0 c.request_word.result (looked z c.load-word.result) c.load-word.result) there

-- what was found fits the lead state then
fits : (c : goal.After-progress_by) → LookFits (looked (lead_state_of c.args.lead.now c.args.r) c.load-word.result) c.load-word.result
fits c =
    let there = lead_state_there c.args.lead.now.seat.me.0.lead_states c.args.r c.request_word.result c.request_word.ensures c.requires.request.from_one in
    subst (λ (z : LeadState). LookFits (looked z c.load-word.result) c.load-word.result) there c.load-word.ensures.2.3

pub returns-clause-lead : goal.returns-clause-lead
returns-clause-lead c =
    let n = c.load-word.result in let st = lead_state_of c.args.lead.now c.args.r in
    changes _ _ _ _ c.request_word.result (looked st n) n c.requires.lead c.requires.request c.request_word.ensures c.load-word.ensures.0 (loaded c)
    (looked_goes_on st n) (looked_settled st n (c.requires.lead.settled c.args.r))

pub returns-clause-progress : goal.returns-clause-progress
returns-clause-progress c =
    let there = lead_state_there c.args.lead.now.seat.me.0.lead_states c.args.r c.request_word.result c.request_word.ensures c.requires.request.from_one in
    let b = c.args.self.now in let n = c.load-word.result in
    progress_so (plan_of b) (omega (arith, b.few_places, b.place_count)) n c.progress_by.result (lead_state_of c.args.lead.now c.args.r) (c.requires.lead.settled c.args.r)
    (subst (λ (z : Option Plan × LeadState). HasPlace z.0 (looked z.1 n)) (λ i. (c.requires.lead.plan i, there i)) c.load-word.ensures.2.2) (fits c) c.progress_by.ensures

pub returns-clause-lead_state : goal.returns-clause-lead_state
returns-clause-lead_state c =
    let n = c.load-word.result in
    let now = new_lead_state (plan_of c.args.self.now) c.args.r _ _ c.request_word.result (looked (lead_state_of c.args.lead.now c.args.r) n) n c.requires.lead.lead_states c.requires.request c.request_word.ensures (loaded c) in
    subst (LooksOn (lead_state_of c.args.lead.now c.args.r)) (sym now) (looks_on (lead_state_of c.args.lead.now c.args.r) n)

pub returns-clause-found : goal.returns-clause-found
returns-clause-found c =
    let n = c.load-word.result in let st = lead_state_of c.args.lead.now c.args.r in
    adds_one (WordFits st) _ c.request_word.result n _ _ c.request_word.ensures (fits_before st n (fits c)) (ap (λ (v : View). v.found) c.load-word.ensures.2.0)
