use Rattle.std.proofs.Common.{◌≡◌, false, reverse, sym, subst, ap, ◌∙◌}
use Rattle.conc_types.specs.declared.event.RequestId.{RequestId}
use Rattle.conc_types.specs.declared.plan.Plan.{Plan}
use Rattle.conc_types.specs.Plans.{request}
use Rattle.conc_base_law.specs.Facts.{facts_of}
use Rattle.conc_base_law.proofs.Comes.{same_request}
use Rattle.conc_base_law.proofs.Numbering.{numbered_plan}
use Rattle.conc_board.specs.Seats.{lead_state_of}
use Rattle.conc_pool_seats.specs.declared.views.LeadState.{LeadState}
use Rattle.conc_pool_seats.specs.Rule.{exclude}
use Rattle.conc_pool_seats.specs.LeadStates.{IsGone, IsLetOrGone}
use Rattle.conc_pool_seats.specs.Words.{IsRequest}
use Rattle.conc_run_steps.specs.Steps.{plan_in, readings_in}
use Rattle.conc_run_steps.proofs.Coming.{lawful-past}
use Rattle.conc_run_state.specs.Works.{list_in}
use Rattle.conc_run_desk.specs.Desks.{IsLetIn, plan_at}
use Rattle.conc_run_desk.specs.State.{DeskState}
use Rattle.conc_run_desk.specs.Ties.{GoesWith, WaitsToStart}
use Rattle.conc_run_desk.proofs.Apart.{apart}
use Rattle.conc_run_desk.proofs.Moves.{moved}
use Rattle.conc_run_desk.proofs.Named.{of_plan}
use Rattle.conc_run_desk.proofs.desk.Desk.release.Goals as goal

pub let_out-requires-clause-request : goal.let_out-requires-clause-request
let_out-requires-clause-request c =
    let out = subst (λ (d : DeskState). IsLetIn d c.args.r) (sym c.self.view_is) c.requires.let_out in let is = c.requires.at.plan ∙ ap plan_at (sym c.self.view_is) in let plan = plan_in c.self.inside.work in
    subst (λ (p : Plan). IsRequest p c.args.r) (sym is) (of_plan plan c.args.r out.req (ap (request plan) (sym out.number) ∙ numbered_plan plan out.req out.there))

pub let_out-requires-clause-apart : goal.let_out-requires-clause-apart
let_out-requires-clause-apart c =
    let out = subst (λ (d : DeskState). IsLetIn d c.args.r) (sym c.self.view_is) c.requires.let_out in let is = c.requires.at.plan ∙ ap plan_at (sym c.self.view_is) in let work = c.self.inside.work in let plan = plan_in work in let parts = c.self.invariant.parts in
    let past = lawful-past plan work.machine (readings_in work) (list_in work) parts.readings_are parts.lawful in
    subst (λ (p : Plan). (q : RequestId) → IsLetOrGone (lead_state_of c.self.inside.lead q) → exclude p c.args.r q ≡ false) (sym is)
    (apart plan (reverse (list_in work)) past c.self.inside.lead c.self.invariant.tied out.req out.there out.waits c.args.r out.number)

pub invariant_of-self : goal.invariant_of-self
invariant_of-self c =
    let out = subst (λ (d : DeskState). IsLetIn d c.args.r) (sym c.self.view_is) c.requires.let_out in let is = c.requires.at.plan ∙ ap plan_at (sym c.self.view_is) in let work = c.self.inside.work in let plan = plan_in work in
    moved c.args.board.now c.args.r work c.self.inside.kept c.self.inside.lead c.let_out.new.lead c.let_out.ensures.lead c.self.inside.plan.now is c.self.invariant
    (λ x hx e. subst (λ (z : LeadState). GoesWith z (facts_of plan (reverse (list_in work)) x)) (sym c.let_out.ensures.lead_state)
    (subst (λ q. WaitsToStart (facts_of plan (reverse (list_in work)) q)) (same_request plan out.req x out.there hx (out.number ∙ sym e)) out.waits))
    (λ now. absurd (subst (λ (z : LeadState). IsGone z) c.let_out.ensures.lead_state now))
