use Rattle.std.proofs.Common.{◌∙◌, ap, reverse, subst, sym}
use Rattle.conc_types.specs.declared.event.RequestId.{RequestId}
use Rattle.conc_base_law.specs.Facts.{facts_of}
use Rattle.conc_board.specs.Seats.{lead_state_of, plan_of}
use Rattle.conc_run_steps.specs.Steps.{plan_in}
use Rattle.conc_run_state.specs.Works.{list_in}
use Rattle.conc_run_desk.specs.Desks.{plan_at}
use Rattle.conc_run_desk.specs.Ties.{GoesWith}
use Rattle.conc_run_desk.proofs.Moves.{look_goes, look_gone, moved}
use Rattle.conc_run_desk.proofs.desk.Desk.look.Goals as goal

pub invariant_of-self : goal.invariant_of-self
invariant_of-self c =
    let old = c.self.inside.lead in let new = c.look.new.lead in let work = c.self.inside.work in let plan = plan_of c.args.board.now in
    moved c.args.board.now c.args.r work c.self.inside.kept old new c.look.ensures.lead c.self.inside.plan.now (c.requires.at.plan ∙ ap plan_at (sym c.self.view_is)) c.self.invariant
    (λ x hx e. look_goes plan c.look.result (lead_state_of old c.args.r) (lead_state_of new c.args.r) (facts_of (plan_in work) (reverse (list_in work)) x) c.look.ensures.lead_state
    (subst (λ (z : RequestId). GoesWith (lead_state_of old z) (facts_of (plan_in work) (reverse (list_in work)) x)) e (c.self.invariant.tied.each x hx)))
    (look_gone plan c.look.result (lead_state_of old c.args.r) (lead_state_of new c.args.r) c.look.ensures.lead_state)
