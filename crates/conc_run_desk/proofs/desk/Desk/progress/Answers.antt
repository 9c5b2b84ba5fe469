use Rattle.std.proofs.Common.{◌∙◌, ap, reverse, subst, sym}
use Rattle.conc_types.specs.declared.event.RequestId.{RequestId}
use Rattle.conc_base_law.specs.Facts.{facts_of}
use Rattle.conc_board.specs.Seats.{lead_state_of}
use Rattle.conc_run_steps.specs.Steps.{plan_in}
use Rattle.conc_run_state.specs.Works.{list_in}
use Rattle.conc_run_desk.specs.Desks.{plan_at}
use Rattle.conc_run_desk.specs.Ties.{GoesWith}
use Rattle.conc_run_desk.proofs.Moves.{load_goes, load_gone, moved}
use Rattle.conc_run_desk.proofs.desk.Desk.progress.Goals as goal

pub invariant_of-self : goal.invariant_of-self
invariant_of-self c =
    let old = c.self.inside.lead in let new = c.progress.new.lead in let work = c.self.inside.work in let r = c.args.r in
    moved c.args.board.now r work c.self.inside.kept old new c.progress.ensures.lead c.self.inside.plan.now (c.requires.at.plan ∙ ap plan_at (sym c.self.view_is)) c.self.invariant
    (λ x hx e. load_goes (lead_state_of old r) (lead_state_of new r) (facts_of (plan_in work) (reverse (list_in work)) x) c.progress.ensures.lead_state
    (subst (λ (z : RequestId). GoesWith (lead_state_of old z) (facts_of (plan_in work) (reverse (list_in work)) x)) e (c.self.invariant.tied.each x hx)))
    (load_gone (lead_state_of old r) (lead_state_of new r) c.progress.ensures.lead_state)
