use Rattle.std.proofs.Common.{◌∷◌, ◌++◌, [], List, None, Some, length, reverse, sym, ◌∙◌, ap, subst}
use Rattle.conc_run_state.specs.Adding.{AddsRecords}
use Rattle.conc_types.specs.declared.event.Event.{Event}
use Rattle.conc_types.specs.declared.plan.Plan.{Plan}
use Rattle.conc_journal.specs.Journals.{IsOn as JournalIsOn}
use Rattle.conc_base_law.specs.Law.{Lawful}
use Rattle.conc_base_law.proofs.Positions.{reverse-push}
use Rattle.conc_run_state.specs.Works.{list_in}
use Rattle.conc_run_steps.specs.Steps.{plan_in, readings_in, SurvivesFor}
use Rattle.conc_run_desk.specs.Following.{Follows}
use Rattle.conc_run_desk.specs.Ties.{LeadStatesGoWith}
use Rattle.conc_run_desk.proofs.After.{tied_after}
use Rattle.conc_run_desk.specs.Desks.{list_at, plan_at}
use Rattle.conc_run_desk.specs.Logging.{IsItsTurn}
use Rattle.conc_run_desk.specs.State.{DeskState}
use Rattle.conc_run_desk.proofs.Logged.{may_come_now, none_gone_ends, off_journal, spelled, to_log}
use Rattle.conc_run_desk.proofs.Moves.{seated}
use Rattle.conc_run_desk.proofs.desk.Desk.log_event.Goals as goal

pub add_event-requires-clause-tied : goal.add_event-requires-clause-tied
add_event-requires-clause-tied g c =
    let journal = g.D.Disk.state c.args.journal.now in
    to_log c.self.inside.work c.args.event c.self.inside.kept journal
    (subst (λ (d : DeskState). IsItsTurn d.kept c.args.event) (sym c.self.view_is) c.requires.turn) c.self.invariant.parts
    (subst (λ (d : DeskState). JournalIsOn d.work.journal journal) (sym c.self.view_is) c.requires.on)

pub add_event-requires-clause-spelled : goal.add_event-requires-clause-spelled
add_event-requires-clause-spelled g c =
    let journal = g.D.Disk.state c.args.journal.now in
    spelled c.self.inside.work c.args.event journal
    (to_log c.self.inside.work c.args.event c.self.inside.kept journal
    (subst (λ (d : DeskState). IsItsTurn d.kept c.args.event) (sym c.self.view_is) c.requires.turn) c.self.invariant.parts
    (subst (λ (d : DeskState). JournalIsOn d.work.journal journal) (sym c.self.view_is) c.requires.on))
    (subst (λ (d : DeskState). Lawful (plan_at d) (readings_in d.work) (list_at d ++ c.args.event ∷ [])) (sym c.self.view_is) c.requires.lawful)

pub returns-in_err-receipt-clause-survives : goal.returns-in_err-receipt-clause-survives
returns-in_err-receipt-clause-survives g c =
    let old = g.D.Disk.state c.args.journal.now in let new = g.D.Disk.state c.add_event.new.journal in
    subst (λ (d : DeskState). SurvivesFor d.work (list_at d) (list_at d ++ c.args.event ∷ []) old new) c.self.view_is c.add_event.ensures.survives

pub returns-clause-survives : goal.returns-clause-survives
returns-clause-survives g c =
    let old = g.D.Disk.state c.args.journal.now in let new = g.D.Disk.state c.add_event.new.journal in
    subst (λ (d : DeskState). SurvivesFor d.work (list_at d) (list_at d ++ c.args.event ∷ []) old new) c.self.view_is c.add_event.ensures.survives

pub returns-clause-written : goal.returns-clause-written
returns-clause-written g c =
    let old = g.D.Disk.state c.args.journal.now in let new = g.D.Disk.state c.add_event.new.journal in
    subst (λ (d : DeskState). AddsRecords (plan_at d) (length (list_at d)) (c.args.event ∷ []) old new) c.self.view_is c.in_ok-receipt.ensures.written

pub invariant_of-self-2 : goal.invariant_of-self-2
invariant_of-self-2 g c =
    let old = c.self.inside.work in let new = c.add_event.new.work in let e = c.args.event in
    let lead = c.self.inside.lead in let lead' = c.follow.new.lead in
    let desk = c.self.invariant in
    let lawful = subst (λ (d : DeskState). Lawful (plan_at d) (readings_in d.work) (list_at d ++ e ∷ [])) (sym c.self.view_is) c.requires.lawful in
    let turn = subst (λ (d : DeskState). IsItsTurn d.kept e) (sym c.self.view_is) c.requires.turn in
    let follows = subst (λ (p : Plan). Follows p e lead lead') desk.plan_is c.follow.ensures.follows in
    let after = tied_after (plan_in old) (Some (readings_in old)) (reverse (list_in old)) e lead lead' (may_come_now (plan_in old) (readings_in old) (list_in old) e lawful)
    c.requires.no_resume desk.seated.settled (none_gone_ends c.self.inside.kept old lead e desk.may_be_kept turn) desk.tied follows in
    record {
      plan_is = desk.plan_is ∙ sym c.add_event.ensures.plan;
      seated = seated c.args.board.now (plan_in new) lead' (c.requires.at.plan ∙ (ap plan_at (sym c.self.view_is) ∙ sym c.add_event.ensures.plan)) c.follow.ensures.lead;
      parts = off_journal new e None (g.D.Disk.state c.add_event.new.journal) c.in_ok-receipt.ensures.logged;
      tied = subst (λ (z : Plan × List Event). LeadStatesGoWith z.0 z.1 lead')
          (λ i. (sym c.add_event.ensures.plan i, sym (ap reverse c.in_ok-receipt.ensures.added ∙ reverse-push (list_in old) e) i)) after;
      may_be_kept = tt;
    }
