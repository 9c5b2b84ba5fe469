use Rattle.std.proofs.Common.{◌≡◌, true, false, reverse, None, Some, Ok, Err, refl, sym, ◌∙◌, ap, subst}
use Rattle.conc_types.specs.declared.plan.Plan.{Plan}
use Rattle.conc_journal.specs.Journals.{list_of}
use Rattle.conc_journal.specs.declared.journal.Journal.{Journal}
use Rattle.conc_run_state.specs.Machines.{Machine, plan_of}
use Rattle.conc_run_state.specs.Works.{HasPendingText, list_in}
use Rattle.conc_run_steps.specs.Steps.{plan_in}
use Rattle.conc_run_desk.specs.Desks.{plan_at}
use Rattle.conc_run_desk.specs.Keeping.{forced_at, IsReady, IsTaken, MakesOf, must_stop}
use Rattle.conc_run_desk.specs.State.{DeskState}
use Rattle.conc_run_desk.specs.declared.keeping.KeepFail.TheVariants as fails
use Rattle.conc_run_desk.specs.declared.keeping.Kept.TheVariants as keeps
use Rattle.conc_run_desk.proofs.Taken.{answers-fault, answers-ready, desk_with, is_left, its_end, lawful_with}
use Rattle.conc_run_desk.proofs.desk.Desk.keep.Goals as goal

pub end_left-requires-clause-left : goal.end_left-requires-clause-left
end_left-requires-clause-left g c =
    let is = c.requires.at.plan ∙ ap plan_at (sym c.self.view_is) in
    let none = ap (λ (d : DeskState). d.kept) c.self.view_is ∙ c.requires.nothing_kept in
    is_left c.args.board.now c.self.inside.plan.now c.self.inside.work c.self.inside.kept c.self.inside.lead c.collect.new.lead c.args.r c.in-Ok.posted is c.self.invariant none
    c.requires.request c.collect.ensures.lead c.in-Ok.ensures.collected c.in-Ok.ensures.posted

pub store_text-requires-clause-lawful : goal.store_text-requires-clause-lawful
store_text-requires-clause-lawful g c =
    let is = c.requires.at.plan ∙ ap plan_at (sym c.self.view_is) in
    let none = ap (λ (d : DeskState). d.kept) c.self.view_is ∙ c.requires.nothing_kept in
    let calm = subst (λ (d : DeskState). forced_at d ≡ None) (sym c.self.view_is) c.requires.nothing_forced in
    lawful_with c.args.board.now c.self.inside.plan.now c.self.inside.work c.self.inside.kept c.self.inside.lead c.collect.new.lead c.args.r c.in-Ok.posted is c.self.invariant none
    c.requires.request c.collect.ensures.lead c.in-Ok.ensures.collected c.in-Ok.ensures.posted c.in-Some.next.event calm c.in-Some.ensures.event

pub invariant_of-self-in-Ok-store_text : goal.invariant_of-self-in-Ok-store_text
invariant_of-self-in-Ok-store_text g c =
    let is = c.requires.at.plan ∙ ap plan_at (sym c.self.view_is) in
    let none = ap (λ (d : DeskState). d.kept) c.self.view_is ∙ c.requires.nothing_kept in
    let calm = subst (λ (d : DeskState). forced_at d ≡ None) (sym c.self.view_is) c.requires.nothing_forced in
    desk_with c.args.board.now c.self.inside.plan.now c.self.inside.work c.self.inside.kept c.self.inside.lead c.collect.new.lead c.args.r c.in-Ok.posted is c.self.invariant none
    c.requires.request c.collect.ensures.lead c.in-Ok.ensures.collected c.in-Ok.ensures.posted c.in-Some.next.event calm c.in-Some.ensures.event
    c.store_text.new.work (g.E.Disk.state c.store_text.new.spool) c.store_text.ensures.machine c.store_text.ensures.journal c.in-Ok-store_text.ensures.pending

pub returns-in-Ok-store_text-clause-takes : goal.returns-in-Ok-store_text-clause-takes
returns-in-Ok-store_text-clause-takes g c =
    let past = reverse (list_in c.self.inside.work) in
    let makes = subst (λ (p : Plan). MakesOf (must_stop p past c.args.r) c.in-Ok.posted (Some c.in-Some.next)) c.self.invariant.plan_is c.in-Some.ensures.makes in
    subst (λ (d : DeskState). IsTaken c.args.board.now c.args.r (Ok (keeps.Ready c.in-Some.next.event)) d
    (record { plan = c.self.inside.plan.now; lead = c.collect.new.lead; work = c.store_text.new.work; kept = Some c.in-Some.next.event; begun_with = c.self.inside.begun_with; failed = c.self.inside.failed })) c.self.view_is
    (record {
      posted = c.in-Ok.posted;
      left = c.in-Ok.ensures.posted;
      collects = c.in-Ok.ensures.collected;
      taken = c.in-Ok.ensures.taken;
      answers = answers-ready (must_stop (plan_in c.self.inside.work) past c.args.r) c.in-Ok.posted c.in-Some.next c.in-Some.next.event makes;
    })

pub returns-in-Ok-store_text-clause-keeps : goal.returns-in-Ok-store_text-clause-keeps
returns-in-Ok-store_text-clause-keeps g c =
    let is = c.requires.at.plan ∙ ap plan_at (sym c.self.view_is) in
    let none = ap (λ (d : DeskState). d.kept) c.self.view_is ∙ c.requires.nothing_kept in
    let calm = subst (λ (d : DeskState). forced_at d ≡ None) (sym c.self.view_is) c.requires.nothing_forced in
    let e = c.in-Some.next.event in
    let spool = g.E.Disk.state c.store_text.new.spool in
    subst (λ (d : DeskState). IsReady e c.args.r d
    (record { plan = c.self.inside.plan.now; lead = c.collect.new.lead; work = c.store_text.new.work; kept = Some e; begun_with = c.self.inside.begun_with; failed = c.self.inside.failed })
    (g.E.Disk.state c.args.spool.now) spool) c.self.view_is
    (record {
      kept = refl;
      is_end = its_end c.args.board.now c.self.inside.plan.now c.self.inside.work c.self.inside.kept c.self.inside.lead c.collect.new.lead c.args.r c.in-Ok.posted is c.self.invariant none
          c.requires.request c.collect.ensures.lead c.in-Ok.ensures.collected c.in-Ok.ensures.posted e calm c.in-Some.ensures.event;
      lawful = lawful_with c.args.board.now c.self.inside.plan.now c.self.inside.work c.self.inside.kept c.self.inside.lead c.collect.new.lead c.args.r c.in-Ok.posted is c.self.invariant none
          c.requires.request c.collect.ensures.lead c.in-Ok.ensures.collected c.in-Ok.ensures.posted e calm c.in-Some.ensures.event;
      text = subst (λ (z : Machine × Journal). HasPendingText (plan_of z.0) (list_of z.1) spool (Some e)) (λ i. (c.store_text.ensures.machine i, c.store_text.ensures.journal i)) c.in-Ok-store_text.ensures.pending.pending_text;
      stores = c.in-Ok-store_text.ensures.stored;
    })

pub returns-clause-takes : goal.returns-clause-takes
returns-clause-takes g c =
    let past = reverse (list_in c.self.inside.work) in
    let makes = subst (λ (p : Plan). MakesOf (must_stop p past c.args.r) c.in-Ok.posted (Some c.in-Some.next)) c.self.invariant.plan_is c.in-Some.ensures.makes in
    subst (λ (d : DeskState). IsTaken c.args.board.now c.args.r (Err fails.SpoolFault) d
    (record { plan = c.self.inside.plan.now; lead = c.collect.new.lead; work = c.store_text.new.work; kept = c.self.inside.kept; begun_with = c.self.inside.begun_with; failed = true })) c.self.view_is
    (record {
      posted = c.in-Ok.posted;
      left = c.in-Ok.ensures.posted;
      collects = c.in-Ok.ensures.collected;
      taken = c.in-Ok.ensures.taken;
      answers = answers-fault (must_stop (plan_in c.self.inside.work) past c.args.r) c.in-Ok.posted c.in-Some.next makes (λ none. let never : false ≡ true = (c.in-Err.ensures.without_text none).0 in absurd (cc));
    })
