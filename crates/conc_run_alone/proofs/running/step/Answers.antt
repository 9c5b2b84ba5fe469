use Rattle.std.proofs.Common.{◌≡◌, ◌∷◌, ◌++◌, [], ℕ, List, Option, false, reverse, Some, refl, sym, ◌∙◌, ap}
use Rattle.std.specs.Option.{option_map}
use Rattle.std.specs.Prelude.{unwrap_or}
use Rattle.conc_types.specs.declared.event.Event.{Event}
use Rattle.conc_types.specs.declared.event.Event.TheVariants as event
use Rattle.conc_types.specs.declared.plan.Plan.{Plan}
use Rattle.conc_base_law.specs.Kinds.{is_resume}
use Rattle.conc_run_choice.specs.Choices.{event_of, HasItsText}
use Rattle.conc_base_law.proofs.Finishes.{next_alone-none}
use Rattle.conc_journal.specs.Journals.{list_of}
use Rattle.conc_journal.specs.declared.journal.Journal.{Journal}
use Rattle.conc_run_state.specs.Machines.{Machine, plan_of, readings_of}
use Rattle.conc_run_state.specs.Works.{list_in, longest_in}
use Rattle.conc_run_state.specs.declared.work.Work.{Work}
use Rattle.conc_run_steps.specs.Going.{TellsReport}
use Rattle.conc_run_steps.specs.Steps.{next_in, plan_in, readings_in}
use Rattle.conc_run_steps.proofs.Coming.{lawful-past, may-log}
use Rattle.conc_base_law.proofs.AloneLawful.{next_alone-follows}
use Rattle.conc_run_steps.proofs.Stepping.{longest-logged, longest-unlogged, ready-logged, went-logged, went-unlogged, went-unstored}
use Rattle.conc_run_steps.proofs.Underway.{went-still}
use Rattle.conc_run_alone.proofs.Following.{follows-one, follows-still, less-left}
use Rattle.conc_run_alone.proofs.Turning.{turn-unstored, turn-logged, turn-still}
use Rattle.conc_run_alone.proofs.running.step.Goals as goal

no-resume : (work : Work) (e : Event) → next_in work ≡ Some e → is_resume e ≡ false
no-resume work e next = (next_alone-follows (plan_in work) (readings_in work) (reverse (list_in work)) e next).0

tells-report : (plan : Plan) (e : Event) (text : Option (List ℕ)) → HasItsText plan e text → TellsReport plan e
tells-report plan (event.Ended id o (Some x)) text stored = stored.0
tells-report plan e text stored = tt

pub store_text-requires-clause-lawful : goal.store_text-requires-clause-lawful
store_text-requires-clause-lawful g c =
    let next : next_in c.args.work.now ≡ Some c.in-Some.next.event = sym c.in_ok-next.ensures.event ∙ ap (option_map event_of) c.in-Some.is in
    (may-log c.args.work.now c.in-Some.next.event c.in-Some.next.text (g.D.Disk.state c.args.journal.now) (g.E.Disk.state c.args.spool.now) c.requires.ready next (c.in_ok-next.ensures.text c.in-Some.next c.in-Some.is)).lawful

pub log_event-requires-clause-may : goal.log_event-requires-clause-may
log_event-requires-clause-may g c =
    c.store_text.ensures.may (may-log c.args.work.now c.in-Some.next.event c.in-Some.next.text (g.D.Disk.state c.args.journal.now) (g.E.Disk.state c.args.spool.now) c.requires.ready (sym c.in_ok-next.ensures.event ∙ ap (option_map event_of) c.in-Some.is) (c.in_ok-next.ensures.text c.in-Some.next c.in-Some.is))

pub returns-in_err-store_text-in-Some-clause-went_on : goal.returns-in_err-store_text-in-Some-clause-went_on
returns-in_err-store_text-in-Some-clause-went_on g c =
    went-unstored c.args.work.now c.store_text.new.work (g.D.Disk.state c.args.journal.now) (g.E.Disk.state c.args.spool.now) (g.E.Disk.state c.store_text.new.spool) c.requires.ready c.store_text.ensures.machine c.store_text.ensures.journal
    c.in_err-store_text-in-Some.ensures.not_stored c.in_err-store_text-in-Some.ensures.as_before

pub returns-in_err-log_event-in-Some-clause-went_on : goal.returns-in_err-log_event-in-Some-clause-went_on
returns-in_err-log_event-in-Some-clause-went_on g c =
    let next : next_in c.args.work.now ≡ Some c.in-Some.next.event = sym c.in_ok-next.ensures.event ∙ ap (option_map event_of) c.in-Some.is in
    let text = c.in_ok-store_text-in-Some.ensures in
    let logged = c.log_event.ensures in
    went-unlogged c.args.work.now c.store_text.new.work (g.D.Disk.state c.args.journal.now) (g.E.Disk.state c.args.spool.now) (g.E.Disk.state c.store_text.new.spool) c.requires.ready c.store_text.ensures.machine c.store_text.ensures.journal
    c.log_event.new.work c.in-Some.next.event (g.D.Disk.state c.log_event.new.journal) (no-resume c.args.work.now c.in-Some.next.event next) (tells-report (plan_in c.args.work.now) c.in-Some.next.event c.in-Some.next.text (c.in_ok-next.ensures.text c.in-Some.next c.in-Some.is)) (may-log c.args.work.now c.in-Some.next.event c.in-Some.next.text (g.D.Disk.state c.args.journal.now) (g.E.Disk.state c.args.spool.now) c.requires.ready (sym c.in_ok-next.ensures.event ∙ ap (option_map event_of) c.in-Some.is) (c.in_ok-next.ensures.text c.in-Some.next c.in-Some.is)).lawful text.pending.takes text.stored logged.survives logged.plan logged.readings
    (Some c.in-Some.next.event) c.in_err-log_event-in-Some.ensures.not_logged c.in_err-log_event-in-Some.ensures.as_before c.in_err-log_event-in-Some.ensures.failed c.in_err-log_event-in-Some.ensures.held_for

pub returns-in-None-clause-finished : goal.returns-in-None-clause-finished
returns-in-None-clause-finished g c = λ _.
    let work = c.args.work.now in
    let past = lawful-past (plan_in work) work.machine (readings_in work) (list_in work) c.requires.ready.tied.readings_are c.requires.ready.tied.lawful in
    next_alone-none (plan_in work) (readings_in work) (list_in work) past (sym c.in_ok-next.ensures.event ∙ ap (option_map event_of) c.in-None.is)

pub returns-in_ok-log_event-in-Some-clause-went_on : goal.returns-in_ok-log_event-in-Some-clause-went_on
returns-in_ok-log_event-in-Some-clause-went_on g c =
    let next : next_in c.args.work.now ≡ Some c.in-Some.next.event = sym c.in_ok-next.ensures.event ∙ ap (option_map event_of) c.in-Some.is in
    let text = c.in_ok-store_text-in-Some.ensures in
    let logged = c.log_event.ensures in
    let done = c.in_ok-log_event-in-Some.ensures in
    went-logged c.args.work.now c.store_text.new.work (g.D.Disk.state c.args.journal.now) (g.E.Disk.state c.args.spool.now) (g.E.Disk.state c.store_text.new.spool) c.requires.ready c.store_text.ensures.machine c.store_text.ensures.journal
    c.log_event.new.work c.in-Some.next.event (g.D.Disk.state c.log_event.new.journal) (no-resume c.args.work.now c.in-Some.next.event next) (tells-report (plan_in c.args.work.now) c.in-Some.next.event c.in-Some.next.text (c.in_ok-next.ensures.text c.in-Some.next c.in-Some.is)) (may-log c.args.work.now c.in-Some.next.event c.in-Some.next.text (g.D.Disk.state c.args.journal.now) (g.E.Disk.state c.args.spool.now) c.requires.ready (sym c.in_ok-next.ensures.event ∙ ap (option_map event_of) c.in-Some.is) (c.in_ok-next.ensures.text c.in-Some.next c.in-Some.is)).lawful text.pending.takes text.stored logged.survives logged.plan logged.readings
    done.logged done.added done.state done.written done.begun_for

pub returns-in_ok-log_event-in-Some-clause-ready : goal.returns-in_ok-log_event-in-Some-clause-ready
returns-in_ok-log_event-in-Some-clause-ready g c =
    let next : next_in c.args.work.now ≡ Some c.in-Some.next.event = sym c.in_ok-next.ensures.event ∙ ap (option_map event_of) c.in-Some.is in
    let text = c.in_ok-store_text-in-Some.ensures in
    let logged = c.log_event.ensures in
    let done = c.in_ok-log_event-in-Some.ensures in
    ready-logged c.args.work.now c.store_text.new.work (g.D.Disk.state c.args.journal.now) (g.E.Disk.state c.args.spool.now) (g.E.Disk.state c.store_text.new.spool) c.requires.ready c.store_text.ensures.machine c.store_text.ensures.journal
    c.log_event.new.work c.in-Some.next.event (g.D.Disk.state c.log_event.new.journal) (no-resume c.args.work.now c.in-Some.next.event next) (tells-report (plan_in c.args.work.now) c.in-Some.next.event c.in-Some.next.text (c.in_ok-next.ensures.text c.in-Some.next c.in-Some.is)) (may-log c.args.work.now c.in-Some.next.event c.in-Some.next.text (g.D.Disk.state c.args.journal.now) (g.E.Disk.state c.args.spool.now) c.requires.ready (sym c.in_ok-next.ensures.event ∙ ap (option_map event_of) c.in-Some.is) (c.in_ok-next.ensures.text c.in-Some.next c.in-Some.is)).lawful text.pending.takes text.stored logged.survives logged.plan logged.readings
    done.logged done.added done.state done.room

pub returns-in_ok-log_event-in-Some-clause-less : goal.returns-in_ok-log_event-in-Some-clause-less
returns-in_ok-log_event-in-Some-clause-less g c = λ _.
    let next : next_in c.args.work.now ≡ Some c.in-Some.next.event = sym c.in_ok-next.ensures.event ∙ ap (option_map event_of) c.in-Some.is in
    let logged = c.log_event.ensures in
    less-left c.args.work.now c.log_event.new.work c.in-Some.next.event (g.D.Disk.state c.args.journal.now) (g.E.Disk.state c.args.spool.now) c.requires.ready next
    (logged.plan ∙ ap (λ (m : Machine). plan_of m) c.store_text.ensures.machine) (logged.readings ∙ ap (λ (m : Machine). unwrap_or (readings_of m) []) c.store_text.ensures.machine)
    (c.in_ok-log_event-in-Some.ensures.added ∙ ap (λ (j : Journal). list_of j ++ c.in-Some.next.event ∷ []) c.store_text.ensures.journal)

pub returns-in_err-next-clause-went_on : goal.returns-in_err-next-clause-went_on
returns-in_err-next-clause-went_on g c =
    went-still c.args.work.now (g.D.Disk.state c.args.journal.now) (g.E.Disk.state c.args.spool.now) c.requires.ready (g.met.E.Disk.seen_is_left c.args.spool.now)

pub returns-in-None-clause-went_on : goal.returns-in-None-clause-went_on
returns-in-None-clause-went_on g c =
    went-still c.args.work.now (g.D.Disk.state c.args.journal.now) (g.E.Disk.state c.args.spool.now) c.requires.ready (g.met.E.Disk.seen_is_left c.args.spool.now)

-- ---- the run without workers has no choice

pub returns-in_err-next-clause-alone : goal.returns-in_err-next-clause-alone
returns-in_err-next-clause-alone g c = follows-still c.args.work.now c.args.work.now (g.D.Disk.state c.args.journal.now) (g.E.Disk.state c.args.spool.now) c.requires.ready refl

pub returns-in-None-clause-alone : goal.returns-in-None-clause-alone
returns-in-None-clause-alone g c = follows-still c.args.work.now c.args.work.now (g.D.Disk.state c.args.journal.now) (g.E.Disk.state c.args.spool.now) c.requires.ready refl

pub returns-in_err-store_text-in-Some-clause-alone : goal.returns-in_err-store_text-in-Some-clause-alone
returns-in_err-store_text-in-Some-clause-alone g c = follows-still c.args.work.now c.store_text.new.work (g.D.Disk.state c.args.journal.now) (g.E.Disk.state c.args.spool.now) c.requires.ready c.store_text.ensures.journal

pub returns-in_err-log_event-in-Some-clause-alone : goal.returns-in_err-log_event-in-Some-clause-alone
returns-in_err-log_event-in-Some-clause-alone g c =
    let next : next_in c.args.work.now ≡ Some c.in-Some.next.event = sym c.in_ok-next.ensures.event ∙ ap (option_map event_of) c.in-Some.is in
    let text = c.in_ok-store_text-in-Some.ensures in
    let logged = c.log_event.ensures in
    follows-one (plan_in c.args.work.now) (readings_in c.args.work.now) (list_in c.args.work.now) (longest_in c.log_event.new.work) c.in-Some.next.event next
    (longest-unlogged c.args.work.now c.store_text.new.work (g.D.Disk.state c.args.journal.now) (g.E.Disk.state c.args.spool.now) (g.E.Disk.state c.store_text.new.spool) c.requires.ready c.store_text.ensures.machine c.store_text.ensures.journal
    c.log_event.new.work c.in-Some.next.event (g.D.Disk.state c.log_event.new.journal) (no-resume c.args.work.now c.in-Some.next.event next) (tells-report (plan_in c.args.work.now) c.in-Some.next.event c.in-Some.next.text (c.in_ok-next.ensures.text c.in-Some.next c.in-Some.is)) (may-log c.args.work.now c.in-Some.next.event c.in-Some.next.text (g.D.Disk.state c.args.journal.now) (g.E.Disk.state c.args.spool.now) c.requires.ready next (c.in_ok-next.ensures.text c.in-Some.next c.in-Some.is)).lawful text.pending.takes text.stored logged.survives logged.plan logged.readings
    c.in_err-log_event-in-Some.ensures.as_before c.in_err-log_event-in-Some.ensures.failed)

pub returns-in_ok-log_event-in-Some-clause-alone : goal.returns-in_ok-log_event-in-Some-clause-alone
returns-in_ok-log_event-in-Some-clause-alone g c =
    let next : next_in c.args.work.now ≡ Some c.in-Some.next.event = sym c.in_ok-next.ensures.event ∙ ap (option_map event_of) c.in-Some.is in
    let text = c.in_ok-store_text-in-Some.ensures in
    let logged = c.log_event.ensures in
    follows-one (plan_in c.args.work.now) (readings_in c.args.work.now) (list_in c.args.work.now) (longest_in c.log_event.new.work) c.in-Some.next.event next
    (longest-logged c.args.work.now c.store_text.new.work (g.D.Disk.state c.args.journal.now) (g.E.Disk.state c.args.spool.now) (g.E.Disk.state c.store_text.new.spool) c.requires.ready c.store_text.ensures.machine c.store_text.ensures.journal
    c.log_event.new.work c.in-Some.next.event (g.D.Disk.state c.log_event.new.journal) (no-resume c.args.work.now c.in-Some.next.event next) (tells-report (plan_in c.args.work.now) c.in-Some.next.event c.in-Some.next.text (c.in_ok-next.ensures.text c.in-Some.next c.in-Some.is)) (may-log c.args.work.now c.in-Some.next.event c.in-Some.next.text (g.D.Disk.state c.args.journal.now) (g.E.Disk.state c.args.spool.now) c.requires.ready next (c.in_ok-next.ensures.text c.in-Some.next c.in-Some.is)).lawful text.pending.takes text.stored logged.survives logged.plan logged.readings
    c.in_ok-log_event-in-Some.ensures.logged c.in_ok-log_event-in-Some.ensures.added c.in_ok-log_event-in-Some.ensures.state)

pub returns-in_err-next-clause-fits : goal.returns-in_err-next-clause-fits
returns-in_err-next-clause-fits g c = λ digests from begun stored.
    let journal = c.args.journal.now in
    let spool = c.args.spool.now in
    turn-still c.args.work.now digests from (g.D.Disk.state journal) (g.E.Disk.state spool) c.requires.ready begun stored (g.met.D.Disk.only_now journal) (g.met.E.Disk.only_now spool) (g.met.E.Disk.seen_is_left spool)

pub returns-in-None-clause-fits : goal.returns-in-None-clause-fits
returns-in-None-clause-fits g c = λ digests from begun stored.
    let journal = c.args.journal.now in
    let spool = c.args.spool.now in
    turn-still c.args.work.now digests from (g.D.Disk.state journal) (g.E.Disk.state spool) c.requires.ready begun stored (g.met.D.Disk.only_now journal) (g.met.E.Disk.only_now spool) (g.met.E.Disk.seen_is_left spool)

pub returns-in_err-store_text-in-Some-clause-fits : goal.returns-in_err-store_text-in-Some-clause-fits
returns-in_err-store_text-in-Some-clause-fits g c = λ digests from begun stored.
    let journal = c.args.journal.now in
    let spool = c.args.spool.now in
    let spool' = c.store_text.new.spool in
    turn-unstored c.args.work.now c.store_text.new.work digests from (g.D.Disk.state journal) (g.E.Disk.state spool) (g.E.Disk.state spool') c.requires.ready c.store_text.ensures.machine c.store_text.ensures.journal begun stored
    (g.met.D.Disk.only_now journal) (g.met.E.Disk.only_now spool) (g.met.E.Disk.seen_is_left spool) (g.met.E.Disk.only_now spool') (g.met.E.Disk.seen_is_left spool')
    c.in_err-store_text-in-Some.ensures.not_stored c.in_err-store_text-in-Some.ensures.as_before

pub returns-in_err-log_event-in-Some-clause-fits : goal.returns-in_err-log_event-in-Some-clause-fits
returns-in_err-log_event-in-Some-clause-fits g c = λ digests from begun stored.
    let journal = c.args.journal.now in
    let spool = c.args.spool.now in
    let spool' = c.store_text.new.spool in
    let text = c.in_ok-store_text-in-Some.ensures in
    turn-logged c.args.work.now c.store_text.new.work digests from (g.D.Disk.state journal) (g.E.Disk.state spool) (g.E.Disk.state spool') c.requires.ready c.store_text.ensures.machine c.store_text.ensures.journal begun stored
    (g.met.D.Disk.only_now journal) (g.met.E.Disk.only_now spool) (g.met.E.Disk.seen_is_left spool) (g.met.E.Disk.only_now spool') (g.met.E.Disk.seen_is_left spool')
    c.in-Some.next.event (g.D.Disk.state c.log_event.new.journal) (c.store_text.ensures.may (may-log c.args.work.now c.in-Some.next.event c.in-Some.next.text (g.D.Disk.state c.args.journal.now) (g.E.Disk.state c.args.spool.now) c.requires.ready (sym c.in_ok-next.ensures.event ∙ ap (option_map event_of) c.in-Some.is) (c.in_ok-next.ensures.text c.in-Some.next c.in-Some.is))) text.pending text.stored c.log_event.ensures.survives

pub returns-in_ok-log_event-in-Some-clause-fits : goal.returns-in_ok-log_event-in-Some-clause-fits
returns-in_ok-log_event-in-Some-clause-fits g c = λ digests from begun stored.
    let journal = c.args.journal.now in
    let spool = c.args.spool.now in
    let spool' = c.store_text.new.spool in
    let text = c.in_ok-store_text-in-Some.ensures in
    turn-logged c.args.work.now c.store_text.new.work digests from (g.D.Disk.state journal) (g.E.Disk.state spool) (g.E.Disk.state spool') c.requires.ready c.store_text.ensures.machine c.store_text.ensures.journal begun stored
    (g.met.D.Disk.only_now journal) (g.met.E.Disk.only_now spool) (g.met.E.Disk.seen_is_left spool) (g.met.E.Disk.only_now spool') (g.met.E.Disk.seen_is_left spool')
    c.in-Some.next.event (g.D.Disk.state c.log_event.new.journal) (c.store_text.ensures.may (may-log c.args.work.now c.in-Some.next.event c.in-Some.next.text (g.D.Disk.state c.args.journal.now) (g.E.Disk.state c.args.spool.now) c.requires.ready (sym c.in_ok-next.ensures.event ∙ ap (option_map event_of) c.in-Some.is) (c.in_ok-next.ensures.text c.in-Some.next c.in-Some.is))) text.pending text.stored c.log_event.ensures.survives
