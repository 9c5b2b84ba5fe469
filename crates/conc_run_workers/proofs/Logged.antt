-- An event that is logged at a desk, and told.
use Rattle.std.proofs.Common.{◌≡◌, ◌⊎◌, ◌+◌, ◌≤◌, Bool, true, false, List, [], ◌∷◌, ◌++◌, length, Option, None, Some, Result, Ok, Err, refl, sym, ◌∙◌, ap, subst, inl, inr, le_refl}
use Rattle.std.specs.Prelude.{◌↔◌, IfErr, OnErr, OnOk, unwrap_or}
use Rattle.conc_types.specs.declared.event.Event.{Event}
use Rattle.conc_types.specs.declared.plan.Plan.{Plan}
use Rattle.conc_types.specs.declared.script.Reading.{Reading}
use Rattle.conc_disk.specs.Disk.{DiskState}
use Rattle.conc_outside.specs.Counts.{Rose}
use Rattle.conc_base_law.specs.Kinds.{is_resume}
use Rattle.conc_base_law.specs.Law.{Lawful, LawfulSoFar}
use Rattle.conc_board.specs.declared.board.Board.{Board}
use Rattle.conc_board.specs.declared.lead.Lead.{Lead}
use Rattle.conc_board.specs.Seats.{places_of_lead}
use Rattle.conc_journal.specs.Journals.{list_of, room_of, state_of}
use Rattle.conc_journal.specs.Journals.{IsOn as JournalIsOn}
use Rattle.conc_journal.specs.JournalStates.{has_faulted, takes_events}
use Rattle.conc_journal.specs.Receipts.{event_of, IsNextOf, list_with}
use Rattle.conc_journal.specs.declared.journal.Journal.{Journal}
use Rattle.conc_journal.specs.declared.receipt.Receipt.{Receipt}
use Rattle.conc_run_state.specs.Machines.{Machine, plan_of, readings_of}
use Rattle.conc_journal_spool.specs.Spools.{used_of}
use Rattle.conc_journal_spool.specs.Spools.{IsOn as SpoolIsOn}
use Rattle.conc_journal_spool.specs.declared.spool.Spool.{Spool}
use Rattle.conc_run_state.specs.Disks.{disks}
use Rattle.conc_run_state.specs.Works.{HasPendingText, HasRoom, list_in}
use Rattle.conc_run_state.specs.declared.error.RunFail.{RunFail}
use Rattle.conc_run_state.specs.declared.error.RunFail.TheVariants as run_fail
use Rattle.conc_run_state.specs.declared.work.Work.{Work}
use Rattle.conc_run_state.specs.Adding.{AddsRecords}
use Rattle.conc_run_steps.specs.Going.{IsUnderway, TellsReport, WentOn}
use Rattle.conc_run_steps.specs.Steps.{any_disk, IsTied, plan_in, readings_in, StoresOn, SurvivesFor}
use Rattle.conc_run_state.specs.Machines.{need}
use Rattle.conc_run_steps.proofs.Coming.{lawful-past}
use Rattle.conc_run_steps.proofs.Going.{went-none}
use Rattle.conc_run_steps.proofs.Stepping.{ready-logged, tied-by, went-logged, went-unlogged}
use Rattle.conc_run_desk.specs.Desks.{IsAt, list_at, plan_at}
use Rattle.conc_run_desk.specs.Keeping.{SameList}
use Rattle.conc_run_desk.specs.Logging.{IsLogged, IsUnlogged}
use Rattle.conc_run_desk.specs.State.{DeskState}
use Rattle.conc_run_workers.specs.Resolving.{Advances, Halts, IsAtWork, Resolves, Situation}
use Rattle.conc_run_workers.specs.Runs.{LacksReport}
use Rattle.conc_run_steps.specs.Told.{IsTold}
use Rattle.conc_run_steps.proofs.Telling.{next-of, told-more, untold}

-- the parts of a desk, over their two disks
with-disks : (pending : Option Event) (work : Work) (journal spool : DiskState) → IsTied pending work any_disk any_disk → JournalIsOn work.journal journal → SpoolIsOn work.spool spool
    → HasPendingText (plan_in work) (list_in work) spool pending → IsTied pending work journal spool
with-disks pending work journal spool parts journal_on spool_on text = tied-by (plan_in work) (readings_in work) pending work any_disk journal any_disk spool refl refl journal_on spool_on text parts

-- From one desk the text of an event is stored, or none is, and then the event is logged.
module _ (board : Board) (before : Situation) (mid new : DeskState) (journal' spool' : DiskState) (at_work : IsAtWork board before)
    (machine : mid.work.machine ≡ before.desk.work.machine) (same : mid.work.journal ≡ before.desk.work.journal) (spool_on : SpoolIsOn mid.work.spool spool')
    (e : Event) (none : is_resume e ≡ false) (tells : TellsReport (plan_at before.desk) e) (lawful : Lawful (plan_at before.desk) (readings_in before.desk.work) (list_at before.desk ++ e ∷ []))
    (stores : StoresOn (plan_at before.desk) (used_of before.desk.work.spool) (list_at before.desk) (list_at before.desk ++ e ∷ []) before.spool spool')
    (survives : SurvivesFor mid.work (list_at mid) (list_at mid ++ e ∷ []) before.journal journal') (at : IsAt board new)
    (mid_places : places_of_lead mid.lead ≡ places_of_lead before.desk.lead) (mid_failed : mid.failed ≡ before.desk.failed) where
  takes_events' : takes_events (state_of mid.work.journal) ≡ true
  takes_events' = ap (λ (j : Journal). takes_events (state_of j)) same ∙ at_work.ready.tied.takes

  same_list : list_at mid ≡ list_at before.desk
  same_list = ap (λ (j : Journal). list_of j) same

  -- the list with the event is lawful so far
  pub so_far : LawfulSoFar (plan_at before.desk) (list_at before.desk ++ e ∷ [])
  so_far = lawful-past (plan_at before.desk) before.desk.work.machine (readings_in before.desk.work) (list_at before.desk ++ e ∷ []) at_work.ready.tied.readings_are lawful

  places : IsLogged e mid new → places_of_lead new.lead ≡ places_of_lead before.desk.lead
  places logged = logged.follows.places ∙ mid_places

  -- ---- it is on the disk

  module _ (logged : IsLogged e mid new) (parts : IsTied new.kept new.work any_disk any_disk) (on : JournalIsOn new.work.journal journal')
      (wrote : AddsRecords (plan_at mid) (length (list_at mid)) (e ∷ []) before.journal journal') where
    new-tied : IsTied None new.work journal' spool'
    new-tied =
        with-disks None new.work journal' spool' (subst (λ (k : Option Event). IsTied k new.work any_disk any_disk) logged.kept parts) on
        (subst (λ (s : Spool). SpoolIsOn s spool') (sym logged.spool) spool_on) tt

    pub under-logged : IsUnderway before.desk.work new.work (disks before.journal journal' before.spool spool')
    under-logged =
        let went = went-logged before.desk.work mid.work before.journal before.spool spool' at_work.ready machine same new.work e journal' none tells lawful takes_events' stores survives logged.plan logged.readings new-tied logged.list logged.state wrote logged.begun_for in
        record {
          began = at_work.ready;
          ready = ready-logged before.desk.work mid.work before.journal before.spool spool' at_work.ready machine same new.work e journal' none tells lawful takes_events' stores survives logged.plan logged.readings new-tied logged.list logged.state logged.room;
          went = went;
          state = logged.state ∙ ap (λ (j : Journal). state_of j) same;
          faults = went.journal_faults;
        }

    pub new-plan : plan_at new ≡ plan_at before.desk
    new-plan = logged.plan ∙ ap (λ (m : Machine). plan_of m) machine

    pub new-list : list_at new ≡ list_at before.desk ++ e ∷ []
    new-list = logged.list ∙ ap (λ (l : List Event). l ++ e ∷ []) same_list

    -- its receipt is the next one for the teller
    pub next-logged : (receipt : Receipt) → IsNextOf (Some (list_at mid)) (λ l. l ≡ list_at new) receipt → IsNextOf before.told before.takes receipt
    next-logged receipt next =
        next-of before.told before.takes (plan_at before.desk) (list_at before.desk) (list_at new) receipt at_work.is_told (subst (λ (l : List Event). LawfulSoFar (plan_at before.desk) l) (sym new-list) so_far)
        (subst (λ (l : List Event). IsNextOf (Some l) (λ m. m ≡ list_at new) receipt) same_list next)

    -- and it was to be told
    pub told-answer : {T : Type 0} (told' : Option (List Event)) (takes' : List Event → Type 0) (lacks : Bool) (receipt : Receipt) (answer : Result T RunFail) → IsNextOf (Some (list_at mid)) (λ l. l ≡ list_at new) receipt
        → OnOk answer (told' ≡ list_with receipt before.told) → OnErr answer (told' ≡ before.told) → ((events : List Event) → takes' events ↔ before.takes events) → IfErr answer (λ fail. fail ≡ run_fail.NoMemory) → OnErr answer (lacks ≡ true)
        → Resolves board answer before (record { desk = new; journal = journal'; spool = spool'; told = told'; takes = takes'; may_lack = lacks })
    told-answer told' takes' lacks receipt (Ok x) next more stays still_takes fail may = record {
      at = at;
      places = places logged;
      under = under-logged;
      nothing_kept = logged.kept;
      sound = logged.failed ∙ (mid_failed ∙ at_work.sound);
      is_told = subst (λ (p : Plan). IsTold told' takes' p (list_at new)) (sym new-plan)
          (told-more before.told told' before.takes takes' (plan_at before.desk) (list_at before.desk) (list_at new) at_work.is_told still_takes receipt more (ap (λ (l : List Event). l ++ event_of receipt ∷ []) (sym same_list) ∙ next.1));
    }
    told-answer told' takes' lacks receipt (Err f) next more stays still_takes fail may = record {
      at = at;
      places = places logged;
      went = under-logged.went;
      journal_fault = λ is. let never : run_fail.NoMemory ≡ run_fail.JournalFault = sym fail ∙ is in cc;
      spool_fault = λ is. let never : run_fail.NoMemory ≡ run_fail.SpoolFault = sym fail ∙ is in cc;
      stops = λ is. let never : run_fail.NoMemory ≡ run_fail.SpoolFault = sym fail ∙ is in cc;
      memory = λ is. inr (may, untold before.told told' before.takes (plan_at before.desk) (list_at before.desk) (list_at new) e at_work.is_told stays new-list);
      sound = λ other. under-logged.state;
    }

  -- ---- its append met a fault

  pub halts-unlogged : (told' : Option (List Event)) (takes' : List Event → Type 0) (lacks : Bool) (kept : Option Event) → IsUnlogged e mid new → IsTied new.kept new.work any_disk any_disk → JournalIsOn new.work.journal journal' → new.kept ≡ kept
      → HasPendingText (plan_at new) (list_at new) spool' kept → Rose before.journal.faults journal'.faults ⊎ (has_faulted (state_of mid.work.journal) ≡ true)
      → Halts board run_fail.JournalFault before (record { desk = new; journal = journal'; spool = spool'; told = told'; takes = takes'; may_lack = lacks })
  halts-unlogged told' takes' lacks kept unlogged parts on is_kept text fault = record {
    at = at;
    places = ap (λ (l : Lead). places_of_lead l) unlogged.lead ∙ mid_places;
    went = went-unlogged before.desk.work mid.work before.journal before.spool spool' at_work.ready machine same new.work e journal' none tells lawful takes_events' stores survives
        (ap (λ (m : Machine). plan_of m) unlogged.machine) (ap (λ (m : Machine). unwrap_or (readings_of m) []) unlogged.machine) kept
        (with-disks kept new.work journal' spool' (subst (λ (k : Option Event). IsTied k new.work any_disk any_disk) is_kept parts) on (subst (λ (s : Spool). SpoolIsOn s spool') (sym unlogged.spool) spool_on) text)
        unlogged.list unlogged.state unlogged.held_for;
    journal_fault = λ is. rose fault;
    spool_fault = λ is. cc;
    stops = λ is. cc;
    memory = λ is. cc;
    sound = λ other. absurd (other refl);
  }
    where
      rose : Rose before.journal.faults journal'.faults ⊎ (has_faulted (state_of mid.work.journal) ≡ true) → Rose before.journal.faults journal'.faults
      rose (inl is) = is
      rose (inr is) = let never : true ≡ false = sym is ∙ ap (λ (j : Journal). has_faulted (state_of j)) same ∙ at_work.ready.sound in absurd (cc)

-- ---- a text that was not kept

-- the same, but for the desk and the spool's disk
abbrev pub with_spool : Situation → DeskState → DiskState → Situation
with_spool s desk spool = record { desk = desk; journal = s.journal; spool = spool; told = s.told; takes = s.takes; may_lack = s.may_lack }

-- the work as it was, but for the spool and its disk
module _ (board : Board) (before : Situation) (new : DeskState) (spool' : DiskState) (at_work : IsAtWork board before)
    (list : SameList before.desk new) (parts : IsTied None new.work any_disk any_disk) (spool_on : SpoolIsOn new.work.spool spool') (at : IsAt board new)
    (same_places : places_of_lead new.lead ≡ places_of_lead before.desk.lead)
    (stores : StoresOn (plan_at before.desk) (used_of before.desk.work.spool) (list_at before.desk) (list_at before.desk) before.spool spool') where
  journal_on : JournalIsOn new.work.journal before.journal
  journal_on = subst (λ (j : Journal). JournalIsOn j before.journal) (sym list.journal) at_work.ready.tied.journal_on

  pub unkept-plan : plan_at new ≡ plan_at before.desk
  unkept-plan = ap (λ (m : Machine). plan_of m) list.machine

  pub unkept-list : list_at new ≡ list_at before.desk
  unkept-list = ap (λ (j : Journal). list_of j) list.journal

  same_readings : readings_in new.work ≡ readings_in before.desk.work
  same_readings = ap (λ (m : Machine). unwrap_or (readings_of m) []) list.machine

  pub unkept-state : state_of new.work.journal ≡ state_of before.desk.work.journal
  unkept-state = ap (λ (j : Journal). state_of j) list.journal

  pub went-unkept : WentOn (plan_in before.desk.work) (readings_in before.desk.work) (disks before.journal before.journal before.spool spool') before.desk.work new.work
  went-unkept =
      went-none (plan_in before.desk.work) (readings_in before.desk.work) before.desk.work new.work before.journal before.spool spool' at_work.ready.tied.lawful at_work.ready.sound list.journal
      (tied-by (plan_in before.desk.work) (readings_in before.desk.work) None new.work any_disk before.journal any_disk spool' unkept-plan same_readings journal_on spool_on tt parts) stores

  room : HasRoom (plan_in new.work) (readings_in new.work) new.work
  room =
      let r = at_work.ready.room in record {
        earlier = r.earlier;
        life = r.life;
        lives = unkept-list ∙ r.lives;
        one = r.one;
        enough = subst (λ (z : Plan × List Reading × Journal). need z.0 z.1 ≤ room_of z.2 + length r.life) (λ i. (sym unkept-plan i, sym same_readings i, sym list.journal i)) r.enough;
      }

  -- nothing was left yet
  pub advances-unkept : new.kept ≡ None → new.failed ≡ before.desk.failed → Advances board before (with_spool before new spool')
  advances-unkept none same = record {
    at = at;
    places = same_places;
    under = record {
      began = at_work.ready;
      ready = record { tied = with-disks None new.work before.journal spool' parts journal_on spool_on tt; room = room; sound = ap has_faulted unkept-state ∙ at_work.ready.sound };
      went = went-unkept;
      state = unkept-state;
      faults = le_refl before.journal.faults;
    };
    nothing_kept = none;
    sound = same ∙ at_work.sound;
    is_told = subst (λ (z : Plan × List Event). IsTold before.told before.takes z.0 z.1) (λ i. (sym unkept-plan i, sym unkept-list i)) at_work.is_told;
  }

  -- the spool's disk failed
  pub halts-spool : Rose before.spool.faults spool'.faults → new.failed ≡ true → Halts board run_fail.SpoolFault before (with_spool before new spool')
  halts-spool rose stops = record {
    at = at;
    places = same_places;
    went = went-unkept;
    journal_fault = λ is. cc;
    spool_fault = λ is. rose;
    stops = λ is. stops;
    memory = λ is. cc;
    sound = λ other. unkept-state;
  }

  -- its report had found no memory
  pub halts-memory : LacksReport (plan_at new) (list_at new) new.lead → Halts board run_fail.NoMemory before (with_spool before new spool')
  halts-memory lacks = record {
    at = at;
    places = same_places;
    went = went-unkept;
    journal_fault = λ is. cc;
    spool_fault = λ is. cc;
    stops = λ is. cc;
    memory = λ is. inl lacks;
    sound = λ other. unkept-state;
  }
