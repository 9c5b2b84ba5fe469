-- What a run begins with.
use Rattle.std.proofs.Common.{◌≡◌, ℕ, ◌+◌, List, Result, length, reverse, sym, ◌∙◌, ap, subst, arith, length-append}
use Rattle.conc_types.specs.declared.digests.Digests.{Digests}
use Rattle.conc_types.specs.declared.event.Event.{Event}
use Rattle.conc_types.specs.declared.plan.Plan.{Plan}
use Rattle.conc_types.specs.declared.script.Reading.{Reading}
use Rattle.conc_types.specs.declared.script.Readings.{Readings}
use Rattle.conc_disk.specs.Disk.{DiskState, SeenFollows, Stays}
use Rattle.conc_disk.specs.declared.disk.Disk.{Ghosts as DiskGhosts}
use Rattle.conc_disk.specs.Left.{EachImage, LeavesOnly}
use Rattle.conc_base_law.specs.Alone.{opening}
use Rattle.conc_base_law.specs.Law.{Lawful}
use Rattle.conc_base_law.specs.State.{used}
use Rattle.conc_restart.specs.Machines.{StandsFor}
use Rattle.conc_journal.specs.Journals.{list_of, room_of}
use Rattle.conc_journal.specs.Journals.{IsOn as JournalIsOn}
use Rattle.conc_journal.specs.JournalStates.{has_faulted, takes_events}
use Rattle.conc_journal.specs.declared.journal.Journal.{Journal}
use Rattle.conc_journal_spool.specs.Spools.{KeepsBelow}
use Rattle.conc_run_state.specs.Handed.{handed, IsTaken, IsUntouched}
use Rattle.conc_run_state.specs.Inputs.{AreStampsOf, IsBegunFor, IsOfVersionTwo}
use Rattle.conc_run_state.specs.Survival.{Survives}
use Rattle.conc_run_state.specs.Stores.{handed_with}
use Rattle.conc_run_state.specs.Works.{AreReady}
use Rattle.conc_run_state.specs.declared.error.HistoryFail.{HistoryFail}
use Rattle.conc_run_state.specs.declared.input.Input.{Input}
use Rattle.conc_run_state.specs.declared.work.Work.{Work}
use Rattle.conc_run_open.specs.declared.examining.Examined.{Examined}
use Rattle.conc_run_open.specs.declared.opening.Begun.{Begun}
use Rattle.conc_run_open.specs.Examined.{IsExamined, MayBegin, MayStartWith, WasExamined}
use Rattle.conc_run_open.specs.Opening.{BeginsOn, IsBegun, IsBegunOrGivenUp, IsGivenUp, LeavesOpening, StillStored}
use Rattle.conc_run_open.proofs.Counting.{end-within}
use Rattle.conc_run_open.proofs.Lives.{disk-stored, opening-lawful, opening-lives, opening-used}
use Rattle.conc_run_open.specs.Starting.{IsOpened}
use Rattle.conc_run_open.proofs.Surviving.{opening-left, texts-stay}
use Rattle.conc_run_open.proofs.Written.{seen-since}

-- what a life is begun with
abbrev pub begun_with : Examined → Journal → Work
begun_with examined list = record { machine = examined.machine; journal = list; spool = examined.spool }

-- with its stamps it may start
pub may-start-with : (plan : Plan) (readings : List Reading) (digests : Digests) (examined : Examined) (due : List ℕ) (journal spool : DiskState) → due ≡ examined.due.items → MayBegin plan readings digests examined journal spool
    → MayStartWith plan digests due examined.journal
may-start-with plan readings digests examined due journal spool same may = record { may_start = may.state; due_are = subst (AreStampsOf plan (list_of examined.journal)) (sym same) may.ready.due }

-- a journal in which a life was begun
pub record IsStarted (plan : Plan) (digests : Digests) (old list : Journal) (disk : DiskState) : Type 0 where
  pub on : JournalIsOn list disk
  pub begun_for : IsBegunFor plan digests list
  pub version : IsOfVersionTwo list
  pub all : list_of list ≡ opening (list_of old)
  pub room : room_of list + length (list_of list) ≡ room_of old + length (list_of old)

-- it is ready
pub are-ready : (plan : Plan) (readings : List Reading) (digests : Digests) (journal new spool : DiskState) (examined : Examined) (list : Journal) → MayBegin plan readings digests examined journal spool → IsStarted plan digests examined.journal list new
    → AreReady plan readings (begun_with examined list) new spool
are-ready plan readings digests journal new spool examined list may started =
    let found : List Event = list_of examined.journal in
    let ready = may.ready in
    let more = opening-lives found in
    let longer : length (list_of list) ≡ length found + length more.0 = ap length (started.all ∙ more.1) ∙ length-append found more.0 in
    record {
      tied = record {
        plan_is = ready.plan_is;
        readings_are = ready.readings_are;
        stands = subst (λ (l : List Event). StandsFor examined.machine (reverse l)) (sym started.all) ready.stands;
        lawful = subst (Lawful plan readings) (sym started.all) (opening-lawful plan readings found ready.so_far);
        takes = ap takes_events started.begun_for.state;
        used_is = ready.used_is ∙ sym (opening-used found) ∙ ap (λ (l : List Event). used (reverse l)) (sym started.all);
        pending_text = tt;
        journal_on = started.on;
        spool_on = may.spool_on;
      };
      room = record {
        earlier = found;
        life = more.0;
        lives = started.all ∙ more.1;
        one = more.2;
        enough = omega (arith, ready.room, started.room, longer);
      };
      sound = ap has_faulted started.begun_for.state;
    }

module _ (plan : Plan) (readings : Readings) (digests : Digests) (journal mid new spool spool' : DiskState) (examined : Examined) (was : WasExamined (handed plan readings digests journal mid spool spool') examined)
    (wrote : LeavesOnly (Survives plan digests (list_of examined.journal) (opening (list_of examined.journal))) mid new) where
  is : IsExamined (handed plan readings digests journal mid spool spool') examined
  is = was.is_examined

  stays : Stays spool spool'
  stays = was.untouched.spool

  -- what was examined is taken
  taken : IsTaken (handed plan readings digests journal new spool spool') (list_of examined.journal)
  taken = record {
    is_found = record { so_far = is.found.so_far; own = is.found.own; whole = is.found.whole; events = is.found.events; within = is.found.within };
    room = omega (arith, is.may_begin.ready.room, examined.journal.few);
  }

  -- the texts of its ends are held as before
  stored-still : StillStored (handed plan readings digests journal new spool spool') (list_of examined.journal)
  stored-still = λ from stored.
      disk-stored plan from examined.spool.used (list_of examined.journal) spool spool' stays (end-within plan examined.spool.used (list_of examined.journal) is.may_begin.ready.so_far (omega (arith, is.may_begin.ready.used_is))) is.may_begin.spool_on stored

  left : LeavesOpening (handed plan readings digests journal new spool spool') (list_of examined.journal)
  left = opening-left (handed plan readings digests journal new spool spool') (list_of examined.journal) mid was.untouched.journal_survives wrote

  -- the journal's disk failed
  pub gives_up : EachImage (Survives plan digests (list_of examined.journal) (opening (list_of examined.journal))) new → IsGivenUp (handed plan readings digests journal new spool spool')
  gives_up now = record {
    found = list_of examined.journal;
    taken = taken;
    left = left;
    journal = now;
    spool = subst (λ (n : ℕ). EachImage (KeepsBelow n spool) spool') is.may_begin.ready.used_is (texts-stay examined.spool.used spool spool' stays is.may_begin.spool_on);
    stored = stored-still;
  }

  -- the life is begun
  pub begins : (list : Journal) → IsStarted plan digests examined.journal list new → SeenFollows (IsOpened plan digests (list_of examined.journal)) mid new → IsBegun (handed plan readings digests journal new spool spool') (begun_with examined list)
  begins list started wrote = record {
    found = list_of examined.journal;
    taken = taken;
    list = started.all;
    ready = are-ready plan readings.list digests mid new spool' examined list is.may_begin started;
    begun_for = started.begun_for;
    version = started.version;
    written = seen-since (IsOpened plan digests (list_of examined.journal)) journal mid new was.untouched.journal.seen wrote;
    left = left;
    stored = stored-still;
  }

-- what was examined for an input, with nothing written, is begun for it
pub begins-input : {D E : Type 0} (d : DiskGhosts D) (e : DiskGhosts E) (input : Input) (examined : Examined) (journal mid new : D) (spool spool' : E) (answer : Result Begun HistoryFail) → examined.input ≡ input
    → IsExamined (handed_with d e input journal mid spool spool') examined → IsUntouched (handed_with d e input journal mid spool spool') → BeginsOn d e examined mid new spool' answer
    → IsBegunOrGivenUp (handed_with d e input journal new spool spool') answer
begins-input d e input examined journal mid new spool spool' answer same found untouched on =
    subst (λ (i : Input). IsBegunOrGivenUp (handed_with d e i journal new spool spool') answer) same
    (on journal spool (subst (λ (i : Input). WasExamined (handed_with d e i journal mid spool spool') examined) (sym same) (record { is_examined = found; untouched = untouched })))
