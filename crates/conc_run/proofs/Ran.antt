-- What is left where a life was begun and the run went on.
use Rattle.std.proofs.Common.{◌≡◌, ◌≢◌, ◌⊎◌, inr, ℕ, ◌≤◌, List, reverse, IfSome, IsFalse, IsTrue, sym, ◌∙◌, ap, subst, arith}
use Rattle.std.proofs.lemmas.Option.{IfSome_then}
use Rattle.conc_types.specs.declared.event.Event.{Event}
use Rattle.conc_disk.specs.Disk.{DiskState, SeenFollows, Stays}
use Rattle.conc_disk.specs.Left.{EachImage, LeavesOnly}
use Rattle.conc_journal.specs.Journals.{FitsState, stamps_held, state_of}
use Rattle.conc_journal.specs.JournalStates.{state_label}
use Rattle.conc_journal.specs.declared.journal.JournalState.{JournalState}
use Rattle.conc_base_law.specs.Alone.{Alone, opening}
use Rattle.conc_base_law.specs.Law.{Finished, Lawful, LawfulSoFar}
use Rattle.conc_base_law.specs.State.{used}
use Rattle.conc_run_open.specs.Opening.{IsBegun}
use Rattle.conc_run_alone.specs.Runs.{LacksMemory}
use Rattle.conc_run_workers.specs.Runs.{AwaitsReport}
use Rattle.conc_run_state.specs.Causes.{HasCause, is_journal_fault, is_refusal}
use Rattle.conc_run_state.specs.Disks.{disks}
use Rattle.conc_run_state.specs.Inputs.{IsHeldFor}
use Rattle.conc_run_steps.specs.Going.{WentOn}
use Rattle.conc_journal_spool.specs.Spools.{Agrees, used_of}
use Rattle.conc_run_state.specs.Handed.{Handed, IsTaken, IsUntouched}
use Rattle.conc_run_state.specs.Lists.{GoesOn, GoesOnAlone, IsPrefix}
use Rattle.conc_run_state.specs.Survival.{HoldsList, Survives}
use Rattle.conc_run_state.specs.Stored.{AreStored}
use Rattle.conc_run_state.specs.Works.{list_in, longest_in, with_pending}
use Rattle.conc_run_state.specs.declared.error.HistoryFail.{HistoryFail}
use Rattle.conc_run_state.specs.declared.error.HistoryFail.TheVariants as history_fail
use Rattle.conc_run_state.specs.declared.work.Work.{Work}
use Rattle.conc_run.specs.Whole.{HasLeft, HasNow, IsCutShort, IsFinished, IsJournaled}
use Rattle.conc_run.proofs.Journaled.{journaled-seen}
use Rattle.conc_run_state.proofs.Prefixes.{prefix-twice}
use Rattle.conc_run_state.proofs.Surviving.{held-begun}
use Rattle.conc_run.proofs.Lists.{prefix-acknowledged, prefix-with_pending, stored-opening, used-opening, used-prefix}
use Rattle.conc_run.proofs.Same.{HasLaw, same-result}
use Rattle.conc_run.proofs.Survived.{begun-longest, fits-survives, journal-left}
use Rattle.conc_run.proofs.Texts.{Keeps, spool-left, spool-now}

-- the same plan, readings, digest and disks before, with the disks as they are when the life is begun
abbrev pub until : Handed → DiskState → DiskState → Handed
until h journal spool = record h { disks = disks h.disks.journal_before journal h.disks.spool_before spool }

module _ (threads : ℕ) (h : Handed) (journal spool : DiskState) (old new : Work) (begun : IsBegun (until h journal spool) old) (went : WentOn h.plan h.readings (disks journal h.disks.journal_after spool h.disks.spool_after) old new)
    (alone : threads ≡ 0 → GoesOnAlone h.plan h.readings (list_in old) (longest_in new)) where
  -- the run goes on from the opening
  goes-on : GoesOn h.plan h.readings (opening begun.found) (longest_in new)
  goes-on = subst (λ (l : List Event). GoesOn h.plan h.readings l (longest_in new)) begun.list went.list

  goes-alone : threads ≡ 0 → GoesOnAlone h.plan h.readings (opening begun.found) (longest_in new)
  goes-alone none = subst (λ (l : List Event). GoesOnAlone h.plan h.readings l (longest_in new)) begun.list (alone none)

  begins : IsPrefix (opening begun.found) (longest_in new)
  begins = (goes-on.added, goes-on.all)

  -- what is held of the events found is held of the longest list
  stored-longest : (from : ℕ) → IfSome h.disks.spool_before.seen (AreStored h.plan from begun.found) → EachImage (AreStored h.plan from (longest_in new)) h.disks.spool_after
  stored-longest from stored =
      went.stored from (IfSome_then spool.seen (begun.stored from stored) (λ bytes each image left.
      subst (λ (l : List Event). AreStored h.plan from l image) (sym begun.list) (stored-opening h.plan from begun.found image (each image left))))

  -- the bytes of the texts of the events found
  used-found : used_of old.spool ≡ used (reverse begun.found)
  used-found = begun.ready.tied.used_is ∙ ap (λ (l : List Event). used (reverse l)) begun.list ∙ used-opening begun.found

  used-grows : used_of old.spool ≤ used_of new.spool
  used-grows =
      let acknowledged = prefix-acknowledged begun.found (list_in new) (longest_in new) begins went.last_is in
      let with = prefix-twice begun.found (list_in new) (with_pending went.pending (list_in new)) acknowledged (prefix-with_pending went.pending (list_in new)) in
      omega (arith, used-found, used-prefix begun.found (with_pending went.pending (list_in new)) with, went.tied.used_is)

  held : IsHeldFor h.plan h.digests new.journal
  held = went.held h.digests begun.begun_for

  -- what was found is taken, whatever the disks are now
  still-taken : IsTaken h begun.found
  still-taken =
      let is = begun.taken.is_found in
      record { is_found = record { so_far = is.so_far; own = is.own; whole = is.whole; events = is.events; within = is.within }; room = begun.taken.room }

  has-now : ((list : List Event) → Lawful h.plan h.readings list → LawfulSoFar h.plan list) → Stays h.disks.spool_before spool → HasNow h begun.found (list_in new) (longest_in new)
  has-now to_so_far stays = record {
    taken = still-taken;
    so_far = to_so_far (longest_in new) went.list.lawful;
    journal = IfSome_then h.disks.journal_after.seen went.tied.journal_on (λ bytes each image left. fits-survives h.plan h.digests (list_in new) (stamps_held new.journal) image (state_of new.journal) held.label went.tied.takes held.not_migrating held.labelled held.of_input (each image left));
    spool = spool-now (used (reverse begun.found)) (used_of new.spool) h.disks.spool_before spool h.disks.spool_after (omega (arith, used-found, used-grows)) stays (subst (λ (n : ℕ). SeenFollows (Agrees n) spool h.disks.spool_after) used-found went.spool_now) went.tied.spool_on;
    stored = stored-longest;
  }

  pub left-run : ((list : List Event) → Lawful h.plan h.readings list → LawfulSoFar h.plan list) → Stays h.disks.spool_before spool → LeavesOnly h.disks.spool_before.may_leave h.disks.spool_before spool
      → HasLeft threads h begun.found (list_in new) (longest_in new)
  left-run to_so_far stays survives = record {
    events = begun.taken.is_found.events;
    begins = prefix-acknowledged begun.found (list_in new) (longest_in new) begins went.last_is;
    goes_on = inr goes-on;
    alone = λ none. inr (goes-alone none);
    last_is = went.last_is;
    journal = journal-left h.plan h.digests begun.found (longest_in new) h.disks.journal_before journal h.disks.journal_after begins begun.left
        (subst (λ (l : List Event). LeavesOnly (Survives h.plan h.digests l (longest_in new)) journal h.disks.journal_after) begun.list (went.journal h.digests begun.begun_for));
    spool = subst (λ (n : ℕ). LeavesOnly (Keeps h.disks.spool_before n) h.disks.spool_before h.disks.spool_after) used-found (spool-left (used_of old.spool) h.disks.spool_before spool h.disks.spool_after stays survives went.spool);
    now = inr (has-now to_so_far stays);
  }

  -- no append met a fault
  pub longest-acknowledged : state_of new.journal ≡ state_of old.journal → longest_in new ≡ list_in new
  longest-acknowledged same = begun-longest (state_of new.journal) begun.begun_for.label (list_in new) (same ∙ begun.begun_for.state)

  goes-acknowledged : state_of new.journal ≡ state_of old.journal → GoesOn h.plan h.readings (opening begun.found) (list_in new)
  goes-acknowledged same = subst (λ (l : List Event). GoesOn h.plan h.readings (opening begun.found) l) (longest-acknowledged same) goes-on

  -- what was acknowledged has the opening
  pub begins-acknowledged : state_of new.journal ≡ state_of old.journal → IsPrefix (opening begun.found) (list_in new)
  begins-acknowledged same = let going = goes-acknowledged same in (going.added, going.all)

  is-alone : state_of new.journal ≡ state_of old.journal → Finished h.plan h.readings (list_in new) → threads ≡ 0 → Alone h.plan h.readings begun.found (list_in new)
  is-alone same finished none =
      let going = goes-acknowledged same in record {
        begins = (going.added, going.all);
        each = subst (λ (l : List Event). GoesOnAlone h.plan h.readings (opening begun.found) l) (longest-acknowledged same) (goes-alone none);
        finished = finished;
      }

  stored-acknowledged : state_of new.journal ≡ state_of old.journal → (from : ℕ) → IfSome h.disks.spool_before.seen (AreStored h.plan from begun.found) → EachImage (AreStored h.plan from (list_in new)) h.disks.spool_after
  stored-acknowledged same from stored = subst (λ (l : List Event). EachImage (AreStored h.plan from l) h.disks.spool_after) (longest-acknowledged same) (stored-longest from stored)

  -- the journal holds the list, and is of version 2
  holds-list : state_of new.journal ≡ state_of old.journal → EachImage (HoldsList h.plan h.digests (list_in new)) h.disks.journal_after
  holds-list same =
      let still = held-begun h.plan h.digests new.journal begun.begun_for.label held (same ∙ begun.begun_for.state) in
      IfSome_then h.disks.journal_after.seen went.tied.journal_on (λ bytes each image left. record {
        label = begun.begun_for.label;
        stamps = stamps_held new.journal;
        journal = subst (λ (s : JournalState). FitsState s (stamps_held new.journal) (list_in new) image) (same ∙ begun.begun_for.state) (each image left);
        version = begun.version begun.begun_for.label (ap (λ (s : JournalState). state_label s) begun.begun_for.state);
        of_input = still;
      })

  -- the bytes of the opening, and of what was added
  journaled : state_of new.journal ≡ state_of old.journal → SeenFollows (IsJournaled h.plan h.digests begun.found (list_in new)) h.disks.journal_before h.disks.journal_after
  journaled same = journaled-seen h.plan h.digests begun.found (list_in old) (list_in new) went.list.added h.disks.journal_before journal h.disks.journal_after begun.list
      (sym (longest-acknowledged same) ∙ went.list.all) begun.written (went.written same)

  pub finished-run : ((list : List Event) → Lawful h.plan h.readings list → LawfulSoFar h.plan list) → HasLaw h → Stays h.disks.spool_before spool → LeavesOnly h.disks.spool_before.may_leave h.disks.spool_before spool → state_of new.journal ≡ state_of old.journal
      → Finished h.plan h.readings (list_in new) → IsFinished threads h (list_in new)
  finished-run to_so_far law stays survives same finished = record {
    found = begun.found;
    taken = still-taken;
    goes_on = goes-acknowledged same;
    finished = finished;
    alone = is-alone same finished;
    same = same-result h begun.found (list_in new) law (goes-acknowledged same) finished (stored-acknowledged same 0);
    written = journaled same;
    journal = holds-list same;
    stored = stored-acknowledged same;
    left = subst (λ (l : List Event). HasLeft threads h begun.found (list_in new) l) (longest-acknowledged same) (left-run to_so_far stays survives);
  }

  -- the run ended before its history was finished
  pub cut-run : (untold : List Event → List Event → Type 0) (e : HistoryFail) → HasCause h e → (IsTrue (is_refusal e) → IsUntouched h) → (IsFalse (is_journal_fault e) → state_of new.journal ≡ state_of old.journal)
      → ((list : List Event) → Lawful h.plan h.readings list → LawfulSoFar h.plan list) → Stays h.disks.spool_before spool → LeavesOnly h.disks.spool_before.may_leave h.disks.spool_before spool
      → (e ≡ history_fail.NoMemory → (threads ≡ 0 → untold begun.found (list_in new) ⊎ LacksMemory h.plan h.readings (list_in new)))
      → (e ≡ history_fail.NoMemory → (threads ≢ 0 → untold begun.found (list_in new) ⊎ ((list_in new ≡ opening begun.found) ⊎ AwaitsReport h.plan (list_in new)))) → IsCutShort threads untold h e
  cut-run untold e cause untouched sound to_so_far stays survives memory_alone memory_beside = record {
    cause = cause;
    untouched = untouched;
    found = begun.found;
    acknowledged = list_in new;
    last = longest_in new;
    left = left-run to_so_far stays survives;
    whole = λ quiet. longest-acknowledged (sound quiet);
    memory = λ lacks. inr (record {
      begins = begins-acknowledged (sound (ap (λ (s : HistoryFail). is_journal_fault s) lacks));
      alone = memory_alone lacks;
      beside = memory_beside lacks;
    });
  }
