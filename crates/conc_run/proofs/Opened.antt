-- What is left where no life was begun.
use Rattle.std.proofs.Common.{◌≡◌, ◌⊎◌, inl, inr, ℕ, true, false, List, [], Option, None, Some, IfSome, IsFalse, IsTrue, refl, sym, ◌∙◌, ap, subst, append-nil, arith}
use Rattle.std.proofs.lemmas.Bool.{cases_Bool}
use Rattle.std.proofs.lemmas.Option.{IfSome_then, slice_get_within}
use Rattle.conc_types.specs.declared.event.Event.{Event}
use Rattle.conc_types.specs.declared.event.Event.TheVariants as event
use Rattle.conc_disk.specs.Left.{LeavesOnly}
use Rattle.conc_disk.proofs.Leaving.{if_some-any, leaves-wider}
use Rattle.conc_journal.specs.Opens.{events_of}
use Rattle.conc_base_law.specs.Alone.{opening}
use Rattle.conc_base_law.specs.Law.{Lawful, LawfulSoFar}
use Rattle.conc_base_law.proofs.AloneHistory.{opening-lawful}
use Rattle.conc_outside.specs.Counts.{Rose}
use Rattle.conc_run_open.specs.Opening.{IsGivenUp}
use Rattle.conc_run_state.specs.Causes.{HasCause, is_journal_fault, is_refusal}
use Rattle.conc_run_state.specs.Handed.{Handed, IsUntouched}
use Rattle.conc_run_state.specs.Lists.{GoesOn}
use Rattle.conc_run_state.specs.declared.error.HistoryFail.{HistoryFail}
use Rattle.conc_run_state.specs.declared.error.HistoryFail.TheVariants as history_fail
use Rattle.conc_run_state.specs.declared.error.DiskName.TheVariants as disk_name
use Rattle.conc_run.specs.Whole.{HasBetween, HasLeft, IsCutShort, KeepsTexts}
use Rattle.conc_run_state.proofs.Prefixes.{prefix-self}
use Rattle.conc_run.proofs.Lists.{opening-adds, stored-opening}

-- what is found in what a disk exposes
found-in : Option (List ℕ) → List Event
found-in None = []
found-in (Some image) = events_of image

found-stored : (seen : Option (List ℕ)) → IfSome seen (λ image. found-in seen ≡ events_of image)
unfolding found-in
found-stored None = tt
found-stored (Some image) = refl

-- nothing was written
left-untouched : (threads : ℕ) (h : Handed) (found : List Event) → IfSome h.disks.journal_before.seen (λ image. found ≡ events_of image) → IsUntouched h → HasLeft threads h found found found
left-untouched threads h found events is = record {
  events = events;
  begins = prefix-self found;
  goes_on = inl refl;
  alone = λ _. inl refl;
  last_is = inl refl;
  journal = leaves-wider h.disks.journal_before.may_leave (HasBetween h found found) h.disks.journal_before h.disks.journal_after is.journal_survives (if_some-any h.disks.journal_before.seen (λ bytes image left. inl left));
  spool = leaves-wider h.disks.spool_before.may_leave (KeepsTexts h found) h.disks.spool_before h.disks.spool_after is.spool_survives (if_some-any h.disks.spool_before.seen (λ bytes image left. inl left));
  now = inl is;
}

-- a lawful list goes on from itself, by no event
stands-still : (h : Handed) (list : List Event) → Lawful h.plan h.readings list → GoesOn h.plan h.readings list list
stands-still h list lawful = record {
  added = [];
  all = sym (append-nil list);
  lawful = lawful;
  no_resume = refl;
  reported = λ i id o x from there. absurd (let within = slice_get_within list i (event.Ended id o (Some x)) there in omega (arith, from, within));
}

-- the journal may have been written
left-opening : (threads : ℕ) (h : Handed) (s : IsGivenUp h) → ((list : List Event) → Lawful h.plan h.readings list → LawfulSoFar h.plan list) → LeavesOnly h.disks.spool_before.may_leave h.disks.spool_before h.disks.spool_after
    → HasLeft threads h s.found s.found (opening s.found)
left-opening threads h s to_so_far survives = record {
  events = s.taken.is_found.events;
  begins = prefix-self s.found;
  goes_on = inr (stands-still h (opening s.found) (opening-lawful h.plan h.readings s.found s.taken.is_found.so_far));
  alone = λ _. inr (λ i from below. absurd (omega (arith, from, below)));
  last_is = opening-adds s.found;
  journal = s.left;
  spool = leaves-wider h.disks.spool_before.may_leave (KeepsTexts h s.found) h.disks.spool_before h.disks.spool_after survives (if_some-any h.disks.spool_before.seen (λ bytes image left. inl left));
  now = inr (record {
    taken = s.taken;
    so_far = to_so_far (opening s.found) (opening-lawful h.plan h.readings s.found s.taken.is_found.so_far);
    journal = s.journal;
    spool = s.spool;
    stored = λ from stored. IfSome_then h.disks.spool_after.seen (s.stored from stored) (λ bytes each image left. stored-opening h.plan from s.found image (each image left));
  });
}

-- no refusal comes while the journal is written
refused-before : (e : HistoryFail) → IsTrue (is_refusal e) → IsFalse (is_journal_fault e)
refused-before history_fail.NotJournal is = refl
refused-before (history_fail.OtherInput found given) is = refl
refused-before (history_fail.OtherScript command found given) is = refl
refused-before (history_fail.Unlawful number) is = refl
refused-before (history_fail.JournalFull len needed) is = refl
refused-before (history_fail.DiskFault disk_name.Spool) is = refl
refused-before (history_fail.DiskFault disk_name.Journal) is = cc is
refused-before history_fail.NoMemory is = refl

-- where nothing was written
pub cut-untouched : (threads : ℕ) (untold : List Event → List Event → Type 0) (h : Handed) (e : HistoryFail) → HasCause h e → IsUntouched h → IsCutShort threads untold h e
cut-untouched threads untold h e cause is =
    let found : List Event = found-in h.disks.journal_before.seen in
    record {
      cause = cause;
      untouched = λ refusal. is;
      found = found;
      acknowledged = found;
      last = found;
      left = left-untouched threads h found (found-stored h.disks.journal_before.seen) is;
      whole = λ same. refl;
      memory = λ lacks. inl is;
    }

-- the journal's disk failed while the life was begun
cut-given_up : (threads : ℕ) (untold : List Event → List Event → Type 0) (h : Handed) (e : HistoryFail) → HasCause h e → is_journal_fault e ≡ true → (IsFalse (is_journal_fault e) → IsUntouched h) → IsGivenUp h → ((list : List Event) → Lawful h.plan h.readings list → LawfulSoFar h.plan list)
    → LeavesOnly h.disks.spool_before.may_leave h.disks.spool_before h.disks.spool_after → IsCutShort threads untold h e
cut-given_up threads untold h e cause fault quiet s to_so_far survives = record {
  cause = cause;
  untouched = λ refusal. quiet (refused-before e refusal);
  found = s.found;
  acknowledged = s.found;
  last = opening s.found;
  left = left-opening threads h s to_so_far survives;
  whole = λ none. let two : true ≡ false = sym fault ∙ none in absurd (cc);
  memory = λ lacks. let two : true ≡ false = sym fault ∙ ap (λ (s : HistoryFail). is_journal_fault s) lacks in absurd (cc);
}

-- the beginning of a life was given up
pub cut-opening : (threads : ℕ) (untold : List Event → List Event → Type 0) (h : Handed) (e : HistoryFail) → HasCause h e → (IsFalse (is_journal_fault e) → IsUntouched h) → IsUntouched h ⊎ IsGivenUp h → ((list : List Event) → Lawful h.plan h.readings list → LawfulSoFar h.plan list)
    → LeavesOnly h.disks.spool_before.may_leave h.disks.spool_before h.disks.spool_after → IsCutShort threads untold h e
cut-opening threads untold h e cause quiet (inl is) to_so_far survives = cut-untouched threads untold h e cause is
cut-opening threads untold h e cause quiet (inr s) to_so_far survives = elim (cases_Bool (is_journal_fault e)) [
  | inl fault ↦ cut-given_up threads untold h e cause fault quiet s to_so_far survives
  | inr none ↦ cut-untouched threads untold h e cause (quiet none)
]

-- the journal's disk failed, where it was examined before
pub cut-begin : (threads : ℕ) (untold : List Event → List Event → Type 0) (h : Handed) (e : HistoryFail) → e ≡ history_fail.DiskFault disk_name.Journal → Rose h.disks.journal_before.faults h.disks.journal_after.faults → IsGivenUp h
    → ((list : List Event) → Lawful h.plan h.readings list → LawfulSoFar h.plan list) → LeavesOnly h.disks.spool_before.may_leave h.disks.spool_before h.disks.spool_after → IsCutShort threads untold h e
cut-begin threads untold h e is rose s to_so_far survives =
    let fault : is_journal_fault e ≡ true = ap (λ (f : HistoryFail). is_journal_fault f) is in
    cut-given_up threads untold h e (subst (λ (f : HistoryFail). HasCause h f) (sym is) rose) fault (λ none. let two : true ≡ false = sym fault ∙ none in absurd (cc)) s to_so_far survives
