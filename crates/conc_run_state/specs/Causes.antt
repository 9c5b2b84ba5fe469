-- Why a run does not begin, or ends before its history is finished.
use Rattle.std.specs.Prelude.{◌≡◌, ℕ, ◌+◌, ◌<◌, Bool, false, true, List, ◌∷◌, ◌++◌, length, replicate, take, Some, unwrap_or, IfSome, IsFalse, IsTrue, ⊤}
use Rattle.conc_types.specs.Plans.{stamp}
use Rattle.conc_types.specs.declared.digests.Digests.{Digests}
use Rattle.conc_types.specs.declared.event.Event.{Event}
use Rattle.conc_types.specs.declared.event.Event.TheVariants as event
use Rattle.conc_types.specs.declared.plan.Plan.{Plan}
use Rattle.conc_outside.specs.Counts.{Rose}
use Rattle.conc_journal.specs.Opens.{broken_of, events_of, label_of, may_open, stamps_of}
use Rattle.conc_journal_image.specs.declared.label.Label.{Label}
use Rattle.conc_journal_image.specs.declared.label.Version.{Version}
use Rattle.conc_journal_image.specs.declared.label.Version.TheVariants.{One, Two}
use Rattle.conc_journal_image.specs.declared.layout.TheConstants.{MOST_RECORDS}
use Rattle.conc_restart.specs.Need.{need}
use Rattle.conc_run_state.specs.Handed.{Handed, IsFound, IsOwnJournal}
use Rattle.conc_run_state.specs.Inputs.{AreStampsOf}
use Rattle.conc_run_state.specs.Judging.{IsBadFor}
use Rattle.conc_run_state.specs.declared.error.HistoryFail.{HistoryFail}
use Rattle.conc_run_state.specs.declared.error.HistoryFail.TheVariants as history_fail
use Rattle.conc_run_state.specs.declared.error.DiskName.{DiskName}
use Rattle.conc_run_state.specs.declared.error.DiskName.TheVariants as disk_name

-- what tells whose input a journal is, in this version: 32 bytes, of which version 2 has the first 15
abbrev pub told_in : Version → List ℕ → List ℕ → List ℕ
told_in One digest base = digest
told_in Two digest base = base ++ replicate 17 0

-- what a label has of it
abbrev pub told : Label → List ℕ
told label = told_in label.version label.digest label.base

-- what a label of this version has for this input
abbrev pub told_for : Version → Digests → List ℕ
told_for version digests = told_in version digests.full (take 15 digests.base)

-- the journal of another input: it has these bytes in place of those
pub record IsOther (digests : Digests) (found given image : List ℕ) : Type 0 where
  pub opens : IsTrue (may_open image)
  pub label : Label
  pub labelled : label_of image ≡ Some label
  pub found_is : found ≡ told label
  pub given_is : given ≡ told_for label.version digests
  pub other : found ≡ given → ⊥

-- The journal of another script: it is of version 2 and of the same setup and tables, and this is the first of its commands that the
-- plan lacks, or that has another stamp than the plan's. The stamp found, and the plan's, which is 0 where the plan has no such command.
pub record IsOtherScript (plan : Plan) (digests : Digests) (command found given : ℕ) (image : List ℕ) : Type 0 where
  pub opens : IsTrue (may_open image)
  pub label : Label
  pub labelled : label_of image ≡ Some label
  pub version : label.version ≡ Two
  pub base : label.base ≡ take 15 digests.base
  pub before : List Event
  pub after : List Event
  pub events : events_of image ≡ before ++ event.Command command ∷ after
  pub stamps_before : List ℕ
  pub stamps_after : List ℕ
  pub stamps : stamps_of image ≡ stamps_before ++ found ∷ stamps_after
  pub same_before : AreStampsOf plan before stamps_before
  pub given_is : given ≡ unwrap_or (stamp plan command) 0
  pub other : stamp plan command ≡ Some found → ⊥

-- the journal has no room for one more life
pub record IsFull (h : Handed) (len needed : ℕ) : Type 0 where
  pub found : List Event
  pub is_found : IsFound h found
  pub len_is : len ≡ length found
  pub needed_is : needed ≡ need h.plan h.readings
  pub full : MOST_RECORDS < len + needed

-- the journal is this input's, and, where it exposes its bytes, its record with this number is the first that is bad
pub record IsUnlawful (h : Handed) (number : ℕ) : Type 0 where
  pub own : IfSome h.disks.journal_before.seen (IsOwnJournal h.plan h.digests)
  pub bad : IfSome h.disks.journal_before.seen (λ image. IsBadFor h.plan h.disks.spool_before (events_of image) (broken_of image) number)

-- the count of faults of this disk rose; the spool is not opened before the journal was found to be this input's
abbrev pub Faulted : Handed → DiskName → Type 0
Faulted h disk_name.Journal = Rose h.disks.journal_before.faults h.disks.journal_after.faults
Faulted h disk_name.Spool = IfSome h.disks.journal_before.seen (IsOwnJournal h.plan h.digests) × Rose h.disks.spool_before.faults h.disks.spool_after.faults

-- the cause of each answer; want of memory needs none
abbrev pub HasCause : Handed → HistoryFail → Type 0
HasCause h history_fail.NotJournal = IfSome h.disks.journal_before.seen (λ image. IsFalse (may_open image))
HasCause h (history_fail.OtherInput found given) = IfSome h.disks.journal_before.seen (IsOther h.digests found given)
HasCause h (history_fail.OtherScript command found given) = IfSome h.disks.journal_before.seen (IsOtherScript h.plan h.digests command found given)
HasCause h (history_fail.Unlawful number) = IsUnlawful h number
HasCause h (history_fail.JournalFull len needed) = IsFull h len needed
HasCause h (history_fail.DiskFault disk) = Faulted h disk
HasCause h history_fail.NoMemory = ⊤

-- a refusal, which comes before anything is written
abbrev pub is_refusal : HistoryFail → Bool
is_refusal (history_fail.DiskFault disk) = false
is_refusal history_fail.NoMemory = false
is_refusal _ = true

-- the answer that may come while the journal is written
abbrev pub is_journal_fault : HistoryFail → Bool
is_journal_fault (history_fail.DiskFault disk_name.Journal) = true
is_journal_fault _ = false
