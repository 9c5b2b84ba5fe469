-- A run that crashed, and the next one of the same files.
use Rattle.std.specs.Prelude.{◌≡◌, ◌⊎◌, ⊤, ℕ, ◌+◌, ◌<◌, List, length, reverse, Some, is_some, IfSome, IsTrue}
use Rattle.conc_types.specs.declared.digests.Digests.{Digests}
use Rattle.conc_types.specs.declared.event.Event.{Event}
use Rattle.conc_types.specs.declared.plan.Plan.{Plan}
use Rattle.conc_types.specs.declared.plan.Req.{Req}
use Rattle.conc_types.specs.declared.script.Readings.{Readings}
use Rattle.conc_disk.specs.Disk.{DiskState}
use Rattle.conc_disk.specs.declared.disk.Disk.{Ghosts as DiskGhosts}
use Rattle.conc_journal.specs.Opens.{broken_of, events_of}
use Rattle.conc_journal_image.specs.declared.layout.TheConstants.{MOST_RECORDS}
use Rattle.conc_base_law.specs.Facts.{runs}
use Rattle.conc_base_law.specs.Words.{Has}
use Rattle.conc_restart.specs.Need.{need}
use Rattle.conc_run.specs.Whole.{HasLeft, IsFinished}
use Rattle.conc_run_state.specs.Causes.{HasCause}
use Rattle.conc_run_state.specs.Handed.{Handed, handed, IsOwnJournal, IsUntouched}
use Rattle.conc_run_state.specs.Judging.{AreGood, EndWithin}
use Rattle.conc_run_state.specs.Lists.{IsPrefix}
use Rattle.conc_run_state.specs.Stored.{AreStored}
use Rattle.conc_run_state.specs.declared.error.HistoryFail.{HistoryFail}
use Rattle.conc_run_state.specs.declared.error.HistoryFail.TheVariants as history_fail
use Rattle.conc_run_laws.specs.Lives.{IsInterrupted, IsRightLife}

-- ---- what a run may begin with

-- The image is a journal of these files or not begun, no record of it is broken, its events are lawful, every life judged as
-- an earlier one, and the spool with these texts has the extent of each.
pub record IsFit (plan : Plan) (digests : Digests) (image texts : List ℕ) : Type 0 where
  pub own : IsOwnJournal plan digests image
  pub good : AreGood plan (length texts) (events_of image) (broken_of image)

-- a read gives these bytes, and nothing is pending: a crash leaves them too
pub record Holds (disk : DiskState) (bytes : List ℕ) : Type 0 where
  pub seen : disk.seen ≡ Some bytes
  pub settled : (image : List ℕ) → disk.may_leave image → image ≡ bytes

-- the disks that a run was handed held a journal and a spool that fit its files, and nothing was pending on the journal's
pub record BeganWell (h : Handed) : Type 0 where
  pub image : List ℕ
  pub texts : List ℕ
  pub journal : Holds h.disks.journal_before image
  pub spool : h.disks.spool_before.seen ≡ Some texts
  pub fit : IsFit h.plan h.digests image texts

-- ---- the next run

-- A crash at some moment of the first run, which had this disk for its journal, left this image of it. The next run was handed the
-- image, and a spool with these texts, which has the extent of each event of the image.
pub record IsNextOver (before after : DiskState) (next : Handed) (image texts : List ℕ) : Type 0 where
  pub left : after.left_since before.moment image
  pub journal : next.disks.journal_before.seen ≡ Some image
  pub spool : next.disks.spool_before.seen ≡ Some texts
  pub within : EndWithin (length texts) (events_of image)

-- of all refusals only that for want of room may come: the journal has these events, and a life needs more than there is left
abbrev pub RefusesForRoom : Handed → List ℕ → HistoryFail → Type 0
RefusesForRoom h image (history_fail.JournalFull len needed) =
    (len ≡ length (events_of image)) × (needed ≡ need h.plan h.readings) × (MOST_RECORDS < len + needed)
RefusesForRoom h image (history_fail.DiskFault disk) = ⊤
RefusesForRoom h image history_fail.NoMemory = ⊤
RefusesForRoom h image _ = ⊥

-- The next run refuses nothing but for want of room. The list in the image begins with the events that the first run had found; it is
-- what the next run finds, and however that ends, its list is a right life behind it. Once it is finished, it has interrupted each
-- request that ran in what it found. The next run has any number of threads.
pub record IsNextRun (next : Handed) (found : List Event) (image : List ℕ) : Type 0 where
  pub refuses : (e : HistoryFail) → HasCause next e → RefusesForRoom next image e
  pub begins : IsPrefix found (events_of image)
  pub finds : (threads : ℕ) (again acknowledged last : List Event) → HasLeft threads next again acknowledged last → again ≡ events_of image
  pub goes_on : (threads : ℕ) (again acknowledged last : List Event) → HasLeft threads next again acknowledged last → IsRightLife next.plan again last
  pub finishes : (threads : ℕ) (list : List Event) → IsFinished threads next list → (r : Req) → Has next.plan.requests r
      → IsTrue (runs (reverse (events_of image)) r.number) → IsInterrupted (events_of image) list r.number

-- ---- the end of a run

-- a crash at its end leaves these images of its disks, which expose their bytes; and the spool held the texts of the events found
pub record CrashesAtEnd (h : Handed) (found : List Event) (image texts : List ℕ) : Type 0 where
  pub journal_exposes : IsTrue (is_some h.disks.journal_after.seen)
  pub journal : h.disks.journal_after.may_leave image
  pub spool_exposes : IsTrue (is_some h.disks.spool_after.seen)
  pub spool : h.disks.spool_after.may_leave texts
  pub stored : IfSome h.disks.spool_before.seen (AreStored h.plan 0 found)

-- nothing was written; or the images fit together, and the list in the journal begins with the one that was acknowledged
abbrev pub IsFitEnd : Handed → List Event → List ℕ → List ℕ → Type 0
IsFitEnd h acknowledged image texts = IsUntouched h ⊎ (IsFit h.plan h.digests image texts × IsPrefix acknowledged (events_of image))

-- ---- the laws

-- however an earlier run and the next one of the same files ended: let the earlier one have begun well, and a crash have left this image
-- of its journal, over which the next one runs
abbrev pub GoesOnFrom : Handed → Handed → Type 0
GoesOnFrom earlier next =
    (threads : ℕ) (found acknowledged last : List Event) (image texts : List ℕ)
    → BeganWell earlier → HasLeft threads earlier found acknowledged last
    → IsNextOver earlier.disks.journal_before earlier.disks.journal_after next image texts
    → IsNextRun next found image

-- the next run may have other readings
abbrev pub ANextRunGoesOn : {D E : Type 0} → DiskGhosts D → DiskGhosts E → Type 0
ANextRunGoesOn {D} {E} d e =
    (plan : Plan) (readings again : Readings) (digests : Digests) (journal journal' shown shown' : D) (spool spool' texts texts' : E)
    → GoesOnFrom (handed plan readings digests (d.state journal) (d.state journal') (e.state spool) (e.state spool'))
    (handed plan again digests (d.state shown) (d.state shown') (e.state texts) (e.state texts'))

-- what a run left is fit for the next one, if a crash at its end left these images
abbrev pub LeavesFit : Handed → Type 0
LeavesFit h =
    (threads : ℕ) (found acknowledged last : List Event) (image texts : List ℕ)
    → HasLeft threads h found acknowledged last → CrashesAtEnd h found image texts
    → IsFitEnd h acknowledged image texts

abbrev pub AnEndIsFit : {D E : Type 0} → DiskGhosts D → DiskGhosts E → Type 0
AnEndIsFit {D} {E} d e =
    (plan : Plan) (readings : Readings) (digests : Digests) (journal journal' : D) (spool spool' : E)
    → LeavesFit (handed plan readings digests (d.state journal) (d.state journal') (e.state spool) (e.state spool'))
