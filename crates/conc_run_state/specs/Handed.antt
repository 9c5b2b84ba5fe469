-- What a run is handed, and what it finds.
use Rattle.std.specs.Prelude.{◌≡◌, ℕ, ◌+◌, ◌≤◌, List, length, None, IfSome, IsTrue}
use Rattle.conc_types.specs.declared.digests.Digests.{Digests}
use Rattle.conc_types.specs.declared.event.Event.{Event}
use Rattle.conc_types.specs.declared.plan.Plan.{Plan}
use Rattle.conc_types.specs.declared.script.Reading.{Reading}
use Rattle.conc_types.specs.declared.script.Readings.{Readings}
use Rattle.conc_disk.specs.Disk.{DiskState}
use Rattle.conc_base_law.specs.Law.{LawfulSoFar}
use Rattle.conc_journal.specs.Opens.{broken_of, events_of, may_open}
use Rattle.conc_journal_image.specs.declared.layout.TheConstants.{MOST_RECORDS}
use Rattle.conc_restart.specs.Need.{need}
use Rattle.conc_run_state.specs.Disks.{AreUntouched, Disks, disks}
use Rattle.conc_run_state.specs.Judging.{EndWithin}
use Rattle.conc_run_state.specs.Inputs.{IsOwn}

-- its plan and readings, the digests of its input, and its two disks before and after
pub record Handed : Type 1 where
  pub plan : Plan
  pub readings : List Reading
  pub digests : Digests
  pub disks : Disks

abbrev pub handed : Plan → Readings → Digests → DiskState → DiskState → DiskState → DiskState → Handed
handed plan readings digests journal journal' spool spool' = record {
  plan = plan;
  readings = readings.list;
  digests = digests;
  disks = disks journal journal' spool spool';
}

-- nothing was written
abbrev pub IsUntouched : Handed → Type 0
IsUntouched h = AreUntouched h.disks

-- the image is that of a journal of this input, or of one that is not begun
pub record IsOwnJournal (plan : Plan) (digests : Digests) (image : List ℕ) : Type 0 where
  pub opens : IsTrue (may_open image)
  pub own : IsOwn plan digests image

-- These are the events found. They are lawful, every life judged as an earlier one. Where the journal's disk exposes its bytes, they are
-- those of a journal of this input of which no record is broken; and where the spool's does, each extent ends within it.
pub record IsFound (h : Handed) (found : List Event) : Type 0 where
  pub so_far : LawfulSoFar h.plan found
  pub own : IfSome h.disks.journal_before.seen (IsOwnJournal h.plan h.digests)
  pub whole : IfSome h.disks.journal_before.seen (λ image. broken_of image ≡ None)
  pub events : IfSome h.disks.journal_before.seen (λ image. found ≡ events_of image)
  pub within : IfSome h.disks.spool_before.seen (λ texts. EndWithin (length texts) found)

-- these are the events found, and the journal has room for one more life
pub record IsTaken (h : Handed) (found : List Event) : Type 0 where
  pub is_found : IsFound h found
  pub room : length found + need h.plan h.readings ≤ MOST_RECORDS
