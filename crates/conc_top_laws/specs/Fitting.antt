-- Journals, spools and histories of which a command does what it is for.
use Rattle.std.specs.Prelude.{◌≡◌, ℕ, ◌+◌, ◌≤◌, Bool, List, length, None, Some}
use Rattle.conc_types.specs.declared.digests.Digests.{Digests}
use Rattle.conc_types.specs.declared.event.Extent.{Extent}
use Rattle.conc_types.specs.declared.event.RequestId.{RequestId}
use Rattle.conc_types.specs.declared.plan.Plan.{Plan}
use Rattle.conc_disk.specs.Disk.{DiskState}
use Rattle.conc_history_check.specs.declared.verdict.Verdict.TheVariants as verdict
use Rattle.conc_journal.specs.Opens.{broken_of, events_of}
use Rattle.conc_journal_image.specs.declared.layout.TheConstants.{MOST_RECORDS}
use Rattle.conc_base_law.specs.Law.{LawfulSoFar}
use Rattle.conc_restart.specs.Need.{need}
use Rattle.conc_run_laws.specs.Next.{IsFit}
use Rattle.conc_run_open.specs.Texts.{HasEnd}
use Rattle.conc_run_state.specs.Handed.{Handed, IsOwnJournal}
use Rattle.conc_top.specs.Checks.{IsJudged, Judging}

-- the disks expose their bytes, the journal and the spool fit the files, and the journal has room for one more life
pub record FitsRun (h : Handed) : Type 0 where
  pub image : List ℕ
  pub texts : List ℕ
  pub journal : h.disks.journal_before.seen ≡ Some image
  pub spool : h.disks.spool_before.seen ≡ Some texts
  pub fit : IsFit h.plan h.digests image texts
  pub room : length (events_of image) + need h.plan h.readings ≤ MOST_RECORDS

-- the journal's disk exposes its bytes; the journal is that of these files or not begun, no record is broken, and its list is lawful so far
pub record FitsStatus (plan : Plan) (digests : Digests) (journal : DiskState) : Type 0 where
  pub image : List ℕ
  pub seen : journal.seen ≡ Some image
  pub own : IsOwnJournal plan digests image
  pub whole : broken_of image ≡ None
  pub so_far : LawfulSoFar plan (events_of image)

-- the disks expose their bytes, the journal and the spool fit the files, and the journal has an end of the request with an extent
pub record FitsOutput (plan : Plan) (digests : Digests) (id : RequestId) (journal spool : DiskState) : Type 0 where
  pub image : List ℕ
  pub texts : List ℕ
  pub journal_seen : journal.seen ≡ Some image
  pub spool_seen : spool.seen ≡ Some texts
  pub fit : IsFit plan digests image texts
  pub extent : Extent
  pub ended : HasEnd (events_of image) id extent

-- the file of the history is there, and is lawful and whole
abbrev pub HasLawfulHistory : Judging → Type 0
HasLawfulHistory j = (events : ℕ) × (finished : Bool) × IsJudged j (verdict.Lawful events finished)
