-- A crash at any moment of a step of a run, and the next run of the same files over what it left of both disks.
use Rattle.std.specs.Prelude.{◌≡◌, ◌∷◌, ◌++◌, [], List, Option, None, Some, is_some, IsTrue, ℕ}
use Rattle.conc_types.specs.declared.digests.Digests.{Digests}
use Rattle.conc_types.specs.declared.event.Event.{Event}
use Rattle.conc_types.specs.declared.plan.Plan.{Plan}
use Rattle.conc_types.specs.declared.script.Reading.{Reading}
use Rattle.conc_types.specs.declared.script.Readings.{Readings}
use Rattle.conc_base_law.specs.Law.{Lawful}
use Rattle.conc_disk.specs.Disk.{DiskState}
use Rattle.conc_disk.specs.declared.disk.Disk.{Ghosts as DiskGhosts}
use Rattle.conc_disk.specs.Left.{EachImage, LeavesOnly}
use Rattle.conc_journal_spool.specs.Spools.{KeepsBelow, used_of}
use Rattle.conc_run_state.specs.Disks.{Disks, disks}
use Rattle.conc_run_state.specs.Handed.{Handed, handed}
use Rattle.conc_run_state.specs.Inputs.{IsBegunFor}
use Rattle.conc_run_state.specs.Stored.{AreStored}
use Rattle.conc_run_state.specs.Survival.{Survives}
use Rattle.conc_run_state.specs.Works.{AreTied, list_in}
use Rattle.conc_run_state.specs.declared.work.Work.{Work}
use Rattle.conc_run_laws.specs.Next.{IsNextRun}

-- ---- the steps of a run, each of which writes one of its two disks

-- Before a step the journal is begun for these files, the parts of the run are tied, with this event pending, and each image of
-- the spool holds the text of each end of the list.
pub record HasComeTo (plan : Plan) (readings : List Reading) (digests : Digests) (pending : Option Event) (work : Work) (journal spool : DiskState) : Type 0 where
  pub begun : IsBegunFor plan digests work.journal
  pub tied : AreTied plan readings pending work journal spool
  pub stored : EachImage (AreStored plan 0 (list_in work)) spool

-- a text is written to the spool, behind those that are there
pub record WritesText (plan : Plan) (readings : List Reading) (digests : Digests) (work : Work) (journal old new : DiskState) : Type 0 where
  pub before : HasComeTo plan readings digests None work journal old
  pub written : LeavesOnly (KeepsBelow (used_of work.spool) old) old new

-- the event that is pending is written to the journal
pub record WritesEvent (plan : Plan) (readings : List Reading) (digests : Digests) (work : Work) (event : Event) (old new spool : DiskState) : Type 0 where
  pub before : HasComeTo plan readings digests (Some event) work old spool
  pub lawful : Lawful plan readings (list_in work ++ event ∷ [])
  pub written : LeavesOnly (Survives plan digests (list_in work) (list_in work ++ event ∷ [])) old new

-- ---- what a crash at some moment of a step left of both disks

-- The disks expose their bytes, and a crash since the step began left these images of them.
pub record HasCrashed (d : Disks) (image texts : List ℕ) : Type 0 where
  pub journal_exposes : IsTrue (is_some d.journal_before.seen)
  pub spool_exposes : IsTrue (is_some d.spool_before.seen)
  pub journal : d.journal_after.left_since d.journal_before.moment image
  pub spool : d.spool_after.left_since d.spool_before.moment texts

-- a run was handed these images
pub record IsRunOver (h : Handed) (image texts : List ℕ) : Type 0 where
  pub journal : h.disks.journal_before.seen ≡ Some image
  pub spool : h.disks.spool_before.seen ≡ Some texts

-- whatever a crash left of both disks, a run of the same files over it goes on from a list that begins with this one
abbrev pub GoesOnWhateverIsLeft : {D E : Type 0} → DiskGhosts D → DiskGhosts E → Plan → Digests → List Event → Disks → Type 0
GoesOnWhateverIsLeft {D} {E} d e plan digests list crashed =
    (again : Readings) (journal journal' : D) (spool spool' : E) (image texts : List ℕ)
    → HasCrashed crashed image texts
    → IsRunOver (handed plan again digests (d.state journal) (d.state journal') (e.state spool) (e.state spool')) image texts
    → IsNextRun (handed plan again digests (d.state journal) (d.state journal') (e.state spool) (e.state spool')) list image

-- ---- the laws

abbrev pub GoesOnFromAText : {D E : Type 0} → DiskGhosts D → DiskGhosts E → Type 0
GoesOnFromAText {D} {E} d e =
    (plan : Plan) (readings : List Reading) (digests : Digests) (work : Work) (journal : D) (old new : E)
    → WritesText plan readings digests work (d.state journal) (e.state old) (e.state new)
    → GoesOnWhateverIsLeft d e plan digests (list_in work) (disks (d.state journal) (d.state journal) (e.state old) (e.state new))

abbrev pub GoesOnFromAnEvent : {D E : Type 0} → DiskGhosts D → DiskGhosts E → Type 0
GoesOnFromAnEvent {D} {E} d e =
    (plan : Plan) (readings : List Reading) (digests : Digests) (work : Work) (event : Event) (old new : D) (spool : E)
    → WritesEvent plan readings digests work event (d.state old) (d.state new) (e.state spool)
    → GoesOnWhateverIsLeft d e plan digests (list_in work) (disks (d.state old) (d.state new) (e.state spool) (e.state spool))
