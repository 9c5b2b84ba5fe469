-- Where a journal and a spool fit together while one of the two disks is written.
use Rattle.std.specs.Prelude.{ℕ, ◌∷◌, ◌++◌, [], List, None, Some}
use Rattle.conc_types.specs.declared.digests.Digests.{Digests}
use Rattle.conc_types.specs.declared.event.Event.{Event}
use Rattle.conc_types.specs.declared.plan.Plan.{Plan}
use Rattle.conc_types.specs.declared.script.Reading.{Reading}
use Rattle.conc_base_law.specs.Law.{Lawful}
use Rattle.conc_disk.specs.declared.disk.Disk.{Ghosts as DiskGhosts}
use Rattle.conc_disk.specs.Left.{EachImage, LeavesOnly}
use Rattle.conc_journal_spool.specs.Spools.{KeepsBelow, used_of}
use Rattle.conc_run_state.specs.Disks.{disks}
use Rattle.conc_run_state.specs.Fits.{FitThroughout}
use Rattle.conc_run_state.specs.Inputs.{IsBegunFor}
use Rattle.conc_run_state.specs.Stored.{AreStored}
use Rattle.conc_run_state.specs.Survival.{Survives}
use Rattle.conc_run_state.specs.Works.{AreTied, list_in}
use Rattle.conc_run_state.specs.declared.work.Work.{Work}

-- the spool alone is written, behind its texts, and it holds the text of each end of the list
abbrev pub TextFits : {D E : Type 0} → DiskGhosts D → DiskGhosts E → Type 0
TextFits {D} {E} d e =
    (plan : Plan) (readings : List Reading) (digests : Digests) (from : ℕ) (work : Work) (journal : D) (old new : E)
    → IsBegunFor plan digests work.journal
    → AreTied plan readings None work (d.state journal) (e.state old)
    → EachImage (AreStored plan from (list_in work)) (e.state old)
    → LeavesOnly (KeepsBelow (used_of work.spool) (e.state old)) (e.state old) (e.state new)
    → FitThroughout plan digests from (disks (d.state journal) (d.state journal) (e.state old) (e.state new))

-- the journal alone is written: the pending event, which is lawful, is added, and the spool holds the text of each end of the list
abbrev pub EventFits : {D E : Type 0} → DiskGhosts D → DiskGhosts E → Type 0
EventFits {D} {E} d e =
    (plan : Plan) (readings : List Reading) (digests : Digests) (from : ℕ) (work : Work) (event : Event) (old new : D) (spool : E)
    → IsBegunFor plan digests work.journal
    → AreTied plan readings (Some event) work (d.state old) (e.state spool)
    → Lawful plan readings (list_in work ++ event ∷ [])
    → EachImage (AreStored plan from (list_in work)) (e.state spool)
    → LeavesOnly (Survives plan digests (list_in work) (list_in work ++ event ∷ [])) (d.state old) (d.state new)
    → FitThroughout plan digests from (disks (d.state old) (d.state new) (e.state spool) (e.state spool))
