-- A life that is begun in two steps: the journal is renewed, and the resume is added.
use Rattle.std.proofs.Common.{◌≡◌, inl, inr, false, true, List, ap, subst, ℕ}
use Rattle.conc_types.specs.declared.digests.Digests.{Digests}
use Rattle.conc_types.specs.declared.event.Event.{Event}
use Rattle.conc_types.specs.declared.plan.Plan.{Plan}
use Rattle.conc_disk.specs.Disk.{DiskState}
use Rattle.conc_disk.specs.Left.{EachImage, LeavesOnly}
use Rattle.conc_disk.proofs.Leaving.{leaves-twice}
use Rattle.conc_journal.specs.Journals.{state_of}
use Rattle.conc_journal.specs.JournalStates.{takes_events}
use Rattle.conc_journal.specs.declared.journal.Journal.{Journal}
use Rattle.conc_journal.specs.declared.journal.JournalState.TheVariants.{NotBegun}
use Rattle.conc_base_law.specs.Alone.{opening}
use Rattle.conc_run_state.specs.Survival.{Survives}
use Rattle.conc_run_state.proofs.Prefixes.{prefix-opening, prefix-self}
use Rattle.conc_run_state.proofs.Surviving.{survives-wider}
use Rattle.conc_run_open.specs.Examined.{MayStart}
use Rattle.conc_run_open.proofs.Surviving.{each-wider, left-wider}

-- what takes no events is not begun
pub unbegun : (plan : Plan) (digests : Digests) (journal : Journal) → MayStart plan digests journal → takes_events (state_of journal) ≡ false → state_of journal ≡ NotBegun
unbegun plan digests journal (inl none) h = none
unbegun plan digests journal (inr begun) h = absurd (let takes : takes_events (state_of journal) ≡ true = ap takes_events begun.state in cc)

-- while it is renewed
survives-opening : (plan : Plan) (digests : Digests) (list : List Event) (image : List ℕ) → Survives plan digests list list image → Survives plan digests list (opening list) image
survives-opening plan digests list image is = survives-wider plan digests list list list (opening list) image (prefix-self list) (prefix-opening list) is

pub renewed-left : (plan : Plan) (digests : Digests) (list : List Event) (old new : DiskState) → LeavesOnly (Survives plan digests list list) old new → LeavesOnly (Survives plan digests list (opening list)) old new
renewed-left plan digests list old new left = left-wider (Survives plan digests list list) (Survives plan digests list (opening list)) old new (λ c is. survives-opening plan digests list c is) left

pub now-wider : (plan : Plan) (digests : Digests) (list : List Event) (disk : DiskState) → EachImage (Survives plan digests list list) disk → EachImage (Survives plan digests list (opening list)) disk
now-wider plan digests list disk now = each-wider (Survives plan digests list list) (Survives plan digests list (opening list)) disk (λ c is. survives-opening plan digests list c is) now

-- and then a resume is added
pub start-twice : (plan : Plan) (digests : Digests) (list renewed : List Event) (old mid new : DiskState) → renewed ≡ list → LeavesOnly (Survives plan digests list list) old mid → LeavesOnly (Survives plan digests renewed (opening renewed)) mid new
    → LeavesOnly (Survives plan digests list (opening list)) old new
start-twice plan digests list renewed old mid new same first second =
    leaves-twice (Survives plan digests list (opening list)) old mid new (renewed-left plan digests list old mid first)
    (subst (λ (l : List Event). LeavesOnly (Survives plan digests l (opening l)) mid new) same second)
