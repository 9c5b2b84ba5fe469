-- What a whole run leaves, and why it ends before its history is finished.
use Rattle.std.specs.Prelude.{◌≡◌, ◌≢◌, ◌⊎◌, ℕ, ◌∷◌, [], ◌++◌, List, length, Result, reverse, IfErr, IfOk, IfSome, IsFalse, IsTrue}
use Rattle.conc_types.specs.declared.digests.Digests.{Digests}
use Rattle.conc_types.specs.declared.event.Event.{Event}
use Rattle.conc_types.specs.declared.plan.Plan.{Plan}
use Rattle.conc_base_law.specs.Alone.{Alone, opening}
use Rattle.conc_base_law.specs.Law.{Finished, LawfulSoFar}
use Rattle.conc_base_law.specs.State.{used}
use Rattle.conc_base_law.specs.Steady.{Steady}
use Rattle.conc_disk.specs.declared.disk.Disk.{Ghosts as DiskGhosts}
use Rattle.conc_disk.specs.Disk.{SeenFollows}
use Rattle.conc_disk.specs.Left.{EachImage, LeavesOnly}
use Rattle.conc_journal.specs.Opens.{events_of}
use Rattle.conc_journal_spool.specs.Spools.{KeepsBelow}
use Rattle.conc_run_alone.specs.Runs.{LacksMemory}
use Rattle.conc_run_workers.specs.Runs.{AwaitsReport}
use Rattle.conc_run_open.specs.Examined.{WasExaminedOn}
use Rattle.conc_run_open.specs.Starting.{IsOpened}
use Rattle.conc_run_open.specs.declared.examining.Examined.{Examined}
use Rattle.conc_run_state.specs.Adding.{HasRecords}
use Rattle.conc_run_state.specs.Causes.{HasCause, is_journal_fault, is_refusal}
use Rattle.conc_run_state.specs.Handed.{Handed, IsTaken, IsUntouched}
use Rattle.conc_run_state.specs.Lists.{GoesOn, GoesOnAlone, IsPrefix}
use Rattle.conc_run_state.specs.Survival.{HoldsList, Survives}
use Rattle.conc_run_state.specs.Stored.{AreStored}
use Rattle.conc_run_state.specs.Stores.{handed_with}
use Rattle.conc_run_state.specs.Works.{list_in}
use Rattle.conc_run_state.specs.declared.error.HistoryFail.{HistoryFail}
use Rattle.conc_run_state.specs.declared.error.HistoryFail.TheVariants as history_fail
use Rattle.conc_run_state.specs.declared.work.Work.{Work}
use Rattle.conc_run.specs.Same.{HasResultOfAlone}

-- ---- what is left, of a run with so many threads

-- an image that a crash might have left before, or one of a journal whose list is between these
abbrev pub HasBetween : Handed → List Event → List Event → List ℕ → Type 0
HasBetween h first last image = h.disks.journal_before.may_leave image ⊎ Survives h.plan h.digests first last image

-- an image that a crash might have left before, or one with the bytes of the texts of these events' ends
abbrev pub KeepsTexts : Handed → List Event → List ℕ → Type 0
KeepsTexts h found image = h.disks.spool_before.may_leave image ⊎ KeepsBelow (used (reverse found)) h.disks.spool_before image

-- What was found is taken. Each image now of the journal has the acknowledged list or the last, which is lawful, every life
-- judged as an earlier one. Each image now of the spool has the bytes of the texts of the ends found, and holds those of the
-- last list if the spool held those found.
pub record HasNow (h : Handed) (found acknowledged last : List Event) : Type 0 where
  pub taken : IsTaken h found
  pub so_far : LawfulSoFar h.plan last
  pub journal : EachImage (Survives h.plan h.digests acknowledged last) h.disks.journal_after
  pub spool : EachImage (KeepsBelow (used (reverse found)) h.disks.spool_before) h.disks.spool_after
  pub stored : (from : ℕ) → IfSome h.disks.spool_before.seen (AreStored h.plan from found) → EachImage (AreStored h.plan from last) h.disks.spool_after

-- What the run leaves on its disks, however it ended. `found` is the list found, `acknowledged` the one that was acknowledged,
-- and `last` the longest that the journal's disk may have: `acknowledged`, or that and the event whose append met a fault. At
-- each moment a crash left a list that begins with the one found and is a beginning of the last one. Now nothing was written, or
-- it leaves the acknowledged one or the last. Without threads each event that was added is the one that comes next.
pub record HasLeft (threads : ℕ) (h : Handed) (found acknowledged last : List Event) : Type 0 where
  pub events : IfSome h.disks.journal_before.seen (λ image. found ≡ events_of image)
  pub begins : IsPrefix found acknowledged
  pub goes_on : (last ≡ found) ⊎ GoesOn h.plan h.readings (opening found) last
  pub alone : threads ≡ 0 → (last ≡ found) ⊎ GoesOnAlone h.plan h.readings (opening found) last
  pub last_is : (last ≡ acknowledged) ⊎ ((e : Event) × (last ≡ acknowledged ++ e ∷ []))
  pub journal : LeavesOnly (HasBetween h found last) h.disks.journal_before h.disks.journal_after
  pub spool : LeavesOnly (KeepsTexts h found) h.disks.spool_before h.disks.spool_after
  pub now : IsUntouched h ⊎ HasNow h found acknowledged last

-- ---- the bytes of the journal

-- the second image is the first, which was found, with what begins a life, and with the records of all further events of the list
pub record IsJournaled (plan : Plan) (digests : Digests) (found list : List Event) (old new : List ℕ) : Type 0 where
  pub begun : List ℕ
  pub opened : IsOpened plan digests found old begun
  pub added : List Event
  pub all : list ≡ opening found ++ added
  pub records : HasRecords plan (length (opening found)) added begun new

-- ---- how a run ends

-- The run is finished: its list goes on from the list found, with one resume where that is not empty, and its history is
-- finished. Without threads it is the one that the run without workers makes. For a steady plan over an empty list the result is
-- that of the run without workers, whatever the number of threads. A read of the journal gives what it gave with what the run has to
-- write, byte for byte, and each image now of it has the list. Each image now of the spool holds the texts of the ends that were added, and of all ends if it held those found.
pub record IsFinished (threads : ℕ) (h : Handed) (list : List Event) : Type 0 where
  pub found : List Event
  pub taken : IsTaken h found
  pub goes_on : GoesOn h.plan h.readings (opening found) list
  pub finished : Finished h.plan h.readings list
  pub alone : threads ≡ 0 → Alone h.plan h.readings found list
  pub same : found ≡ [] → Steady h.plan h.readings → HasResultOfAlone h list
  pub written : SeenFollows (IsJournaled h.plan h.digests found list) h.disks.journal_before h.disks.journal_after
  pub journal : EachImage (HoldsList h.plan h.digests list) h.disks.journal_after
  pub stored : (from : ℕ) → IfSome h.disks.spool_before.seen (AreStored h.plan from found) → EachImage (AreStored h.plan from list) h.disks.spool_after
  pub left : HasLeft threads h found list list

-- an event was added that was not told: `told` is what was told, and it has the events found
pub record WasNotTold (found list : List Event) : Type 0 where
  pub told : List Event
  pub begins : IsPrefix found told
  pub event : Event
  pub list_is : list ≡ told ++ event ∷ []

-- where the telling to so many watchers may find no memory: at an event that the journal already has
abbrev pub LacksToTell : ℕ → List Event → List Event → Type 0
LacksToTell watchers found list = (watchers ≢ 0) × WasNotTold found list

-- Where a run may find no memory once something is written: a life is begun. Its teller may find none where `untold` holds of
-- the list found and the acknowledged one. Without threads it is else at the report of the end that comes next; with threads
-- before any event past the resume, or at the report of a request that runs.
pub record LacksMemoryThere (threads : ℕ) (untold : List Event → List Event → Type 0) (h : Handed) (found acknowledged : List Event) : Type 0 where
  pub begins : IsPrefix (opening found) acknowledged
  pub alone : threads ≡ 0 → untold found acknowledged ⊎ LacksMemory h.plan h.readings acknowledged
  pub beside : threads ≢ 0 → untold found acknowledged ⊎ ((acknowledged ≡ opening found) ⊎ AwaitsReport h.plan acknowledged)

-- The run did not begin, or ended before its history was finished. Where it was refused nothing was written. Where it found no
-- memory nothing was written either, or the list that it left is one after which it may find none. But for a fault of the
-- journal's disk that disk has the list that was acknowledged.
pub record IsCutShort (threads : ℕ) (untold : List Event → List Event → Type 0) (h : Handed) (s : HistoryFail) : Type 0 where
  pub cause : HasCause h s
  pub untouched : IsTrue (is_refusal s) → IsUntouched h
  pub found : List Event
  pub acknowledged : List Event
  pub last : List Event
  pub left : HasLeft threads h found acknowledged last
  pub whole : IsFalse (is_journal_fault s) → last ≡ acknowledged
  pub memory : s ≡ history_fail.NoMemory → IsUntouched h ⊎ LacksMemoryThere threads untold h found acknowledged

-- the run is finished, or it was cut short
pub record HasEnded (threads : ℕ) (untold : List Event → List Event → Type 0) (h : Handed) (answer : Result Work HistoryFail) : Type 0 where
  pub finished : IfOk answer (λ work. IsFinished threads h (list_in work))
  pub cut_short : IfErr answer (IsCutShort threads untold h)

-- such is the end of a run of what was examined over disks that stood as they did when it went on, whatever they were before
abbrev pub EndsOn : {D E : Type 0} → DiskGhosts D → DiskGhosts E → ℕ → (List Event → List Event → Type 0) → Examined → D → D → E → E → Result Work HistoryFail → Type 0
EndsOn {D} {E} d e threads untold examined journal journal' spool spool' answer =
    (before : D) (texts : E) → WasExaminedOn d e examined before journal texts spool
    → HasEnded threads untold (handed_with d e examined.input before journal' texts spool') answer
