-- What a run beside watchers begins with, and how it ends.
use Rattle.std.specs.Prelude.{◌≡◌, ℕ, List, map, Option, Result, Bool, IfErr, IfOk, IfSome, IsSomeAnd}
use Rattle.conc_types.specs.declared.event.Event.{Event}
use Rattle.conc_types.specs.declared.plan.Plan.{Plan}
use Rattle.conc_disk.specs.Disk.{DiskState}
use Rattle.conc_disk.specs.declared.disk.Disk.{Ghosts as DiskGhosts}
use Rattle.conc_run.specs.Telling.{LacksTelling}
use Rattle.conc_run.specs.Whole.{EndsOn}
pub use Rattle.conc_run.specs.Whole.{IsCutShort, IsFinished, LacksToTell}
use Rattle.conc_run_open.specs.Examined.{IsInHand, list_found, plan_held, WasExaminedOn}
use Rattle.conc_run_open.specs.declared.examining.Examined.{Examined}
use Rattle.conc_run_state.specs.Handed.{Handed}
use Rattle.conc_run_state.specs.Stores.{handed_with}
use Rattle.conc_run_state.specs.Works.{list_in}
use Rattle.conc_run_state.specs.declared.error.HistoryFail.{HistoryFail}
use Rattle.conc_run_state.specs.declared.work.Work.{Work}
use Rattle.conc_run_steps.specs.Told.{IsTold}
use Rattle.conc_run_watched.specs.declared.watched.Watched.{Watched}
use Rattle.conc_run_watch.specs.Lines.{AreWatchLines, watch_text}

-- what was found is in hand over these disks, and the teller stands at it
pub record MayGo (journal spool : DiskState) (told : Option (List Event)) (takes : List Event → Type 0) (examined : Examined) : Type 0 where
  pub in_hand : IsInHand examined journal spool
  pub stands : IsTold told takes (plan_held examined) (list_found examined)

-- the run of what was examined ended over these disks, before and after, and where it is finished the teller was told its whole list
pub record EndsTold {D E : Type 0} (d : DiskGhosts D) (e : DiskGhosts E) (threads : ℕ) (told : Option (List Event)) (may_lack : Bool) (journal journal' : D) (spool spool' : E) (answer : Result Work HistoryFail) (examined : Examined) : Type 0 where
  pub ends : EndsOn d e threads (LacksTelling may_lack told) examined journal journal' spool spool' answer
  pub told_all : IfOk answer (λ work. IfSome told (λ list. list ≡ list_in work))

-- so it did if there was something examined, and this is its answer
abbrev pub EndsAnswered : {D E : Type 0} → DiskGhosts D → DiskGhosts E → ℕ → Option (List Event) → Bool → D → D → E → E → Option (Result Work HistoryFail) → Option Examined → Type 0
EndsAnswered d e threads told may_lack journal journal' spool spool' answer examined =
    IfSome examined (λ x. IsSomeAnd answer (λ a. EndsTold d e threads told may_lack journal journal' spool spool' a x))

-- the lines of what so many watchers kept are those of the run's list
abbrev pub HasWatchLines : Plan → ℕ → Watched → Type 0
HasWatchLines plan watchers watched = AreWatchLines plan (list_in watched.work) watchers (watch_text 1 (map (λ k. k.items) watched.kept.items))

-- a run with this many threads and watchers is finished, with the lines of what the watchers kept; or it was cut short
pub record HasWatched (threads watchers : ℕ) (h : Handed) (answer : Result Watched HistoryFail) : Type 0 where
  pub finished : IfOk answer (λ watched. IsFinished threads h (list_in watched.work))
  pub watched : IfOk answer (HasWatchLines h.plan watchers)
  pub cut_short : IfErr answer (IsCutShort threads (LacksToTell watchers) h)

-- such is the end of a run of what was examined over disks that stood as they did when it went on, whatever they were before
abbrev pub EndsWatched : {D E : Type 0} → DiskGhosts D → DiskGhosts E → ℕ → ℕ → Examined → D → D → E → E → Result Watched HistoryFail → Type 0
EndsWatched {D} {E} d e threads watchers examined journal journal' spool spool' answer =
    (before : D) (texts : E) → WasExaminedOn d e examined before journal texts spool
    → HasWatched threads watchers (handed_with d e examined.input before journal' texts spool') answer
