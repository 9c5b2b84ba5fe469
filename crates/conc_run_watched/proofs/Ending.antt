-- What follows from how a run ended.
use Rattle.std.proofs.Common.{◌≡◌, ◌≢◌, ℕ, Bool, List, map, Option, Some, Result, Ok, Err, IfOk, IfSome, sym, subst}
use Rattle.std.specs.Prelude.{IsSomeAnd}
use Rattle.conc_types.specs.declared.event.Event.{Event}
use Rattle.conc_types.specs.declared.plan.Plan.{Plan}
use Rattle.conc_run.specs.Telling.{LacksTelling}
use Rattle.conc_run.specs.Whole.{HasEnded, LacksToTell}
use Rattle.conc_run.proofs.Opened.{cut-untouched}
use Rattle.conc_run.proofs.Untold.{cut-telling}
use Rattle.conc_disk.specs.declared.disk.Disk.{Ghosts as DiskGhosts}
use Rattle.conc_run_open.specs.Examined.{IsExamined, WasExamined}
use Rattle.conc_run_open.specs.declared.examining.Examined.{Examined}
use Rattle.conc_run_state.specs.Handed.{Handed, IsUntouched}
use Rattle.conc_run_state.specs.Stores.{handed_with}
use Rattle.conc_run_state.specs.Works.{list_in}
use Rattle.conc_run_state.specs.declared.error.HistoryFail.{HistoryFail}
use Rattle.conc_run_state.specs.declared.work.Work.{Work}
use Rattle.conc_run_state.specs.declared.input.Input.{Input}
use Rattle.conc_run_state.specs.declared.error.HistoryFail.TheVariants as history_fail
use Rattle.conc_run_watched.specs.Ends.{EndsTold, EndsWatched, HasWatched}
use Rattle.conc_run_watched.specs.declared.watched.Watched.{Watched}
use Rattle.conc_run_watch.specs.Lines.{AreWatchLines, watch_text}

-- what holds of a value where an answer is Ok
pub ok-then : {A E : Type 0} (r : Result A E) (P Q : A → Type 0) → ((a : A) → P a → Q a) → IfOk r P → IfOk r Q
ok-then (Ok a) P Q f p = f a p
ok-then (Err e) P Q f p = tt

-- and of what an option holds
pub if-some : {A : Type 0} (o : Option A) (x : A) (P : A → Type 0) → o ≡ Some x → P x → IfSome o P
if-some o x P is holds = subst (λ p. IfSome p P) (sym is) holds

pub of-some-and : {A : Type 0} (o : Option A) (x : A) (P : A → Type 0) → o ≡ Some x → IsSomeAnd o P → P x
of-some-and o x P is holds = subst (λ p. IsSomeAnd p P) is holds

-- a run that ended over two disks ended over what is the same as they
pub ends-at : {D E : Type 0} {d : DiskGhosts D} {e : DiskGhosts E} {threads : ℕ} {told : Option (List Event)} {may_lack : Bool} {journal new : D} {spool new' : E} {answer : Result Work HistoryFail} {examined : Examined} (journal' : D) (spool' : E)
    → EndsTold d e threads told may_lack journal journal' spool spool' answer examined → new ≡ journal' → new' ≡ spool' → EndsTold d e threads told may_lack journal new spool new' answer examined
ends-at journal' spool' ends same same' = rw (same, same') ends

-- no memory was found before anything was written
pub no-memory : (threads watchers : ℕ) (h : Handed) (examined : Examined) → WasExamined h examined → HasWatched threads watchers h (Err history_fail.NoMemory)
no-memory threads watchers h examined was = record {
  finished = tt;
  watched = tt;
  cut_short = cut-untouched threads (LacksToTell watchers) h history_fail.NoMemory tt was.untouched;
}

-- the run was cut short
pub watched-err : (threads watchers : ℕ) (told : List Event) (may_lack : Bool) (h : Handed) (fail : HistoryFail) → watchers ≢ 0 → HasEnded threads (LacksTelling may_lack (Some told)) h (Err fail) → HasWatched threads watchers h (Err fail)
watched-err threads watchers told may_lack h fail some ended = record {
  finished = tt;
  watched = tt;
  cut_short = cut-telling threads watchers may_lack told h fail (λ _. some) ended.cut_short;
}

-- the run is finished, and these are the lines of all that was told
pub watched-ok : (threads watchers : ℕ) (told : List Event) (may_lack : Bool) (plan : Plan) (h : Handed) (watched : Watched) → plan ≡ h.plan → HasEnded threads (LacksTelling may_lack (Some told)) h (Ok watched.work) → told ≡ list_in watched.work
    → AreWatchLines plan told watchers (watch_text 1 (map (λ k. k.items) watched.kept.items)) → HasWatched threads watchers h (Ok watched)
watched-ok threads watchers told may_lack plan h watched same ended told_all lines = record {
  finished = ended.finished;
  watched = subst (λ (p : Plan). AreWatchLines p (list_in watched.work) watchers (watch_text 1 (map (λ k. k.items) watched.kept.items))) same
      (subst (λ (list : List Event). AreWatchLines plan list watchers (watch_text 1 (map (λ k. k.items) watched.kept.items))) told_all lines);
  cut_short = tt;
}

-- what was examined for an input, with nothing written, ended for it
pub watched-input : {D E : Type 0} (d : DiskGhosts D) (e : DiskGhosts E) (threads watchers : ℕ) (input : Input) (examined : Examined) (journal mid new : D) (spool spool' spool'' : E) (answer : Result Watched HistoryFail)
    → examined.input ≡ input → IsExamined (handed_with d e input journal mid spool spool') examined → IsUntouched (handed_with d e input journal mid spool spool')
    → EndsWatched d e threads watchers examined mid new spool' spool'' answer → HasWatched threads watchers (handed_with d e input journal new spool spool'') answer
watched-input d e threads watchers input examined journal mid new spool spool' spool'' answer same found untouched ends =
    subst (λ (i : Input). HasWatched threads watchers (handed_with d e i journal new spool spool'') answer) same
    (ends journal spool (subst (λ (i : Input). WasExamined (handed_with d e i journal mid spool spool') examined) (sym same) (record { is_examined = found; untouched = untouched })))
