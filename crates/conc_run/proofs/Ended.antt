-- How a run ended over which a life was begun, with workers or without.
use Rattle.std.proofs.Common.{◌≡◌, ◌≢◌, ◌⊎◌, inl, inr, ⊎_elim, ℕ, List, Option, None, Some, Result, Ok, Err, IfSome, refl, sym, ◌∙◌, ap, subst}
use Rattle.std.specs.Prelude.{IsErrOf, OnOk}
use Rattle.conc_types.specs.declared.event.Event.{Event}
use Rattle.conc_types.specs.declared.plan.Plan.{Plan}
use Rattle.conc_types.specs.declared.script.Reading.{Reading}
use Rattle.conc_outside.specs.Counts.{Rose}
use Rattle.conc_disk.specs.declared.disk.Disk.{Ghosts as DiskGhosts}
use Rattle.conc_disk.specs.Disk.{DiskState, Stays}
use Rattle.conc_disk.specs.Left.{LeavesOnly}
use Rattle.conc_journal.specs.Journals.{state_of}
use Rattle.conc_base_law.specs.Alone.{opening}
use Rattle.conc_base_law.specs.Law.{Finished, Lawful, LawfulSoFar}
use Rattle.conc_run_alone.specs.Runs.{LacksMemory}
use Rattle.conc_run_alone.proofs.Following.{follows-none}
use Rattle.conc_run_workers.specs.Pools.{HasLackedReport}
use Rattle.conc_run_workers.specs.Runs.{AwaitsReport}
use Rattle.conc_run_workers.specs.declared.running.Pool.{Pool}
use Rattle.conc_run_open.specs.Examined.{IsExamined, WasExamined}
use Rattle.conc_run_open.specs.Opening.{IsBegun}
use Rattle.conc_run_open.specs.declared.examining.Examined.{Examined}
use Rattle.conc_run_state.specs.Disks.{Disks, disks}
use Rattle.conc_run_state.specs.Fails.{of_run}
use Rattle.conc_run_state.specs.Handed.{Handed, IsUntouched}
use Rattle.conc_run_state.specs.Lists.{GoesOnAlone}
use Rattle.conc_run_state.specs.Stores.{handed_with}
use Rattle.conc_run_state.specs.Works.{AreReady, list_in, longest_in}
use Rattle.conc_run_state.specs.declared.error.HistoryFail.{HistoryFail}
use Rattle.conc_run_state.specs.declared.error.RunFail.{RunFail}
use Rattle.conc_run_state.specs.declared.error.RunFail.TheVariants as run_fail
use Rattle.conc_run_state.specs.declared.input.Input.{Input}
use Rattle.conc_run_state.specs.declared.work.Work.{Work}
use Rattle.conc_run_steps.specs.Going.{WentOn}
use Rattle.conc_run_steps.specs.Steps.{IsReady, plan_in, readings_in}
use Rattle.conc_run_steps.proofs.Going.{sound-longest}
use Rattle.conc_run_steps.proofs.Underway.{by-own, by-same, went-still}
use Rattle.conc_run.specs.Whole.{EndsOn, HasEnded, IsCutShort, IsFinished}
use Rattle.conc_run.proofs.Failing.{failure-cause, failure-late, failure-memory, failure-quiet, rose-since}
use Rattle.conc_run.proofs.Ran.{cut-run, finished-run, until}
use Rattle.conc_run.proofs.Same.{HasLaw}

-- what a run made of a work, by its answer, and why it ended before its history was finished
pub record Ran {A : Type 0} (threads : ℕ) (untold : List Event → Type 0) (d : Disks) (answer : Result A RunFail) (old new : Work) : Type 0 where
  pub went_on : WentOn (plan_in old) (readings_in old) d old new
  pub alone : threads ≡ 0 → GoesOnAlone (plan_in old) (readings_in old) (list_in old) (longest_in new)
  pub journal_fault : IsErrOf answer run_fail.JournalFault → Rose d.journal_before.faults d.journal_after.faults
  pub spool_fault : IsErrOf answer run_fail.SpoolFault → Rose d.spool_before.faults d.spool_after.faults
  pub memory_alone : threads ≡ 0 → IsErrOf answer run_fail.NoMemory → LacksMemory (plan_in old) (readings_in old) (list_in new) ⊎ untold (list_in new)
  pub memory_beside : threads ≢ 0 → IsErrOf answer run_fail.NoMemory → (list_in new ≡ list_in old) ⊎ (AwaitsReport (plan_in old) (list_in new) ⊎ untold (list_in new))
  pub sound : (IsErrOf answer run_fail.JournalFault → ⊥) → state_of new.journal ≡ state_of old.journal

-- what is ready by a plan and readings that are a work's is ready by its own
pub own-ready : (plan : Plan) (readings : List Reading) (work : Work) (journal spool : DiskState) → AreReady plan readings work journal spool → IsReady work journal spool
own-ready plan readings work journal spool ready = by-own plan readings work ready.tied.plan_is ready.tied.readings_are (λ p l. AreReady p l work journal spool) ready

-- what a run without workers made
pub ran-alone : {A : Type 0} {threads : ℕ} {untold : List Event → Type 0} {d : Disks} {answer : Result A RunFail} {old new : Work} → threads ≡ 0 → WentOn (plan_in old) (readings_in old) d old new
    → GoesOnAlone (plan_in old) (readings_in old) (list_in old) (longest_in new) → (IsErrOf answer run_fail.JournalFault → Rose d.journal_before.faults d.journal_after.faults) → (IsErrOf answer run_fail.SpoolFault → Rose d.spool_before.faults d.spool_after.faults)
    → (IsErrOf answer run_fail.NoMemory → LacksMemory (plan_in old) (readings_in old) (list_in new) ⊎ untold (list_in new)) → ((IsErrOf answer run_fail.JournalFault → ⊥) → state_of new.journal ≡ state_of old.journal) → Ran threads untold d answer old new
ran-alone none went_on alone journal_fault spool_fault memory sound = record {
  went_on = went_on;
  alone = λ _. alone;
  journal_fault = journal_fault;
  spool_fault = spool_fault;
  memory_alone = λ _ is. memory is;
  memory_beside = λ some is. absurd (some none);
  sound = sound;
}

-- where one with workers found no memory
pub beside-short : {plan : Plan} {first last : List Event} {Untold : Type 0} (pool : Option Pool) → (last ≡ first) ⊎ (HasLackedReport plan last pool ⊎ Untold) → (last ≡ first) ⊎ (AwaitsReport plan last ⊎ Untold)
beside-short pool (inl same) = inl same
beside-short pool (inr (inr untold)) = inr (inr untold)
beside-short (Some pool) (inr (inl lacks)) = inr (inl lacks.awaits)
beside-short None (inr (inl none)) = absurd none

-- and one with workers
pub ran-beside : {A : Type 0} {threads : ℕ} {untold : List Event → Type 0} {d : Disks} {answer : Result A RunFail} {old new : Work} → threads ≢ 0 → WentOn (plan_in old) (readings_in old) d old new
    → (IsErrOf answer run_fail.JournalFault → Rose d.journal_before.faults d.journal_after.faults) → (IsErrOf answer run_fail.SpoolFault → Rose d.spool_before.faults d.spool_after.faults)
    → (IsErrOf answer run_fail.NoMemory → (list_in new ≡ list_in old) ⊎ (AwaitsReport (plan_in old) (list_in new) ⊎ untold (list_in new))) → ((IsErrOf answer run_fail.JournalFault → ⊥) → state_of new.journal ≡ state_of old.journal) → Ran threads untold d answer old new
ran-beside some went_on journal_fault spool_fault memory sound = record {
  went_on = went_on;
  alone = λ none. absurd (some none);
  journal_fault = journal_fault;
  spool_fault = spool_fault;
  memory_alone = λ none is. absurd (some none);
  memory_beside = λ _ is. memory is;
  sound = sound;
}

-- the resume was not told
pub ran-none : {A : Type 0} (threads : ℕ) (untold : List Event → Type 0) (journal spool : DiskState) (work : Work) → IsReady work journal spool → IfSome spool.seen spool.may_leave → untold (list_in work)
    → Ran {A = A} threads untold (disks journal journal spool spool) (Err run_fail.NoMemory) work work
ran-none threads untold journal spool work ready left not_told = record {
  went_on = went-still work journal spool ready left;
  alone = λ none. follows-none (plan_in work) (readings_in work) (list_in work) (longest_in work) (sound-longest work ready.sound);
  journal_fault = λ is. absurd (cc is);
  spool_fault = λ is. absurd (cc is);
  memory_alone = λ none is. inr not_told;
  memory_beside = λ some is. inl refl;
  sound = λ quiet. refl;
}

is-err : {A : Type 0} (fail : RunFail) (other : RunFail) → fail ≡ other → IsErrOf {T = A} (Err fail) other
is-err fail other is = ap (λ (f : RunFail). Err f) is

err-is : {A : Type 0} (fail : RunFail) (other : RunFail) → IsErrOf {T = A} (Err fail) other → fail ≡ other
err-is fail other is = cc is

not-err : {A : Type 0} (x : A) (other : RunFail) → IsErrOf (Ok x) other → ⊥
not-err x other is = cc is

-- what the same answer says
pub ran-as : {A : Type 0} {threads : ℕ} {untold : List Event → Type 0} {d : Disks} {answer other : Result A RunFail} {old new : Work} → answer ≡ other → Ran threads untold d answer old new → Ran threads untold d other old new
ran-as {A} {threads} {untold} {d} {answer} {other} {old} {new} is ran = subst (λ (r : Result A RunFail). Ran threads untold d r old new) is ran

pub on-ok : {T E : Type 0} {r : Result T E} {x : T} {X : Type 0} → r ≡ Ok x → OnOk r X → X
on-ok {T} {E} {r} {x} {X} is on = subst (λ (a : Result T E). OnOk a X) is on

-- where the telling found no memory, or the run
swapped : (U X : Type 0) → X ⊎ U → U ⊎ X
swapped U X is = ⊎_elim (λ x. inr x) (λ u. inl u) is

beside : (acknowledged list first : List Event) (A U : Type 0) → list ≡ first → (acknowledged ≡ list) ⊎ (A ⊎ U) → U ⊎ ((acknowledged ≡ first) ⊎ A)
beside acknowledged list first A U begun (inl same) = inr (inl (same ∙ begun))
beside acknowledged list first A U begun (inr (inl awaits)) = inr (inr awaits)
beside acknowledged list first A U begun (inr (inr untold)) = inl untold

-- the answer of a run that was cut short
pub ended-err : (threads : ℕ) (untold : List Event → List Event → Type 0) (h : Handed) (answer : Result Work HistoryFail) (e fail : HistoryFail) → answer ≡ Err e → e ≡ fail → IsCutShort threads untold h fail → HasEnded threads untold h answer
ended-err threads untold h answer e fail is same cut =
    subst (λ (a : Result Work HistoryFail). HasEnded threads untold h a) (sym (is ∙ ap (λ (f : HistoryFail). Err f) same)) (record { finished = tt; cut_short = cut })

module _ {A : Type 0} (threads : ℕ) (h : Handed) (journal spool : DiskState) (old new : Work) (begun : IsBegun (until h journal spool) old) (to_so_far : (list : List Event) → Lawful h.plan h.readings list → LawfulSoFar h.plan list)
    (stays : Stays h.disks.spool_before spool) (survives : LeavesOnly h.disks.spool_before.may_leave h.disks.spool_before spool) where
  went : {untold : List Event → Type 0} {answer : Result A RunFail} → Ran threads untold (disks journal h.disks.journal_after spool h.disks.spool_after) answer old new
      → WentOn h.plan h.readings (disks journal h.disks.journal_after spool h.disks.spool_after) old new
  went ran = by-same h.plan h.readings old begun.ready.tied.plan_is begun.ready.tied.readings_are (λ p l. WentOn p l (disks journal h.disks.journal_after spool h.disks.spool_after) old new) ran.went_on

  went-alone : {untold : List Event → Type 0} {answer : Result A RunFail} → Ran threads untold (disks journal h.disks.journal_after spool h.disks.spool_after) answer old new
      → threads ≡ 0 → GoesOnAlone h.plan h.readings (list_in old) (longest_in new)
  went-alone ran none = by-same h.plan h.readings old begun.ready.tied.plan_is begun.ready.tied.readings_are (λ p l. GoesOnAlone p l (list_in old) (longest_in new)) (ran.alone none)

  -- the history is finished
  pub ran-ok : {untold : List Event → Type 0} {x : A} → Ran threads untold (disks journal h.disks.journal_after spool h.disks.spool_after) (Ok x) old new → HasLaw h → Finished (plan_in old) (readings_in old) (list_in new)
      → IsFinished threads h (list_in new)
  ran-ok {untold} {x} ran law finished =
      finished-run threads h journal spool old new begun (went ran) (went-alone ran) to_so_far law stays survives (ran.sound (not-err x run_fail.JournalFault))
      (by-same h.plan h.readings old begun.ready.tied.plan_is begun.ready.tied.readings_are (λ p l. Finished p l (list_in new)) finished)

  -- or the run was cut short
  pub ran-err : (untold : List Event → List Event → Type 0) (fail : RunFail) → Ran {A = A} threads (untold begun.found) (disks journal h.disks.journal_after spool h.disks.spool_after) (Err fail) old new → IsCutShort threads untold h (of_run fail)
  ran-err untold fail ran =
      let same = by-same h.plan h.readings old begun.ready.tied.plan_is begun.ready.tied.readings_are in
      let not_told : Type 0 = untold begun.found (list_in new) in
      cut-run threads h journal spool old new begun (went ran) (went-alone ran) untold (of_run fail)
      (failure-cause h fail (λ is. rose-since h.disks.journal_before.faults journal.faults h.disks.journal_after.faults begun.left.faults (ran.journal_fault (is-err fail run_fail.JournalFault is)))
      (λ is. (begun.taken.is_found.own, rose-since h.disks.spool_before.faults spool.faults h.disks.spool_after.faults survives.faults (ran.spool_fault (is-err fail run_fail.SpoolFault is)))))
      (failure-late h fail)
      (λ quiet. ran.sound (λ is. failure-quiet fail quiet (err-is {A = A} fail run_fail.JournalFault is)))
      to_so_far stays survives
      (λ lacks none. swapped not_told (LacksMemory h.plan h.readings (list_in new)) (same (λ p l. LacksMemory p l (list_in new) ⊎ not_told) (ran.memory_alone none (is-err fail run_fail.NoMemory (failure-memory fail lacks)))))
      (λ lacks some. beside (list_in new) (list_in old) (opening begun.found) (AwaitsReport h.plan (list_in new)) not_told begun.list
      (same (λ p _. (list_in new ≡ list_in old) ⊎ (AwaitsReport p (list_in new) ⊎ not_told)) (ran.memory_beside some (is-err fail run_fail.NoMemory (failure-memory fail lacks)))))

  -- so the answer says
  pub ends-ok : (untold : List Event → List Event → Type 0) (x : A) → Ran threads (untold begun.found) (disks journal h.disks.journal_after spool h.disks.spool_after) (Ok x) old new → HasLaw h → Finished (plan_in old) (readings_in old) (list_in new)
      → HasEnded threads untold h (Ok new)
  ends-ok untold x ran law finished = record { finished = ran-ok {untold = untold begun.found} {x = x} ran law finished; cut_short = tt }

  pub ends-err : (untold : List Event → List Event → Type 0) (fail : RunFail) (answer : Result Work HistoryFail) (e : HistoryFail) → answer ≡ Err e → e ≡ of_run fail
      → Ran {A = A} threads (untold begun.found) (disks journal h.disks.journal_after spool h.disks.spool_after) (Err fail) old new → HasEnded threads untold h answer
  ends-err untold fail answer e is same ran = ended-err threads untold h answer e (of_run fail) is same (ran-err untold fail ran)

-- what was examined for an input, with nothing written, ended for it
pub ended-input : {D E : Type 0} (d : DiskGhosts D) (e : DiskGhosts E) (threads : ℕ) (untold : List Event → List Event → Type 0) (input : Input) (examined : Examined) (journal mid new : D) (spool spool' spool'' : E) (answer : Result Work HistoryFail)
    → examined.input ≡ input → IsExamined (handed_with d e input journal mid spool spool') examined → IsUntouched (handed_with d e input journal mid spool spool')
    → EndsOn d e threads untold examined mid new spool' spool'' answer → HasEnded threads untold (handed_with d e input journal new spool spool'') answer
ended-input d e threads untold input examined journal mid new spool spool' spool'' answer same found untouched ends =
    subst (λ (i : Input). HasEnded threads untold (handed_with d e i journal new spool spool'') answer) same
    (ends journal spool (subst (λ (i : Input). WasExamined (handed_with d e i journal mid spool spool') examined) (sym same) (record { is_examined = found; untouched = untouched })))
