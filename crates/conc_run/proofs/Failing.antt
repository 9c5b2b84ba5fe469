-- What is told where a run ends before its history is finished.
use Rattle.std.proofs.Common.{◌≡◌, inl, inr, ℕ, ◌≤◌, IsFalse, IsTrue, refl, arith}
use Rattle.conc_outside.specs.Counts.{Rose}
use Rattle.conc_run_state.specs.Causes.{Faulted, HasCause, is_journal_fault, is_refusal}
use Rattle.conc_run_state.specs.Fails.{of_run}
use Rattle.conc_run_state.specs.Handed.{Handed, IsUntouched}
use Rattle.conc_run_state.specs.declared.error.RunFail.{RunFail}
use Rattle.conc_run_state.specs.declared.error.RunFail.TheVariants as run_fail
use Rattle.conc_run_state.specs.declared.error.HistoryFail.TheVariants as history_fail
use Rattle.conc_run_state.specs.declared.error.DiskName.TheVariants as disk_name

-- a count that rose after it did not fall rose
pub rose-since : (before mid after : ℕ) → before ≤ mid → Rose mid after → Rose before after
rose-since before mid after le (inl less) = inl (omega arith)
rose-since before mid after le (inr most) = inr most

-- each failure of a run has its cause
pub failure-cause : (h : Handed) (fail : RunFail) → (fail ≡ run_fail.JournalFault → Faulted h disk_name.Journal) → (fail ≡ run_fail.SpoolFault → Faulted h disk_name.Spool) → HasCause h (of_run fail)
failure-cause h run_fail.JournalFault at_journal at_spool = at_journal refl
failure-cause h run_fail.SpoolFault at_journal at_spool = at_spool refl
failure-cause h run_fail.NoMemory at_journal at_spool = tt

-- and is no refusal
pub failure-late : (h : Handed) (fail : RunFail) → IsTrue (is_refusal (of_run fail)) → IsUntouched h
failure-late h run_fail.JournalFault refusal = absurd (cc refusal)
failure-late h run_fail.SpoolFault refusal = absurd (cc refusal)
failure-late h run_fail.NoMemory refusal = absurd (cc refusal)

-- it is no fault of the journal, where the run met none
pub failure-quiet : (fail : RunFail) → IsFalse (is_journal_fault (of_run fail)) → fail ≡ run_fail.JournalFault → ⊥
failure-quiet run_fail.JournalFault quiet is = cc quiet
failure-quiet run_fail.SpoolFault quiet is = cc is
failure-quiet run_fail.NoMemory quiet is = cc is

-- want of memory is told where the run found none
pub failure-memory : (fail : RunFail) → of_run fail ≡ history_fail.NoMemory → fail ≡ run_fail.NoMemory
failure-memory run_fail.JournalFault is = cc is
failure-memory run_fail.SpoolFault is = cc is
failure-memory run_fail.NoMemory is = refl
