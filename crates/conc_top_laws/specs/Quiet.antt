-- Calls in which nothing of the outside fails.
use Rattle.std.specs.Prelude.{ℕ}
use Rattle.conc_outside.specs.Counts.{Rose}
use Rattle.conc_run_state.specs.Disks.{Disks}
use Rattle.conc_top.specs.Answers.{Around}

-- the count did not rise, nor does it stand at its end
abbrev pub IsQuiet : ℕ → ℕ → Type 0
IsQuiet before after = Rose before after → ⊥

-- no file was lacking, and no call of the shelf, of the clock or of the sink failed
pub record IsQuietAround (a : Around) : Type 0 where
  pub absences : IsQuiet a.before.shelf.absences a.after.shelf.absences
  pub shelf : IsQuiet a.before.shelf.faults a.after.shelf.faults
  pub clock : IsQuiet a.before.clock.faults a.after.clock.faults
  pub sink : IsQuiet a.sink.before.faults a.sink.after.faults

-- no call of a disk failed
pub record AreQuietDisks (d : Disks) : Type 0 where
  pub journal : IsQuiet d.journal_before.faults d.journal_after.faults
  pub spool : IsQuiet d.spool_before.faults d.spool_after.faults
