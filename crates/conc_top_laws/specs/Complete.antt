-- Each command does what it is for, over any shelf, sink, disks and clock.
use Rattle.std.specs.Prelude.{ℕ, List}
use Rattle.conc_disk.specs.declared.disk.Disk.{Ghosts as DiskGhosts}
use Rattle.conc_edge_clock.specs.declared.clock.Clock.{Ghosts as ClockGhosts}
use Rattle.conc_outside.specs.declared.shelf.Shelf.{Ghosts as ShelfGhosts}
use Rattle.conc_outside.specs.declared.sink.Sink.{Ghosts as SinkGhosts}
use Rattle.conc_types.specs.declared.event.RequestId.{RequestId}
use Rattle.conc_run_state.specs.Disks.{Disks, disks}
use Rattle.conc_top.specs.declared.exit.Exit.{Exit}
use Rattle.conc_top.specs.Answers.{Around, around}
use Rattle.conc_top.specs.Printing.{sunk}
use Rattle.conc_top_laws.specs.Completes.{CheckCompletes, MakeCompletes, OutputCompletes, PlanCompletes, RepeatCompletes, RunCompletes, StatusCompletes}

-- what a command is handed, at one moment
pub record Handles (F O D E C : Type 0) : Type 0 where
  pub shelf : F
  pub out : O
  pub journal : D
  pub spool : E
  pub clock : C

module _ {F O D E C : Type 0} (f : ShelfGhosts F) (o : SinkGhosts O) (d : DiskGhosts D) (e : DiskGhosts E) (c : ClockGhosts C) where
  -- what surrounds the command, from one moment to another
  abbrev pub around_by : Handles F O D E C → Handles F O D E C → Around
  around_by old new = around (f.state old.shelf) (f.state new.shelf) (c.state old.clock) (c.state new.clock) (sunk (o.state old.out) (o.state new.out))

  -- its two disks
  abbrev pub disks_by : Handles F O D E C → Handles F O D E C → Disks
  disks_by old new = disks (d.state old.journal) (d.state new.journal) (e.state old.spool) (e.state new.spool)

  -- a command completes, whatever it was handed, whatever became of that, and however it ended
  abbrev pub Always : (Around → Disks → Exit → Type 0) → Type 0
  Always Completes = (old new : Handles F O D E C) (end : Exit) → Completes (around_by old new) (disks_by old new) end

  -- ---- the laws

  abbrev pub RunsComplete : Type 0
  RunsComplete = (setup script file : List ℕ) (threads watchers : ℕ) → Always (RunCompletes setup script file threads watchers)

  abbrev pub PlansComplete : Type 0
  PlansComplete = (setup script : List ℕ) → Always (PlanCompletes setup script)

  abbrev pub ChecksComplete : Type 0
  ChecksComplete = (setup script file history : List ℕ) → Always (CheckCompletes setup script file history)

  abbrev pub StatusesComplete : Type 0
  StatusesComplete = (setup script : List ℕ) → Always (StatusCompletes setup script)

  abbrev pub OutputsComplete : Type 0
  OutputsComplete = (setup script : List ℕ) (id : RequestId) → Always (OutputCompletes setup script id)

  abbrev pub RepeatsComplete : Type 0
  RepeatsComplete = (name : List ℕ) → Always (RepeatCompletes name)

  abbrev pub MakesComplete : Type 0
  MakesComplete = (seed size : ℕ) → Always (MakeCompletes seed size)
