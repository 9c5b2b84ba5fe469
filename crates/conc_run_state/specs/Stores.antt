-- What a run of an input was handed, with the two disks that a call borrows.
use Rattle.std.specs.Prelude.{◌≡◌}
use Rattle.conc_disk.specs.declared.disk.Disk.{Ghosts as DiskGhosts}
use Rattle.conc_run_state.specs.Disks.{Disks, disks}
use Rattle.conc_run_state.specs.Handed.{Handed, handed}
use Rattle.conc_run_state.specs.declared.input.Input.{Input}
use Rattle.conc_run_state.specs.declared.stores.Stores.{Stores}

-- the same two disks are borrowed
pub record SameStores {D E : Type 0} (old new : Stores D E) : Type 0 where
  pub journal : new.journal.ghost_name ≡ old.journal.ghost_name
  pub spool : new.spool.ghost_name ≡ old.spool.ghost_name

-- the two disks, before and after
abbrev pub disks_of : {D E : Type 0} → DiskGhosts D → DiskGhosts E → Stores D E → Stores D E → Disks
disks_of d e old new = disks (d.state old.journal.now) (d.state new.journal.now) (e.state old.spool.now) (e.state new.spool.now)

-- this input, and a journal's disk and a spool's before and after
abbrev pub handed_with : {D E : Type 0} → DiskGhosts D → DiskGhosts E → Input → D → D → E → E → Handed
handed_with d e input journal journal' spool spool' =
    handed input.plan.now input.readings.now input.digests.now (d.state journal) (d.state journal') (e.state spool) (e.state spool')

-- this input, and the two disks before and after
abbrev pub ran_over : {D E : Type 0} → DiskGhosts D → DiskGhosts E → Input → Stores D E → Stores D E → Handed
ran_over d e input old new = handed_with d e input old.journal.now new.journal.now old.spool.now new.spool.now
