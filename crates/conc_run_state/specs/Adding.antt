-- The bytes that a run adds to its journal.
use Rattle.std.specs.Prelude.{◌≡◌, ℕ, ◌+◌, List, [], ◌∷◌, unwrap_or}
use Rattle.conc_types.specs.declared.event.Event.{Event}
use Rattle.conc_types.specs.declared.event.Event.TheVariants as event
use Rattle.conc_types.specs.declared.plan.Plan.{Plan}
use Rattle.conc_types.specs.Plans.{stamp}
use Rattle.conc_disk.specs.Disk.{DiskState, SeenFollows, written}
use Rattle.conc_journal.specs.Writes.{behind_open_gate, Spells}
use Rattle.conc_journal_image.specs.Layout.{offset_behind}

-- the stamp with which an event is journaled: the plan's for a command, and 0 for every other event
abbrev pub stamp_for : Plan → Event → ℕ
stamp_for plan (event.Command number) = unwrap_or (stamp plan number) 0
stamp_for plan e = 0

-- The second image is the first with the records of these events, written after this many others: each behind an open gate, which is a 1, with
-- its stamp where it is a command's, and behind the last one a closed gate.
abbrev pub HasRecords : Plan → ℕ → List Event → List ℕ → List ℕ → Type 0
HasRecords plan records [] old new = new ≡ old
HasRecords plan records (e ∷ events) old new =
    (bytes : List ℕ) × Spells e (stamp_for plan e) bytes
    × HasRecords plan (records + 1) events (written (offset_behind records) (behind_open_gate bytes) old) new

-- where the disk exposes its bytes, a read gives what it gave with these records, and nothing else changed
abbrev pub AddsRecords : Plan → ℕ → List Event → DiskState → DiskState → Type 0
AddsRecords plan records events before after = SeenFollows (HasRecords plan records events) before after
