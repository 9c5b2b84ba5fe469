-- The bytes that a journal writes.
use Rattle.std.specs.Prelude.{ℕ, ◌<◌, List, [], ◌∷◌, ◌++◌, take, All}
use Rattle.conc_types.specs.declared.event.Event.{Event}
use Rattle.conc_disk.specs.Disk.{DiskState}
use Rattle.conc_disk.specs.Left.{HasWritten}
use Rattle.conc_journal_image.specs.Fields.{IsSpelling}
use Rattle.conc_types.specs.declared.digests.Digests.{Digests}
use Rattle.conc_journal_image.specs.Headers.{header_behind}
use Rattle.conc_journal_image.specs.Layout.{offset_behind}

-- these are the 31 bytes that spell the event, with this stamp where it is a command; there are no others
pub record Spells (event : Event) (stamp : ℕ) (bytes : List ℕ) : Type 0 where
  pub spelling : IsSpelling event stamp bytes
  pub are_bytes : All (λ byte. byte < 256) bytes

-- an open gate, which is a 1, the bytes of a record, and the closed gate of the record behind it
abbrev pub behind_open_gate : List ℕ → List ℕ
behind_open_gate bytes = 1 ∷ (bytes ++ 0 ∷ [])

-- where the disk exposes its bytes, the record behind so many others was written, with the closed gate behind it, and nothing else
abbrev pub HasAppended : Event → ℕ → ℕ → DiskState → DiskState → Type 0
HasAppended event stamp records old new = (bytes : List ℕ) × Spells event stamp bytes × HasWritten (offset_behind records) (behind_open_gate bytes) old new

-- where the disk exposes its bytes, the header with these digests was written, with the closed gate behind it, and nothing else
abbrev pub HasBegun : Digests → DiskState → DiskState → Type 0
HasBegun digests old new = HasWritten 0 (1 ∷ header_behind digests.full (take 15 digests.base)) old new
