-- A journal on its way from version 1 to version 2.
use Rattle.std.specs.Prelude.{◌≡◌, ℕ, zero, suc, ◌+◌, ◌≤◌, List, [], ◌∷◌, Option, Some, count_by, drop, is_some, length, slice_get, slice_index, take, IfSome}
use Rattle.std.specs.Int.{to_be_bytes, w64}
use Rattle.std.specs.Option.{option_map}
use Rattle.conc_types.specs.declared.event.Event.{Event}
use Rattle.conc_types.specs.declared.event.Event.TheVariants as event
use Rattle.conc_disk.specs.Disk.{DiskState, Reaches, written}
use Rattle.conc_disk.specs.Left.{EachImage, LeavesOnly}
use Rattle.conc_journal_image.specs.Fields.{has_stamp}
use Rattle.conc_journal_image.specs.Headers.{migrated}
use Rattle.conc_journal_image.specs.Image.{IsJournal, stamps_from}
use Rattle.conc_journal_image.specs.Layout.{offset_behind}
use Rattle.conc_journal_image.specs.declared.label.Label.{Label}
use Rattle.conc_journal_image.specs.declared.label.Version.TheVariants.{One}

-- the image is that of a journal with these events; in version 1 no stamps count
abbrev pub IsOfOne : Label → List Event → List ℕ → Type 0
IsOfOne label events image = IsJournal label [] events image

-- the image is that of the same journal of version 2, with this base digest and these stamps
abbrev pub IsOfTwo : Label → List ℕ → List ℕ → List Event → List ℕ → Type 0
IsOfTwo label base stamps events image = IsJournal (migrated label base) stamps events image

-- the records of the events have these stamps
abbrev pub HaveStamps : List Event → List ℕ → List ℕ → Type 0
HaveStamps events stamps image = stamps_from events (drop 64 image) ≡ stamps

-- ---- the bytes that are written

-- the image, with this stamp in the record at this index, where its event is a command
abbrev pub with_stamp_of : Option Event → ℕ → ℕ → List ℕ → List ℕ
with_stamp_of (Some (event.Command n)) k stamp image = written (offset_behind k + 12) (to_be_bytes w64 stamp) image
with_stamp_of e k stamp image = image

-- the image with the stamps of the commands among the first events, each stamp in the record of its command
abbrev pub with_stamps : ℕ → List Event → List ℕ → List ℕ → List ℕ
with_stamps zero events stamps image = image
with_stamps (suc k) events stamps image =
    with_stamp_of (slice_get events k) k (slice_index stamps (count_by has_stamp (take k events))) (with_stamps k events stamps image)

-- the image of a journal that was brought to version 2: the stamps are in the records of the commands, the base digest is in the header, and
-- the gate of the version is 1; each other byte is as it was
abbrev pub migrated_image : List Event → List ℕ → List ℕ → List ℕ → List ℕ
migrated_image events base stamps image = written 63 (1 ∷ []) (written 48 base (with_stamps (length events) events stamps image))

-- where the disk exposes its bytes, these were written, and nothing else
abbrev pub HasMigrated : List Event → List ℕ → List ℕ → DiskState → DiskState → Type 0
HasMigrated events base stamps old new = new.seen ≡ option_map (migrated_image events base stamps) old.seen

-- ---- on the way

-- While stamps were written, each image stayed that of a journal of version 1 with these events, if it was one before.
pub record StaysOfOne (events : List Event) (old new : DiskState) : Type 0 where
  pub exposes : is_some new.seen ≡ is_some old.seen
  pub faults : old.faults ≤ new.faults
  pub images : (label : Label) → label.version ≡ One → EachImage (IsOfOne label events) old → EachImage (IsOfOne label events) new
  pub survives : (label : Label) → label.version ≡ One → EachImage (IsOfOne label events) old → LeavesOnly (IsOfOne label events) old new

-- So many of the events are done, and where they are commands, so many stamps are written into their records.
pub record IsStamping (events : List Event) (stamps : List ℕ) (done number : ℕ) (old new : DiskState) : Type 0 where
  pub stays : StaysOfOne events old new
  pub number_is : number ≡ count_by has_stamp (take done events)
  pub reaches : Reaches new (offset_behind (length events) + 1)
  pub written : IfSome new.seen (HaveStamps (take done events) (take number stamps))
  pub bytes : new.seen ≡ option_map (with_stamps done events stamps) old.seen
