-- Laws over all bytes.
use Rattle.std.specs.Prelude.{◌≡◌, ◌≢◌, ◌⊎◌, ◌+◌, ◌^◌, ◌<◌, ◌≤◌, ◌∷◌, ◌++◌, [], ℕ, List, All, IsTrue, Some, drop, length, slice_get, slice_index, take}
use Rattle.std.specs.Int.{to_be_bytes, w64}
use Rattle.conc_types.specs.declared.event.Event.{Event}
use Rattle.conc_types.specs.declared.event.Event.TheVariants as event
use Rattle.conc_journal_image.specs.Fields.{command_stamp, event_in, has_record, IsSpelling}
use Rattle.conc_journal_image.specs.Headers.{BeginsJournal}
use Rattle.conc_journal_image.specs.Image.{found_in, has_header, HasNext, IsJournal, is_not_begun, label_in, stamps_from, stamps_in}
use Rattle.conc_journal_image.specs.Layout.{offset_behind}
use Rattle.conc_journal_image.specs.declared.label.Label.{Label}
use Rattle.conc_journal_image.specs.declared.label.Version.TheVariants.{One, Two}
use Rattle.conc_journal_image.specs.declared.layout.TheConstants.{MOST_BYTES, MOST_RECORDS}

-- ---- records

-- what is spelled has a record
abbrev pub SpelledHasRecord : Type 0
SpelledHasRecord = (bytes : List ℕ) (e : Event) → event_in bytes ≡ Some e → IsTrue (has_record e)

-- an event has one spelling, and a command one for each stamp
abbrev pub SpellingIsUnique : Type 0
SpellingIsUnique =
    (one another : List ℕ) (e : Event) (stamp : ℕ) → All (λ byte. byte < 256) one → All (λ byte. byte < 256) another
    → IsSpelling e stamp one → IsSpelling e stamp another → one ≡ another

-- ---- images

-- two bytes tell whether a journal is begun
abbrev pub FrontTellsBegun : Type 0
FrontTellsBegun = (image : List ℕ) (n : ℕ) → 2 ≤ n → is_not_begun (take n image) ≡ is_not_begun image

-- 65 bytes tell whether an image has a header
abbrev pub FrontTellsHeader : Type 0
FrontTellsHeader = (image : List ℕ) (n : ℕ) → 65 ≤ n → has_header (take n image) ≡ has_header image

-- 64 bytes tell the label
abbrev pub FrontTellsLabel : Type 0
FrontTellsLabel = (image : List ℕ) (n : ℕ) → 64 ≤ n → label_in (take n image) ≡ label_in image

-- the bytes of the longest journal tell the records
abbrev pub FrontTellsFound : Type 0
FrontTellsFound = (image : List ℕ) (n : ℕ) → MOST_BYTES ≤ n → found_in (take n image) ≡ found_in image

-- and the stamps
abbrev pub FrontTellsStamps : Type 0
FrontTellsStamps = (image : List ℕ) (n : ℕ) → MOST_BYTES ≤ n → stamps_in (take n image) ≡ stamps_in image

-- a journal has the bytes of its records, and one more
abbrev pub JournalIsLongEnough : Type 0
JournalIsLongEnough =
    (label : Label) (stamps image : List ℕ) (events : List Event) → IsJournal label stamps events image
    → offset_behind (length events) + 1 ≤ length image

-- a journal has no more events than may have records
abbrev pub JournalHasFewEvents : Type 0
JournalHasFewEvents =
    (label : Label) (stamps image : List ℕ) (events : List Event) → IsJournal label stamps events image
    → length events ≤ MOST_RECORDS

-- ---- stops

-- the bytes change at most from this one on, and before that one
abbrev pub ChangesOnly : ℕ → ℕ → List ℕ → List ℕ → Type 0
ChangesOnly from to old new = (take from new ≡ take from old) × (drop to new ≡ drop to old)

-- while a journal is begun, the bytes behind its closed gate may be anything
abbrev pub NotBegunStays : Type 0
NotBegunStays =
    (old new : List ℕ) → IsTrue (is_not_begun old) → 2 ≤ length old → take 1 new ≡ take 1 old → IsTrue (is_not_begun new)

-- with the header behind the gate no journal is begun, or one without events
abbrev pub GateBegins : Type 0
GateBegins =
    (label : Label) (header image : List ℕ) → BeginsJournal label header → take 64 (drop 1 image) ≡ header
    → IsTrue (is_not_begun image) ⊎ IsJournal label [] [] image

-- a journal stays the same while the bytes behind its last gate change
abbrev pub JournalStays : Type 0
JournalStays =
    (label : Label) (stamps old new : List ℕ) (events : List Event) → IsJournal label stamps events old
    → take (offset_behind (length events) + 1) new ≡ take (offset_behind (length events) + 1) old
    → IsJournal label stamps events new

-- at most the last gate of a journal with these events changes
abbrev pub ChangesLastGate : List Event → List ℕ → List ℕ → Type 0
ChangesLastGate events old new = ChangesOnly (offset_behind (length events)) (offset_behind (length events) + 1) old new

-- a journal has room for one more event, and its record and stamp stand behind the last gate
pub record HasRoomFor (label : Label) (stamps : List ℕ) (events : List Event) (e : Event) (stamp : ℕ) (image : List ℕ) : Type 0 where
  pub journal : IsJournal label stamps events image
  pub room : length events < MOST_RECORDS
  pub next : HasNext events e stamp image

-- whatever the last gate is then, a journal has its events, or the next one too
abbrev pub GateAdds : Type 0
GateAdds =
    (label : Label) (stamps old new : List ℕ) (events : List Event) (e : Event) (stamp : ℕ)
    → HasRoomFor label stamps events e stamp old → ChangesLastGate events old new → length old ≤ length new
    → IsJournal label stamps events new ⊎ IsJournal label (stamps ++ command_stamp e stamp) (events ++ e ∷ []) new

-- with that gate open it has the next one
abbrev pub OpenGateAdds : Type 0
OpenGateAdds =
    (label : Label) (stamps old new : List ℕ) (events : List Event) (e : Event) (stamp : ℕ)
    → HasRoomFor label stamps events e stamp old → ChangesLastGate events old new
    → slice_index new (offset_behind (length events)) ≢ 0
    → IsJournal label (stamps ++ command_stamp e stamp) (events ++ e ∷ []) new

-- ---- from version 1 to version 2

-- a journal of version 1 stays the same while the bytes change in which a command of it has its stamp
abbrev pub StampingKeeps : Type 0
StampingKeeps =
    (label : Label) (stamps old new : List ℕ) (events : List Event) (k number : ℕ)
    → label.version ≡ One → IsJournal label stamps events old → slice_get events k ≡ Some (event.Command number)
    → length new ≡ length old → ChangesOnly (offset_behind k + 12) (offset_behind k + 20) old new
    → IsJournal label stamps events new

-- the image with this stamp in the record at this index
abbrev pub with_stamp : ℕ → ℕ → List ℕ → List ℕ
with_stamp k stamp image = take (offset_behind k + 12) image ++ to_be_bytes w64 stamp ++ drop (offset_behind k + 20) image

-- with a stamp written there, the command has it, and the commands before it have theirs
abbrev pub StampingStamps : Type 0
StampingStamps =
    (old : List ℕ) (before : List Event) (number stamp : ℕ) → stamp < 2 ^ 64 → offset_behind (length before) + 20 ≤ length old
    → stamps_from (before ++ event.Command number ∷ []) (drop 64 (with_stamp (length before) stamp old))
    ≡ stamps_from before (drop 64 old) ++ stamp ∷ []

-- a journal of version 1 stays the same while the bytes change in which version 2 has the base digest
abbrev pub BasingKeeps : Type 0
BasingKeeps =
    (label : Label) (stamps old new : List ℕ) (events : List Event) → label.version ≡ One
    → IsJournal label stamps events old → length new ≡ length old → ChangesOnly 48 63 old new
    → IsJournal label stamps events new

-- in a journal of version 1 stand the base digest of a label of version 2, and its stamps
pub record IsBased (label based : Label) (stamps : List ℕ) (events : List Event) (image : List ℕ) : Type 0 where
  pub one : label.version ≡ One
  pub two : based.version ≡ Two
  pub journal : IsJournal label stamps events image
  pub base : take 15 (drop 48 image) ≡ based.base
  pub stamped : stamps_in image ≡ stamps

-- whatever the last gate of its header is then, it is a journal of version 1, or of version 2 with these
abbrev pub VersionTurns : Type 0
VersionTurns =
    (label based : Label) (stamps old new : List ℕ) (events : List Event) → IsBased label based stamps events old
    → length new ≡ length old → ChangesOnly 63 64 old new
    → IsJournal label stamps events new ⊎ IsJournal based stamps events new

-- with that gate open it is of version 2
abbrev pub OpenGateTurns : Type 0
OpenGateTurns =
    (label based : Label) (stamps old new : List ℕ) (events : List Event) → IsBased label based stamps events old
    → length new ≡ length old → ChangesOnly 63 64 old new → slice_index new 63 ≢ 0
    → IsJournal based stamps events new
