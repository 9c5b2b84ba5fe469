-- What the bytes of a journal stand for.
use Rattle.std.specs.Prelude.{◌≡◌, ℕ, zero, suc, ◌+◌, Bool, ◌&&◌, ◌||◌, not, ◌==◌, nat_le, if◌then◌else◌, List, [], ◌∷◌, ◌++◌, codes, length, take, drop, slice_index, Option, None, Some, IsTrue, ⊤}
use Rattle.std.specs.Str.{bytes_eq}
use Rattle.conc_types.specs.declared.event.Event.{Event}
use Rattle.conc_journal_image.specs.declared.layout.TheConstants.{MOST_RECORDS}
use Rattle.conc_journal_image.specs.declared.label.Label.{Label}
use Rattle.conc_journal_image.specs.declared.label.Version.{Version}
use Rattle.conc_journal_image.specs.declared.label.Version.TheVariants.{One, Two}
use Rattle.conc_journal_image.specs.Fields.{command_stamp, event_in, IsSpelling, wide_at}
use Rattle.conc_journal_image.specs.Layout.{offset_behind}

-- ---- the header

-- the gate that begins these bytes is closed; any byte but 0 is open
abbrev pub is_closed : List ℕ → Bool
is_closed bytes = slice_index bytes 0 == 0

-- no journal was begun here: at most one byte, or the gate of the header is closed
unfoldable pub is_not_begun : List ℕ → Bool
is_not_begun image = nat_le (length image) 1 || is_closed image

-- the 64 bytes of the header, and the gate of the first record
unfoldable pub has_header : List ℕ → Bool
has_header image =
    nat_le 65 (length image) && (not (is_closed image) && bytes_eq (take 15 (drop 1 image)) (codes "conc journal 1\n"))

-- the digest of all files, where the journal is of version 1
abbrev pub digest_in : List ℕ → List ℕ
digest_in image = take 32 (drop 16 image)

-- the first bytes of the digest of all files but the script, where it is of version 2
abbrev pub base_in : List ℕ → List ℕ
base_in image = take 15 (drop 48 image)

-- the last byte of the header tells the version
abbrev pub version_in : List ℕ → Version
version_in image = if slice_index image 63 == 0 then One else Two

abbrev pub label_in : List ℕ → Label
label_in image = record { version = version_in image; digest = digest_in image; base = base_in image }

-- the image has what this label says and what counts in this version
abbrev pub Tells : Version → Label → List ℕ → Type 0
Tells One label image = digest_in image ≡ label.digest
Tells Two label image = base_in image ≡ label.base

-- the image is of the label's version, and has what the label says and what counts in it
pub record IsLabelled (label : Label) (image : List ℕ) : Type 0 where
  pub version : version_in image ≡ label.version
  pub tells : Tells label.version label image

-- ---- the records

-- the events that were found, and the number of the record that is broken
pub record Found : Type 0 where
  pub events : List Event
  pub broken : Option ℕ

abbrev pub with_event : Event → Found → Found
with_event e found = record found { events = e ∷ found.events }

-- what is found behind these events
abbrev pub with_events : List Event → Found → Found
with_events events found = record { events = events ++ found.events; broken = found.broken }

abbrev pub ends_here : Found
ends_here = record { events = []; broken = None }

abbrev pub breaks_here : ℕ → Found
breaks_here number = record { events = []; broken = Some number }

-- the event of the record that begins these bytes, where the gate of the next one is there too
abbrev pub whole_record : List ℕ → Option Event
whole_record bytes = if nat_le 33 (length bytes) then event_in (take 31 (drop 1 bytes)) else None

-- the record with this number, if it is whole, before what was found behind it
abbrev pub found_with : ℕ → Option Event → Found → Found
found_with number (Some e) found = with_event e found
found_with number None found = breaks_here number

-- what is found from the record with this number on, where so many may still be taken
unfoldable pub found_from : ℕ → ℕ → List ℕ → Found
found_from zero number bytes = if is_closed bytes then ends_here else breaks_here number
found_from (suc more) number bytes =
    if is_closed bytes then ends_here
    else found_with number (whole_record bytes) (found_from more (number + 1) (drop 32 bytes))

-- what is found behind the header, where a journal has at most so many records
unfoldable pub found_in : List ℕ → Found
found_in image = found_from MOST_RECORDS 1 (drop 64 image)

-- ---- the stamps

-- the wide number of the record whose gate begins these bytes
abbrev pub stamp_at : List ℕ → ℕ
stamp_at bytes = wide_at 12 bytes

-- the stamps of the commands among these events, whose records stand here one after the other
unfoldable pub stamps_from : List Event → List ℕ → List ℕ
stamps_from [] bytes = []
stamps_from (e ∷ events) bytes = command_stamp e (stamp_at bytes) ++ stamps_from events (drop 32 bytes)

-- those of all events that are found
unfoldable pub stamps_in : List ℕ → List ℕ
stamps_in image = stamps_from (found_in image).events (drop 64 image)

-- in version 2 these are the stamps; in version 1 they count for nothing
abbrev pub HasStamps : Version → List ℕ → List ℕ → Type 0
HasStamps One stamps image = ⊤
HasStamps Two stamps image = stamps_in image ≡ stamps

-- ---- journals

-- the image has a header with this label, no record of it is broken, and these are its events and the stamps of its commands
pub record IsJournal (label : Label) (stamps : List ℕ) (events : List Event) (image : List ℕ) : Type 0 where
  pub header : IsTrue (has_header image)
  pub labelled : IsLabelled label image
  pub found : found_in image ≡ record { events = events; broken = None }
  pub stamped : HasStamps label.version stamps image

-- ---- a record that is added

-- Behind the gate of the record after these events stand its bytes, with this stamp where it is a command's, and the closed gate of the one after it.
pub record HasNext (events : List Event) (e : Event) (stamp : ℕ) (image : List ℕ) : Type 0 where
  pub bytes : List ℕ
  pub spelled : IsSpelling e stamp bytes
  pub here : take 32 (drop (offset_behind (length events) + 1) image) ≡ bytes ++ 0 ∷ []
