-- The states of a journal.
use Rattle.std.specs.Prelude.{ℕ, Bool, true, false, ◌==◌, Option, None, Some}
use Rattle.conc_types.specs.declared.event.Event.{Event}
use Rattle.conc_journal_image.specs.declared.label.Label.{Label}
use Rattle.conc_journal_image.specs.declared.label.Version.{Version}
use Rattle.conc_journal_image.specs.declared.label.Version.TheVariants.{One, Two}
use Rattle.conc_journal.specs.declared.journal.JournalState.{JournalState}
use Rattle.conc_journal.specs.declared.journal.JournalState.TheVariants.{NotBegun, BeginFailed, Begun, Broken, AppendFailed, MigrateFailed}

abbrev pub is_one : Version → Bool
is_one One = true
is_one Two = false

-- the label of the header, where the journal is begun
abbrev pub state_label : JournalState → Option Label
state_label NotBegun = None
state_label (BeginFailed label) = None
state_label (Begun label) = Some label
state_label (Broken label) = Some label
state_label (AppendFailed label event stamp) = Some label
state_label (MigrateFailed label base) = Some label

-- the state that goes with a label and a broken record, if there is one of each
abbrev pub state_with : Option Label → Option ℕ → JournalState
state_with None broken = NotBegun
state_with (Some label) None = Begun label
state_with (Some label) (Some number) = Broken label

-- it is begun and no record of it is broken
abbrev pub takes_events : JournalState → Bool
takes_events NotBegun = false
takes_events (BeginFailed label) = false
takes_events (Begun label) = true
takes_events (Broken label) = false
takes_events (AppendFailed label event stamp) = true
takes_events (MigrateFailed label base) = true

-- an append to it, or its migration, met a fault
abbrev pub has_faulted : JournalState → Bool
has_faulted NotBegun = false
has_faulted (BeginFailed label) = false
has_faulted (Begun label) = false
has_faulted (Broken label) = false
has_faulted (AppendFailed label event stamp) = true
has_faulted (MigrateFailed label base) = true

-- it is begun, of version 1, and no call met a fault
abbrev pub is_of_version_one : JournalState → Bool
is_of_version_one (Begun label) = is_one label.version
is_of_version_one _ = false

-- after an append of this event, with this stamp where it is a command, that met a fault
abbrev pub after_fault : Event → ℕ → JournalState → JournalState
after_fault event stamp (Begun label) = AppendFailed label event stamp
after_fault event stamp state = state

-- a journal with this many events may be at this state: before it is begun it has none
abbrev pub fits_count : JournalState → ℕ → Bool
fits_count NotBegun n = n == 0
fits_count (BeginFailed label) n = n == 0
fits_count (Begun label) n = true
fits_count (Broken label) n = true
fits_count (AppendFailed label event stamp) n = true
fits_count (MigrateFailed label base) n = true
