-- What a reader of records has still to give.
use Rattle.std.specs.Prelude.{◌≡◌, ℕ, ◌+◌, true, false, if◌then◌else◌, List, [], length, Option, Some, None}
use Rattle.csv.specs.Reading.{Ready, default_config, has_failed, is_flexible, reader_config, reader_state, reader_trim, records_from, source_of}
use Rattle.csv.specs.declared.parser.State.{State}
use Rattle.csv.specs.declared.reader.Trim.TheVariants as trim
use Rattle.conc_data_records.specs.Records.{Record}
use Rattle.conc_data_records.specs.declared.records.Records.TheInside.{Inside}

-- the records of the bytes that are left, if known, from a state
abbrev pub records_left : State → Option (List ℕ) → List Record
records_left state None = []
records_left state (Some bytes) = records_from default_config (length bytes + 1) state bytes

-- the records that are still to be read: none once there was an end
abbrev pub unread_of : Inside → List Record
unread_of a = if a.ended then [] else records_left (reader_state a.reader) (source_of (λ s. Some s.now) a.reader)

-- the reader reads as `records_of` says, and takes records of any length, unless it has ended
abbrev pub IsSetUp : Inside → Type 0
IsSetUp a = a.ended ≡ false
    → (reader_config a.reader ≡ default_config) × (reader_trim a.reader ≡ trim.None) × Ready a.reader × (has_failed a.reader ≡ false) × (is_flexible a.reader ≡ true)
