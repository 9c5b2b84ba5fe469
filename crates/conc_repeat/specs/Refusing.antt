-- The rules of a file of repeats, and its first fault.
use Rattle.std.specs.Prelude.{ℕ, ◌+◌, ◌-◌, Bool, true, false, not, ◌&&◌, ◌||◌, nat_lt, if◌then◌else◌, List, [], ◌∷◌, get_or, length, take, Option, Some, is_none, is_some}
use Rattle.std.specs.List.{list_all, range_with_len, sum_by}
use Rattle.std.specs.Str.{bytes_eq, is_utf8}
use Rattle.conc_types.specs.declared.kind.RefusalKind.{RefusalKind}
use Rattle.conc_types.specs.declared.kind.RefusalKind.TheVariants as refused
use Rattle.conc_types.specs.Faults.{Fault, first_broken, first_fault}
use Rattle.conc_types.specs.Texts.{is_name, is_text}
use Rattle.conc_types.specs.Words.{has_length, is_empty, some_and}
use Rattle.conc_base_law.specs.Calendar.{moment_of}
use Rattle.conc_data_records.specs.Records.{Record, records_of}
use Rattle.conc_repeat.specs.declared.courses.Course.{Course}
use Rattle.conc_repeat.specs.Series.{argument_field, course_of, domain_field, every_field, from_field, header, moment_in, number_up_to, priority_field, times_field, times_of, unit_field, unit_of, user_field, what_field}

-- nine fields of UTF-8
unfoldable pub is_record : Record → Bool
is_record r = has_length 9 r && list_all is_utf8 r

-- the form of the fields that a submission has
abbrev pub submission_form : Record → Bool
submission_form r =
    is_name (what_field r)
    && (is_name (user_field r)
    && ((is_empty (priority_field r) || is_some (number_up_to 99 (priority_field r)))
    && ((is_empty (domain_field r) || is_name (domain_field r)) && is_text 200 (argument_field r))))

-- the form of each field but the unit
unfoldable pub has_form : Record → Bool
has_form r =
    is_some (moment_of (from_field r))
    && (is_some (number_up_to 1000 (every_field r)) && (is_some (number_up_to 4096 (times_field r)) && submission_form r))

-- the calendar has each moment of the series
unfoldable pub is_within_calendar : Course → Bool
is_within_calendar c = list_all (λ k. is_some (moment_in c k)) (range_with_len 0 c.times)

-- the rules of a record behind records of so many commands, in their order, with whether it breaks them
abbrev pub record_rules : ℕ → Record → List (Bool × RefusalKind)
record_rules commands r =
    (not (is_record r), refused.NotRepeats) ∷ (not (has_form r), refused.BadRepeat) ∷ (is_none (unit_of (unit_field r)), refused.UnknownUnit)
    ∷ (not (some_and is_within_calendar (course_of r)), refused.PastEnd) ∷ (nat_lt 4096 (commands + times_of r), refused.TooManyCommands) ∷ []

-- the record with this number, from 1
abbrev pub record_at : List Record → ℕ → Record
record_at records n = get_or records (n - 1) []

-- how many commands the records before one say
unfoldable pub commands_before : List Record → ℕ → ℕ
commands_before records n = sum_by times_of (take (n - 1) records)

-- the first rule that the record with this number breaks
unfoldable pub record_kind : List Record → ℕ → Option RefusalKind
record_kind records n = first_broken (record_rules (commands_before records n) (record_at records n))

abbrev pub same_fields : Record → Record → Bool
same_fields [] [] = true
same_fields (field ∷ fields) (other ∷ others) = bytes_eq field other && same_fields fields others
same_fields _ _ = false

-- the first fault of these records: that the first one is not the header or is not there, or that of a later one
abbrev pub records_fault : List Record → Option Fault
records_fault [] = Some (1, refused.NotRepeats)
records_fault (first ∷ rest) =
    if same_fields first header then first_fault (record_kind (first ∷ rest)) 2 (length rest) else Some (1, refused.NotRepeats)

-- the first fault of a file of repeats: its size, or that of a record
unfoldable pub repeats_fault : List ℕ → Option Fault
repeats_fault bytes =
    if nat_lt 67108864 (length bytes) then Some (0, refused.TooManyCommands) else records_fault (records_of bytes)
