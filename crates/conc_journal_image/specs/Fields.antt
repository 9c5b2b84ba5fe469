-- What a record of a journal says. A record is a gate and 31 bytes behind it.
use Rattle.std.specs.Prelude.{◌≡◌, ℕ, Bool, true, false, ◌&&◌, ◌==◌, nat_lt, if◌then◌else◌, List, [], ◌∷◌, length, take, drop, slice_index, Option, None, Some}
use Rattle.std.specs.Bool.{then_some}
use Rattle.std.specs.Int.{from_be_bytes, w32, w64}
use Rattle.std.specs.List.{list_all}
use Rattle.std.specs.Option.{is_none, option_and_then, option_map}
use Rattle.conc_types.specs.declared.event.Event.{Event}
use Rattle.conc_types.specs.declared.event.Event.TheVariants as event
use Rattle.conc_types.specs.declared.event.Outcome.{Outcome}
use Rattle.conc_types.specs.declared.event.Outcome.TheVariants as outcome
use Rattle.conc_types.specs.declared.event.RequestId.{RequestId}
use Rattle.conc_types.specs.Words.{some_and}
use Rattle.conc_base_law.specs.Calendar.{moment_at}
use Rattle.conc_journal_image.specs.declared.fields.Fields.{Fields}

-- ---- bytes as fields

-- the number that the bytes from here on spell, the highest byte first
abbrev pub word_at : ℕ → List ℕ → ℕ
word_at at bytes = from_be_bytes w32 (take 4 (drop at bytes))

abbrev pub wide_at : ℕ → List ℕ → ℕ
wide_at at bytes = from_be_bytes w64 (take 8 (drop at bytes))

abbrev pub are_zero : List ℕ → Bool
are_zero bytes = list_all (λ b. b == 0) bytes

-- 31 bytes: the kind, the outcome, a 0, two numbers, a wide number, a length, and eight times 0
unfoldable pub fields_of : List ℕ → Option Fields
fields_of bytes =
    then_some
    (length bytes == 31 && (are_zero (take 1 (drop 2 bytes)) && are_zero (drop 23 bytes)))
    (record {
      kind = slice_index bytes 0;
      outcome = slice_index bytes 1;
      first = word_at 3 bytes;
      second = word_at 7 bytes;
      wide = wide_at 11 bytes;
      length = word_at 19 bytes;
    })

-- ---- fields as events

-- what no event of the kind uses is 0
abbrev pub has_first_alone : Fields → Bool
has_first_alone f = f.outcome == 0 && (f.second == 0 && (f.wide == 0 && f.length == 0))

-- but for the first number and the wide one
abbrev pub has_first_and_wide : Fields → Bool
has_first_and_wide f = f.outcome == 0 && (f.second == 0 && f.length == 0)

abbrev pub has_two_numbers : Fields → Bool
has_two_numbers f = f.outcome == 0 && (f.wide == 0 && f.length == 0)

abbrev pub has_a_wide_number : Fields → Bool
has_a_wide_number f = f.outcome == 0 && (f.first == 0 && (f.second == 0 && f.length == 0))

abbrev pub has_first_and_outcome : Fields → Bool
has_first_and_outcome f = f.second == 0 && (f.wide == 0 && f.length == 0)

abbrev pub request_of : ℕ → RequestId
request_of n = record { number = n }

-- the outcome that a report can have
abbrev pub report_outcome : ℕ → Option Outcome
report_outcome n =
    if n == 1 then Some outcome.Normal
    else if n == 2 then Some outcome.Warning
    else then_some (n == 3) outcome.Error

-- the number of an outcome, if it has one
abbrev pub outcome_number : Outcome → ℕ
outcome_number outcome.Normal = 1
outcome_number outcome.Warning = 2
outcome_number outcome.Error = 3
outcome_number outcome.Terminated = 4
outcome_number outcome.Cancelled = 0

-- a moment that the calendar has
abbrev pub tick_of : Fields → Option Event
tick_of f = then_some (has_a_wide_number f && nat_lt f.wide 315537897600) (event.Tick (moment_at f.wide))

-- the end of a set
abbrev pub close_of : Fields → Option Event
close_of f = if has_first_and_outcome f then option_map (λ o. event.CloseSet (request_of f.first) o) (report_outcome f.outcome) else None

-- the end of a request whose report has this outcome and stands there in the spool
abbrev pub report_end_of : Fields → Option Event
report_end_of f =
    if f.second == 0 && nat_lt 0 f.length
    then option_map (λ o. event.Ended (request_of f.first) o (Some (record { offset = f.wide; length = f.length }))) (report_outcome f.outcome)
    else None

-- the end of a request, with a report or by a termination
abbrev pub end_of : Fields → Option Event
end_of f =
    if f.outcome == 4 then then_some (has_first_and_outcome f) (event.Ended (request_of f.first) outcome.Terminated None)
    else report_end_of f

-- the event of these fields
unfoldable pub event_of : Fields → Option Event
event_of f =
    if f.kind == 1 then tick_of f
    else if f.kind == 2 then then_some (has_first_and_wide f) (event.Command f.first)
    else if f.kind == 3 then then_some (has_first_alone f) (event.OpenSet (request_of f.first))
    else if f.kind == 4 then then_some (has_two_numbers f) (event.Stage (request_of f.first) f.second)
    else if f.kind == 5 then close_of f
    else if f.kind == 6 then then_some (has_first_alone f) (event.LetOut (request_of f.first))
    else if f.kind == 7 then then_some (has_two_numbers f) (event.Started (request_of f.first) (record { index = f.second }))
    else if f.kind == 8 then end_of f
    else if f.kind == 9 then then_some (has_first_alone f && f.first == 0) event.Resume
    else then_some (f.kind == 10 && has_first_alone f) (event.Interrupt (request_of f.first))

-- the event that 31 bytes spell
unfoldable pub event_in : List ℕ → Option Event
event_in bytes = option_and_then event_of (fields_of bytes)

-- ---- stamps

-- the wide number of 31 bytes, which is a command's stamp
abbrev pub stamp_in : List ℕ → ℕ
stamp_in bytes = wide_at 11 bytes

-- the stamp, where the event is a command; no other has one
abbrev pub command_stamp : Event → ℕ → List ℕ
command_stamp (event.Command number) stamp = stamp ∷ []
command_stamp _ stamp = []

-- the event has a stamp: it is a command
abbrev pub has_stamp : Event → Bool
has_stamp (event.Command number) = true
has_stamp _ = false

-- the 31 bytes spell the event, with this stamp where it is a command
pub record IsSpelling (e : Event) (stamp : ℕ) (bytes : List ℕ) : Type 0 where
  pub event_is : event_in bytes ≡ Some e
  pub stamp_is : command_stamp e (stamp_in bytes) ≡ command_stamp e stamp

-- ---- events that have a record

abbrev pub is_report_outcome : Outcome → Bool
is_report_outcome outcome.Normal = true
is_report_outcome outcome.Warning = true
is_report_outcome outcome.Error = true
is_report_outcome _ = false

-- a report's text has an extent that is not empty, and what was terminated has none
abbrev pub has_record : Event → Bool
has_record (event.CloseSet set o) = is_report_outcome o
has_record (event.Ended request outcome.Terminated x) = is_none x
has_record (event.Ended request o x) = is_report_outcome o && some_and (λ extent. nat_lt 0 extent.length) x
has_record _ = true
