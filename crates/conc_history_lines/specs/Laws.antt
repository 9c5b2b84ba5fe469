-- The laws on the text of a history.
use Rattle.std.specs.Prelude.{◌≡◌, ◌++◌, List, None, Some, IsTrue, codes, drop, ℕ}
use Rattle.std.specs.List.{list_all}
use Rattle.conc_types.specs.declared.event.Event.{Event}
use Rattle.conc_types.specs.declared.plan.Plan.{Plan}
use Rattle.conc_base_law.specs.Law.{LawfulSoFar}
use Rattle.conc_base_law.specs.Text.{event_words, events_text, spaced}
use Rattle.conc_history_lines.specs.EventLines.{event_of_line}
use Rattle.conc_history_lines.specs.History.{history_in}
use Rattle.conc_history_lines.specs.Lines.{has_line}
use Rattle.conc_history_lines.specs.Places.{starts_of}
use Rattle.conc_history_lines.specs.ReadBack.{IsReadBack}

-- an event line is the line that is written for its event
abbrev pub EventLinesHaveOneSpelling : Type 0
EventLinesHaveOneSpelling =
    (plan : Plan) (line : List ℕ) (e : Event) → event_of_line (starts_of plan) line ≡ Some e → line ≡ spaced (event_words plan e)

-- the line that is written for an event is read as this event
abbrev pub EventLinesAreReadBack : Type 0
EventLinesAreReadBack =
    (plan : Plan) (e : Event) → IsTrue (has_line plan e) → event_of_line (starts_of plan) (spaced (event_words plan e)) ≡ Some e

-- each event of a lawful history has a line
abbrev pub LawfulEventsHaveLines : Type 0
LawfulEventsHaveLines =
    (plan : Plan) (history : List Event) → LawfulSoFar plan history → IsTrue (list_all (has_line plan) history)

-- a history is read back from its text, where each of its events has a line
abbrev pub LinesAreReadBack : Type 0
LinesAreReadBack =
    (plan : Plan) (history : List Event) → IsTrue (list_all (has_line plan) history) → IsReadBack plan history

-- and so is a lawful one
abbrev pub LawfulIsReadBack : Type 0
LawfulIsReadBack = (plan : Plan) (history : List Event) → LawfulSoFar plan history → IsReadBack plan history

-- a text that is read without a bad line is the text of the events that are read, as far as the table
abbrev pub ReadTextsHaveOneSpelling : Type 0
ReadTextsHaveOneSpelling =
    (plan : Plan) (bytes : List ℕ) → (history_in (starts_of plan) bytes).bad ≡ None
    → bytes
    ≡ events_text plan (history_in (starts_of plan) bytes).events ++ codes "--\n"
    ++ drop (history_in (starts_of plan) bytes).next bytes
