-- The events and the rows of a chart as lines of JSON.
use Rattle.std.specs.Prelude.{ℕ, ◌+◌, ◌||◌, ◌==◌, if◌then◌else◌, List, [], ◌∷◌, ◌++◌, codes, flat_map, Option}
use Rattle.std.specs.Fmt.{decimal}
use Rattle.std.specs.Option.{option_map_or}
use Rattle.conc_types.specs.declared.event.Event.{Event}
use Rattle.conc_types.specs.declared.event.Event.TheVariants as event
use Rattle.conc_types.specs.declared.event.Extent.{Extent}
use Rattle.conc_types.specs.declared.event.Moment.{Moment}
use Rattle.conc_types.specs.declared.event.Outcome.{Outcome}
use Rattle.conc_types.specs.declared.event.RequestId.{RequestId}
use Rattle.conc_base_law.specs.Moments.{moment_text}
use Rattle.conc_base_law.specs.Text.{outcome_word, phase_word, status_word}
use Rattle.conc_show_model.specs.declared.model.Chart.{Chart}
use Rattle.conc_show_model.specs.declared.model.Place.{Place}
use Rattle.conc_show_model.specs.declared.model.Row.{Row}
use Rattle.conc_show_model.specs.Runs.{place_of}
use Rattle.conc_show_tables.specs.declared.facts.Facts.{Facts}
use Rattle.conc_show_tables.specs.Facts.{rows_text, seconds_between}
use Rattle.conc_show_model.specs.Words.{place_text}

-- ---- members: a comma, the key, and the value

-- a byte of a text: a quote and a backslash stand behind a backslash
abbrev pub escaped : ℕ → List ℕ
escaped byte = if byte == 34 || byte == 92 then 92 ∷ byte ∷ [] else byte ∷ []

abbrev pub quoted : List ℕ → List ℕ
quoted text = codes "\"" ++ text ++ codes "\""

abbrev pub key_text : List ℕ → List ℕ
key_text key = codes ",\"" ++ key ++ codes "\":"

abbrev pub member : List ℕ → List ℕ → List ℕ
member key value = key_text key ++ value

abbrev pub number_member : List ℕ → ℕ → List ℕ
number_member key n = member key (decimal n)

abbrev pub moment_member : List ℕ → Moment → List ℕ
moment_member key t = member key (quoted (moment_text t))

abbrev pub place_member : Place → List ℕ
place_member p = member (codes "place") (quoted (place_text p))

-- what is not known is null
abbrev pub null_member : List ℕ → List ℕ
null_member key = member key (codes "null")

abbrev pub json_number : List ℕ → Option ℕ → List ℕ
json_number key n = option_map_or (number_member key) n (null_member key)

abbrev pub json_moment : List ℕ → Option Moment → List ℕ
json_moment key t = option_map_or (moment_member key) t (null_member key)

abbrev pub json_place : Option Place → List ℕ
json_place p = option_map_or place_member p (null_member (codes "place"))

abbrev pub json_set : Option RequestId → List ℕ
json_set s = option_map_or (λ r. number_member (codes "set") r.number) s (null_member (codes "set"))

abbrev pub json_extent : Option Extent → List ℕ
json_extent x =
    option_map_or (λ e. number_member (codes "offset") e.offset ++ number_member (codes "length") e.length) x
    (null_member (codes "offset") ++ null_member (codes "length"))

abbrev pub json_request : RequestId → List ℕ
json_request r = number_member (codes "request") r.number

abbrev pub json_outcome : Outcome → List ℕ
json_outcome o = member (codes "outcome") (quoted (outcome_word o))

-- ---- events

-- what an event is
abbrev pub json_what : Event → List ℕ
json_what (event.Tick t) = quoted (codes "tick") ++ moment_member (codes "moment") t
json_what (event.Command n) = quoted (codes "do") ++ number_member (codes "command") n
json_what (event.OpenSet s) = quoted (codes "open") ++ json_request s
json_what (event.Stage s k) = quoted (codes "stage") ++ json_request s ++ number_member (codes "stage") k
json_what (event.CloseSet s o) = quoted (codes "close") ++ json_request s ++ json_outcome o
json_what (event.LetOut r) = quoted (codes "let") ++ json_request r
json_what (event.Started r p) = quoted (codes "start") ++ json_request r ++ place_member (place_of p)
json_what (event.Ended r o x) = quoted (codes "end") ++ json_request r ++ json_outcome o ++ json_extent x
json_what event.Resume = quoted (codes "resume")
json_what (event.Interrupt r) = quoted (codes "interrupt") ++ json_request r

unfoldable pub json_event : ℕ → Event → List ℕ
json_event number e = codes "{\"event\":" ++ decimal number ++ codes ",\"what\":" ++ json_what e ++ codes "}\n"

-- the lines of events that are numbered from this number on
unfoldable pub json_events : ℕ → List Event → List ℕ
json_events number [] = []
json_events number (e ∷ later) = json_event number e ++ json_events (number + 1) later

-- ---- rows

abbrev pub name_member : List ℕ → List ℕ
name_member name = member (codes "program") (quoted (flat_map escaped name))

abbrev pub word_member : List ℕ → List ℕ → List ℕ
word_member key word = member key (quoted word)

-- request,program,set,phase,status
abbrev pub json_names : Row → Facts → List ℕ
json_names row f =
    codes "\"request\":" ++ decimal row.request.number ++ name_member row.name ++ json_set f.set ++ word_member (codes "phase") (phase_word row.phase)
    ++ word_member (codes "status") (status_word row.status)

-- place,do,let,start,end,waited,ran,offset,length
abbrev pub json_facts : Facts → List ℕ
json_facts f =
    json_place f.place ++ json_moment (codes "do") f.done_at ++ json_moment (codes "let") f.let_at
    ++ json_moment (codes "start") f.start_at ++ json_moment (codes "end") f.end_at
    ++ json_number (codes "waited") (seconds_between f.let_at f.start_at)
    ++ json_number (codes "ran") (seconds_between f.start_at f.end_at) ++ json_extent f.extent

abbrev pub json_with : Row → Facts → List ℕ
json_with row f = codes "{" ++ json_names row f ++ json_facts f ++ codes "}\n"

-- a line for each event, then a line for each row
unfoldable pub json_text : Chart → List ℕ
json_text chart = json_events 1 chart.events ++ rows_text json_with chart
