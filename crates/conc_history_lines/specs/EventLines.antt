-- The event that a line is, by its words. One blank stands between two words.
use Rattle.std.specs.Prelude.{ℕ, ◌==◌, if◌then◌else◌, List, [], ◌∷◌, codes, Option, None, Some}
use Rattle.std.specs.Bool.{then_some}
use Rattle.std.specs.List.{slice_split}
use Rattle.std.specs.Option.{option_and_then, option_map}
use Rattle.std.specs.Str.{bytes_eq}
use Rattle.conc_types.specs.declared.event.Event.{Event}
use Rattle.conc_types.specs.declared.event.Event.TheVariants as event
use Rattle.conc_types.specs.declared.event.Outcome.TheVariants as outcome
use Rattle.conc_types.specs.declared.event.RequestId.{RequestId}
use Rattle.conc_base_law.specs.Calendar.{moment_of}
use Rattle.conc_history_lines.specs.Numbers.{extent_of, id_of, number_of, outcome_of, stage_of}
use Rattle.conc_history_lines.specs.Places.{place_of}

-- a word alone
unfoldable pub bare_event : List ℕ → Option Event
bare_event word = then_some (bytes_eq word (codes "resume")) event.Resume

-- a word and the request or set that it is about
abbrev pub event_about : List ℕ → RequestId → Option Event
event_about word r =
    if bytes_eq word (codes "open") then Some (event.OpenSet r)
    else if bytes_eq word (codes "let") then Some (event.LetOut r)
    else if bytes_eq word (codes "interrupt") then Some (event.Interrupt r)
    else None

-- a word and what it is about
unfoldable pub short_event : List ℕ → List ℕ → Option Event
short_event word what =
    if bytes_eq word (codes "tick") then option_map (λ t. event.Tick t) (moment_of what)
    else if bytes_eq word (codes "do") then option_map (λ n. event.Command n) (number_of what)
    else option_and_then (event_about word) (id_of what)

-- a word, a request or a set, and how it goes on; where the places are those of the table
unfoldable pub long_event : List ℕ → List ℕ → List ℕ → List ℕ → Option Event
long_event starts word what how =
    if bytes_eq word (codes "stage") then option_and_then (λ s. option_map (λ k. event.Stage s k) (stage_of how)) (id_of what)
    else if bytes_eq word (codes "close") then option_and_then (λ s. option_map (λ o. event.CloseSet s o) (outcome_of how)) (id_of what)
    else if bytes_eq word (codes "start") then option_and_then (λ r. option_map (λ p. event.Started r p) (place_of starts how)) (id_of what)
    else if bytes_eq word (codes "end") then option_and_then (λ r. then_some (bytes_eq how (codes "Terminated")) (event.Ended r outcome.Terminated None)) (id_of what)
    else None

-- an end with an extent
unfoldable pub report_event : List ℕ → List ℕ → List ℕ → List ℕ → List ℕ → Option Event
report_event word what how offset length =
    if bytes_eq word (codes "end")
    then option_and_then (λ r. option_and_then (λ o. option_map (λ x. event.Ended r o (Some x)) (extent_of offset length)) (outcome_of how)) (id_of what)
    else None

abbrev pub event_of_words : List ℕ → List (List ℕ) → Option Event
event_of_words starts (word ∷ []) = bare_event word
event_of_words starts (word ∷ what ∷ []) = short_event word what
event_of_words starts (word ∷ what ∷ how ∷ []) = long_event starts word what how
event_of_words starts (word ∷ what ∷ how ∷ offset ∷ length ∷ []) = report_event word what how offset length
event_of_words starts _ = None

abbrev pub words_of : List ℕ → List (List ℕ)
words_of line = slice_split (λ byte. byte == 32) line

-- the event that a line without its LF is, if it is an event line
unfoldable pub event_of_line : List ℕ → List ℕ → Option Event
event_of_line starts line = event_of_words starts (words_of line)
