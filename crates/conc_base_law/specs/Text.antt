-- The text of a history: its events, a line `--`, and the table of its requests.
use Rattle.std.specs.Prelude.{ℕ, List, [], ◌∷◌, ◌++◌, codes, map, reverse, Option, None, Some, slice_get}
use Rattle.std.specs.Fmt.{decimal}
use Rattle.std.specs.List.{concat, join_with_byte}
use Rattle.std.specs.Option.{option_map_or}
use Rattle.conc_types.specs.declared.event.Event.{Event}
use Rattle.conc_types.specs.declared.event.Event.TheVariants as event
use Rattle.conc_types.specs.declared.event.Extent.{Extent}
use Rattle.conc_types.specs.declared.event.Outcome.{Outcome}
use Rattle.conc_types.specs.declared.event.Outcome.TheVariants as outcome
use Rattle.conc_types.specs.declared.event.Phase.{Phase}
use Rattle.conc_types.specs.declared.event.Phase.TheVariants as phase
use Rattle.conc_types.specs.declared.event.PlaceId.{PlaceId}
use Rattle.conc_types.specs.declared.event.RequestId.{RequestId}
use Rattle.conc_types.specs.declared.event.Status.{Status}
use Rattle.conc_types.specs.declared.event.Status.TheVariants as status
use Rattle.conc_types.specs.declared.plan.Plan.{Plan}
use Rattle.conc_types.specs.declared.plan.Req.{Req}
use Rattle.conc_types.specs.declared.item.Item.{Item}
use Rattle.conc_types.specs.declared.item.Item.TheVariants as item
use Rattle.conc_base_law.specs.Moments.{moment_text}
use Rattle.conc_base_law.specs.Places.{place_of}
use Rattle.conc_base_law.specs.State.{state}
use Rattle.conc_base_law.specs.Status.{status_of}

abbrev pub outcome_word : Outcome → List ℕ
outcome_word outcome.Normal = codes "Normal"
outcome_word outcome.Warning = codes "Warning"
outcome_word outcome.Error = codes "Error"
outcome_word outcome.Terminated = codes "Terminated"
outcome_word outcome.Cancelled = codes "Cancelled"

abbrev pub phase_word : Phase → List ℕ
phase_word phase.Pending = codes "Pending"
phase_word phase.Running = codes "Running"
phase_word phase.Completed = codes "Completed"
phase_word phase.Inactive = codes "Inactive"

abbrev pub status_word : Status → List ℕ
status_word status.Normal = codes "Normal"
status_word status.Standby = codes "Standby"
status_word status.Scheduled = codes "Scheduled"
status_word status.Waiting = codes "Waiting"
status_word status.Paused = codes "Paused"
status_word status.Terminating = codes "Terminating"
status_word status.Error = codes "Error"
status_word status.Warning = codes "Warning"
status_word status.Cancelled = codes "Cancelled"
status_word status.Terminated = codes "Terminated"
status_word status.Disabled = codes "Disabled"
status_word status.OnHold = codes "On Hold"
status_word status.NoManager = codes "No Manager"

abbrev pub spaced : List (List ℕ) → List ℕ
spaced words = join_with_byte 32 words

abbrev pub id_word : RequestId → List ℕ
id_word r = decimal r.number

-- M.N, the manager's and the place's number
unfoldable pub place_word : Plan → PlaceId → List ℕ
place_word plan place =
    option_map_or (λ p. decimal p.owner ++ codes "." ++ decimal p.number) (place_of plan place) []

abbrev pub extent_words : Option Extent → List (List ℕ)
extent_words None = []
extent_words (Some x) = decimal x.offset ∷ decimal x.length ∷ []

-- the words of an event
unfoldable pub event_words : Plan → Event → List (List ℕ)
event_words plan (event.Tick t) = codes "tick" ∷ moment_text t ∷ []
event_words plan (event.Command n) = codes "do" ∷ decimal n ∷ []
event_words plan (event.OpenSet s) = codes "open" ∷ id_word s ∷ []
event_words plan (event.Stage s k) = codes "stage" ∷ id_word s ∷ decimal k ∷ []
event_words plan (event.CloseSet s o) = codes "close" ∷ id_word s ∷ outcome_word o ∷ []
event_words plan (event.LetOut r) = codes "let" ∷ id_word r ∷ []
event_words plan (event.Started r p) = codes "start" ∷ id_word r ∷ place_word plan p ∷ []
event_words plan (event.Ended r o x) = codes "end" ∷ id_word r ∷ outcome_word o ∷ extent_words x
event_words plan event.Resume = codes "resume" ∷ []
event_words plan (event.Interrupt r) = codes "interrupt" ∷ id_word r ∷ []

abbrev pub line_of : List (List ℕ) → List ℕ
line_of words = spaced words ++ codes "\n"

-- the name of a request's program or set
unfoldable pub item_name : Plan → Item → List ℕ
item_name plan (item.Program n) = option_map_or (λ p. p.name) (slice_get plan.setup.programs n) []
item_name plan (item.Set n) = option_map_or (λ s. s.name) (slice_get plan.setup.sets n) []

-- the line of a submitted request
unfoldable pub request_line : Plan → List Event → Req → List ℕ
request_line plan past r =
    option_map_or (λ s. line_of (id_word r.number ∷ phase_word s.0 ∷ status_word s.1 ∷ item_name plan r.item ∷ []))
    (status_of plan (state plan past) r) []

-- the table of the submitted requests, in order of their numbers
unfoldable pub table_text : Plan → List Event → List ℕ
table_text plan past = concat (map (request_line plan past) plan.requests)

unfoldable pub events_text : Plan → List Event → List ℕ
events_text plan history = concat (map (λ e. line_of (event_words plan e)) history)

-- the whole text
unfoldable pub text_of : Plan → List Event → List ℕ
text_of plan history =
    events_text plan history ++ codes "--\n" ++ table_text plan (reverse history)
