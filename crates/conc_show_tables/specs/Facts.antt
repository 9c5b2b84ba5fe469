-- What a chart tells of a row.
use Rattle.std.specs.Prelude.{ℕ, ◌+◌, ◌-◌, if◌then◌else◌, List, [], ◌∷◌, Option, None, Some, slice_get, unwrap_or, flat_map}
use Rattle.std.specs.Option.{option_and_then}
use Rattle.conc_types.specs.declared.event.Event.{Event}
use Rattle.conc_types.specs.declared.event.Event.TheVariants as event
use Rattle.conc_types.specs.declared.event.Extent.{Extent}
use Rattle.conc_types.specs.declared.event.Moment.{Moment}
use Rattle.conc_types.specs.declared.event.RequestId.{RequestId}
use Rattle.conc_types.specs.Words.{numbered}
use Rattle.conc_base_law.specs.Kinds.{is_command}
use Rattle.conc_show_model.specs.declared.model.Chart.{Chart}
use Rattle.conc_show_model.specs.declared.model.Place.{Place}
use Rattle.conc_show_model.specs.declared.model.Planned.{Planned}
use Rattle.conc_show_model.specs.declared.model.Row.{Row}
use Rattle.conc_show_model.specs.declared.turns.Turn.{Turn}
use Rattle.conc_show_model.specs.Runs.{place_of}
use Rattle.conc_show_model.specs.Turns.{moments_of, turn_of}
use Rattle.conc_show_tables.specs.declared.facts.Facts.{Facts}

-- the place of a start
abbrev pub start_place : Event → Option Place
start_place (event.Started r p) = Some (place_of p)
start_place _ = None

-- the extent of an end
abbrev pub end_extent : Event → Option Extent
end_extent (event.Ended r o x) = x
end_extent _ = None

-- the seconds from one moment to another, where both are there
abbrev pub seconds_between : Option Moment → Option Moment → Option ℕ
seconds_between (Some from) (Some to) = Some (to.seconds - from.seconds)
seconds_between _ _ = None

-- the moment of the event at an index, if there is one
abbrev pub moment_in : List (Option Moment) → Option ℕ → Option Moment
moment_in moments index = option_and_then (λ i. unwrap_or (slice_get moments i) None) index

-- the event at an index, if there is one
abbrev pub event_in : List Event → Option ℕ → Option Event
event_in events index = option_and_then (slice_get events) index

abbrev pub place_in : List Event → Option ℕ → Option Place
place_in events index = option_and_then start_place (event_in events index)

abbrev pub extent_in : List Event → Option ℕ → Option Extent
extent_in events index = option_and_then end_extent (event_in events index)

abbrev pub set_of : Option Planned → Option RequestId
set_of planned = option_and_then (λ p. p.set) planned

abbrev pub command_of : Option Planned → Option ℕ
command_of planned = option_and_then (λ p. p.command) planned

-- the index of the first of these events with which the command of this number is done, where the first of them has index i
unfoldable pub first_done : ℕ → ℕ → List Event → Option ℕ
first_done number i [] = None
first_done number i (e ∷ later) = if is_command number e then Some i else first_done number (i + 1) later

-- the same for the command that entered a request, if it is known
abbrev pub done_of : List Event → Option Planned → Option ℕ
done_of events planned = option_and_then (λ number. first_done number 0 events) (command_of planned)

-- the facts of a request with this turn, of which the plan tells this
abbrev pub facts_with : List Event → List (Option Moment) → Turn → Option Planned → Facts
facts_with events moments turn planned = record {
  done_at = moment_in moments (done_of events planned);
  let_at = moment_in moments turn.let_out;
  start_at = moment_in moments turn.begun.start;
  end_at = moment_in moments turn.begun.end;
  place = place_in events turn.begun.start;
  extent = extent_in events turn.begun.end;
  set = set_of planned;
}

unfoldable pub facts_of : Chart → Row → Facts
facts_of chart row =
    facts_with chart.events (moments_of chart.events) (turn_of row.request chart.events) (numbered chart.planned row.request.number)

-- the line of each row, by its facts
abbrev pub rows_text : (Row → Facts → List ℕ) → Chart → List ℕ
rows_text line chart = flat_map (λ row. line row (facts_of chart row)) chart.rows
