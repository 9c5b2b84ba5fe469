-- The events of a history, judged one by one: what a chart refuses.
use Rattle.std.specs.Prelude.{ℕ, ◌+◌, Bool, not, ◌&&◌, ◌==◌, if◌then◌else◌, List, [], ◌∷◌, ◌++◌, filter, Option, None, Some}
use Rattle.std.specs.List.{list_any}
use Rattle.std.specs.Option.{option_map_or}
use Rattle.conc_types.specs.declared.event.Event.{Event}
use Rattle.conc_types.specs.declared.event.Event.TheVariants as event
use Rattle.conc_types.specs.declared.event.RequestId.{RequestId}
use Rattle.conc_types.specs.Words.{none_or}
use Rattle.conc_base_law.specs.Words.{id_eq}
use Rattle.conc_show_model.specs.declared.fail.ChartRefusal.{ChartRefusal}
use Rattle.conc_show_model.specs.declared.fail.ChartWhy.{ChartWhy}
use Rattle.conc_show_model.specs.declared.fail.ChartWhy.TheVariants as why
use Rattle.conc_show_model.specs.declared.judging.Going.{Going}
use Rattle.conc_show_model.specs.declared.model.Place.{Place}
use Rattle.conc_show_model.specs.declared.model.Row.{Row}
use Rattle.conc_show_model.specs.Runs.{place_of}
use Rattle.conc_show_model.specs.Whys.{in_history}

-- the request that an event is about
abbrev pub named : Event → Option RequestId
named (event.Tick t) = None
named (event.Command n) = None
named (event.OpenSet s) = Some s
named (event.Stage s k) = Some s
named (event.CloseSet s o) = Some s
named (event.LetOut r) = Some r
named (event.Started r p) = Some r
named (event.Ended r o x) = Some r
named event.Resume = None
named (event.Interrupt r) = Some r

unfoldable pub has_row : List Row → RequestId → Bool
has_row rows r = list_any (λ row. id_eq row.request r) rows

-- ---- who runs where

abbrev pub is_of : RequestId → Going → Bool
is_of r g = id_eq g.request r

abbrev pub stands_at : Place → Going → Bool
stands_at p g = g.place.manager == p.manager && g.place.number == p.number

-- the requests that run after an event, with their places
abbrev pub going_after : List Going → Event → List Going
going_after going (event.Tick t) = going
going_after going (event.Command n) = going
going_after going (event.OpenSet s) = going
going_after going (event.Stage s k) = going
going_after going (event.CloseSet s o) = going
going_after going (event.LetOut r) = going
going_after going (event.Started r p) = going ++ record { request = r; place = place_of p } ∷ []
going_after going (event.Ended r o x) = filter (λ g. not (is_of r g)) going
going_after going event.Resume = going
going_after going (event.Interrupt r) = filter (λ g. not (is_of r g)) going

-- ---- what is wrong with an event

abbrev pub start_fault : List Going → RequestId → Place → Option ChartWhy
start_fault going r p =
    if list_any (is_of r) going then Some why.RunsAlready
    else (if list_any (stands_at p) going then Some why.PlaceTaken else None)

abbrev pub end_fault : List Going → RequestId → Option ChartWhy
end_fault going r = if list_any (is_of r) going then None else Some why.DoesNotRun

abbrev pub going_fault : List Going → Event → Option ChartWhy
going_fault going (event.Tick t) = None
going_fault going (event.Command n) = None
going_fault going (event.OpenSet s) = None
going_fault going (event.Stage s k) = None
going_fault going (event.CloseSet s o) = None
going_fault going (event.LetOut r) = None
going_fault going (event.Started r p) = start_fault going r (place_of p)
going_fault going (event.Ended r o x) = end_fault going r
going_fault going event.Resume = None
going_fault going (event.Interrupt r) = end_fault going r

unfoldable pub fault_at : List Row → List Going → Event → Option ChartWhy
fault_at rows going e = if none_or (has_row rows) (named e) then going_fault going e else Some why.NoSuchRequest

-- what is wrong with the first of these events with which something is; they are numbered from this number on
unfoldable pub fault_from : List Row → List Going → ℕ → List Event → Option ChartRefusal
fault_from rows going number [] = None
fault_from rows going number (e ∷ later) =
    option_map_or (λ w. Some (in_history w number)) (fault_at rows going e) (fault_from rows (going_after going e) (number + 1) later)

-- the same of all events of a history
abbrev pub events_fault : List Row → List Event → Option ChartRefusal
events_fault rows events = fault_from rows [] 1 events
