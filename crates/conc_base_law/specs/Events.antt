-- Equal events.
use Rattle.std.specs.Prelude.{Bool, true, false, ◌&&◌, ◌==◌, Option, None, Some}
use Rattle.conc_types.specs.declared.event.Event.{Event}
use Rattle.conc_types.specs.declared.event.Event.TheVariants as event
use Rattle.conc_types.specs.declared.event.Extent.{Extent}
use Rattle.conc_types.specs.declared.event.Outcome.{Outcome}
use Rattle.conc_types.specs.declared.event.Outcome.TheVariants as outcome
use Rattle.conc_base_law.specs.Words.{id_eq}

abbrev pub outcome_eq : Outcome → Outcome → Bool
outcome_eq outcome.Normal outcome.Normal = true
outcome_eq outcome.Warning outcome.Warning = true
outcome_eq outcome.Error outcome.Error = true
outcome_eq outcome.Terminated outcome.Terminated = true
outcome_eq outcome.Cancelled outcome.Cancelled = true
outcome_eq _ _ = false

abbrev pub extent_eq : Option Extent → Option Extent → Bool
extent_eq None None = true
extent_eq (Some x) (Some y) = x.offset == y.offset && x.length == y.length
extent_eq _ _ = false

unfoldable pub event_eq : Event → Event → Bool
event_eq (event.Tick t) (event.Tick u) = t.seconds == u.seconds
event_eq (event.Command m) (event.Command n) = m == n
event_eq (event.OpenSet a) (event.OpenSet b) = id_eq a b
event_eq (event.Stage a k) (event.Stage b l) = id_eq a b && k == l
event_eq (event.CloseSet a o) (event.CloseSet b p) = id_eq a b && outcome_eq o p
event_eq (event.LetOut a) (event.LetOut b) = id_eq a b
event_eq (event.Started a p) (event.Started b q) = id_eq a b && p.index == q.index
event_eq (event.Ended a o x) (event.Ended b p y) = id_eq a b && (outcome_eq o p && extent_eq x y)
event_eq event.Resume event.Resume = true
event_eq (event.Interrupt a) (event.Interrupt b) = id_eq a b
event_eq _ _ = false
