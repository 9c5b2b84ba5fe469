-- The moments of events.
use Rattle.std.specs.Prelude.{ℕ, List, [], ◌∷◌, codes, Option, Some, slice_get}
use Rattle.conc_types.specs.declared.event.Event.{Event}
use Rattle.conc_types.specs.declared.event.Event.TheVariants as event
use Rattle.conc_types.specs.declared.event.Moment.{Moment}
use Rattle.conc_base_law.specs.Moments.{moment_text}

-- the moment of an event, behind one with this moment
abbrev pub moment_after : Option Moment → Event → Option Moment
moment_after before (event.Tick t) = Some t
moment_after before _ = before

-- the moment of each of these events, behind one with this moment
abbrev pub moments_from : Option Moment → List Event → List (Option Moment)
moments_from before [] = []
moments_from before (e ∷ later) = moment_after before e ∷ moments_from (moment_after before e) later

abbrev pub word_of : Option (Option Moment) → List ℕ
word_of (Some (Some t)) = moment_text t
word_of _ = codes "the beginning"

-- the moment of the event with this index
unfoldable pub moment_word : List (Option Moment) → ℕ → List ℕ
moment_word moments index = word_of (slice_get moments index)
