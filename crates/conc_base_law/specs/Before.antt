-- What occurs in the events before a position. They are given as a list with the latest first.
use Rattle.std.specs.Prelude.{Bool, false, not, ◌&&◌, ◌||◌, List, [], ◌∷◌, Option, None, if◌then◌else◌}
use Rattle.std.specs.List.{list_any}
use Rattle.std.specs.Option.{option_or}
use Rattle.conc_types.specs.declared.event.Event.{Event}
use Rattle.conc_base_law.specs.Kinds.{is_resume}

-- an event of the kind occurs
abbrev pub occurs : (Event → Bool) → List Event → Bool
occurs kind past = list_any kind past

-- an event of the kind occurs, with none of the other kind after it. A kind may look at the events before the event
abbrev pub occurs_since : (List Event → Event → Bool) → (List Event → Event → Bool) → List Event → Bool
occurs_since kind other [] = false
occurs_since kind other (e ∷ past) = kind past e || (not (other past e) && occurs_since kind other past)

-- what the latest event says that says something
abbrev pub latest : {T : Type 0} → (Event → Option T) → List Event → Option T
latest says [] = None
latest says (e ∷ past) = option_or (says e) (latest says past)

-- the same, with no event of the other kind after it
abbrev pub latest_since : {T : Type 0} → (Event → Option T) → (Event → Bool) → List Event → Option T
latest_since says other [] = None
latest_since says other (e ∷ past) =
    option_or (says e) (if other e then None else latest_since says other past)

-- the events of the last life, which begins with the last resume, if there is one
unfoldable pub last_life : List Event → List Event
last_life [] = []
last_life (e ∷ past) = if is_resume e then [] else e ∷ last_life past

-- the events before that resume
unfoldable pub earlier_lives : List Event → List Event
earlier_lives [] = []
earlier_lives (e ∷ past) = if is_resume e then past else earlier_lives past
