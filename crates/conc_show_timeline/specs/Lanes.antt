-- The line of a place.
use Rattle.std.specs.Prelude.{ℕ, ◌+◌, ◌-◌, nat_lt, if◌then◌else◌, List, [], ◌∷◌, ◌++◌, codes, flat_map, length}
use Rattle.std.specs.Fmt.{decimal}
use Rattle.conc_types.specs.declared.event.Event.{Event}
use Rattle.conc_types.specs.declared.event.Event.TheVariants as event
use Rattle.conc_show_model.specs.Runs.{place_of}
use Rattle.conc_show_model.specs.declared.model.Place.{Place}
use Rattle.conc_show_model.specs.Places.{place_eq}
use Rattle.conc_show_model.specs.Words.{place_text}
use Rattle.conc_show_timeline.specs.Names.{blanks}

-- the word of an event in the line of a place: | for a reading, and the number of a request that starts there
abbrev pub words_at : Place → Event → List (List ℕ)
words_at place (event.Tick t) = codes "|" ∷ []
words_at place (event.Started r p) = if place_eq (place_of p) place then decimal r.number ∷ [] else []
words_at place _ = []

-- a word behind so many columns: behind a blank, or in the next line
abbrev pub wrapped : ℕ → List ℕ → List ℕ
wrapped used word = if nat_lt 100 (used + 1 + length word) then codes "\n       " ++ word else 32 ∷ word

-- the columns up to the end of that word
abbrev pub used_after : ℕ → List ℕ → ℕ
used_after used word = if nat_lt 100 (used + 1 + length word) then 7 + length word else used + 1 + length word

-- words, one after the other
abbrev pub wrapped_all : ℕ → List (List ℕ) → List ℕ
wrapped_all used [] = []
wrapped_all used (word ∷ later) = wrapped used word ++ wrapped_all (used_after used word) later

-- the place, filled up with blanks to six columns
unfoldable pub head_text : Place → List ℕ
head_text place = place_text place ++ blanks (6 - length (place_text place))

-- the lines of a place
unfoldable pub lane_text : List Event → Place → List ℕ
lane_text events place =
    head_text place ++ wrapped_all (length (head_text place)) (flat_map (words_at place) events) ++ codes "\n"
