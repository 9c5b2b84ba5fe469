-- The book: the events that were told, and the word that has their number.
use Rattle.std.specs.Prelude.{◌≡◌, ◌==◌, ℕ, true, List, [], ◌∷◌, ◌++◌, length, MatchBool}
use Rattle.logbook.specs.Pages.{Book, Cell, Named, Step, View}
use Rattle.conc_types.specs.declared.event.Event.{Event}

-- the book's first word is the number of its events. A book has two words, of which this one leaves the second at 0
abbrev pub IsCounted : List Cell → List Event → Type 0
IsCounted cells events = cells ≡ (length events, true) ∷ (0, true) ∷ []

-- the first word of a book
abbrev pub first_word : Book → Named
first_word book = record { tracked = true; key = 0; book = book }

-- where the number found is the one that was asked for, the event was added to all that had been seen; else what is
-- seen is as long as the number found
abbrev pub AddsOne : Step Event → View Event ℕ → ℕ → View Event ℕ → Type 0
AddsOne step before found after =
    MatchBool (found == step.old) (after.0 ≡ before.0 ++ step.ask ∷ []) (length after.0 ≡ found)
