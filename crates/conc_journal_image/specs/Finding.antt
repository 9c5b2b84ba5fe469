-- Records that are found piece by piece.
use Rattle.std.specs.Prelude.{◌≡◌, ℕ, ◌+◌, ◌-◌, ◌≤◌, List, ◌++◌, count_by, drop, length, take, Option}
use Rattle.conc_journal_image.specs.Fields.{has_stamp}
use Rattle.conc_journal_image.specs.Image.{found_from, found_in, stamps_from, stamps_in, with_events}
use Rattle.conc_journal_image.specs.Image.{Found as FoundThere}
use Rattle.conc_journal_image.specs.Layout.{offset_behind}
use Rattle.conc_journal_image.specs.declared.found.Found.{Found}
use Rattle.conc_journal_image.specs.declared.found.Search.{Search}
use Rattle.conc_journal_image.specs.declared.found.Search.TheVariants as search
use Rattle.conc_journal_image.specs.declared.layout.TheConstants.{MOST_RECORDS}

-- the bytes begin what is left
abbrev pub Begins : List ℕ → List ℕ → Type 0
Begins bytes left = bytes ≡ take (length bytes) left

-- no more than a journal may have, and a stamp for each command
pub record AreCounted (found : Found) : Type 0 where
  pub few : length found.events.items ≤ MOST_RECORDS
  pub stamped : length found.stamps.items ≡ count_by has_stamp found.events.items

-- what is left of an image behind their records
abbrev pub left_behind : List ℕ → Found → List ℕ
left_behind image found = drop (offset_behind (length found.events.items)) image

-- what is found there
abbrev pub found_behind : List ℕ → Found → FoundThere
found_behind image found = found_from (MOST_RECORDS - length found.events.items) (length found.events.items + 1) (left_behind image found)

-- they are the first events of the image, with the stamps of the commands among them: with what is found behind them they are all
pub record AreFirst (image : List ℕ) (found : Found) : Type 0 where
  pub events : with_events found.events.items (found_behind image found) ≡ found_in image
  pub stamps : found.stamps.items ++ stamps_from (found_behind image found).events (left_behind image found) ≡ stamps_in image

-- they are all events of the image, and this is the number of its record that is broken, if one is
pub record AreAll (image : List ℕ) (found : Found) (broken : Option ℕ) : Type 0 where
  pub events : found_in image ≡ record { events = found.events.items; broken = broken }
  pub stamps : stamps_in image ≡ found.stamps.items

-- what is known of them as the search stands
abbrev pub Leads : List ℕ → Found → Search → Type 0
Leads image found search.GoesOn = AreFirst image found
Leads image found (search.Ended broken) = AreAll image found broken

-- one more was found where the search goes on
abbrev pub HasNextOrEnds : Found → Found → Search → Type 0
HasNextOrEnds old new state = state ≡ search.GoesOn → length new.events.items ≡ length old.events.items + 1
