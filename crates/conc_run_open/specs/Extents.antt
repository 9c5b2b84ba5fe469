-- Which event's extent is the first that ends beyond a spool.
use Rattle.std.specs.Prelude.{ℕ, ◌-◌, ◌<◌, ◌≤◌, min, List, reverse, take}
use Rattle.conc_types.specs.declared.event.Event.{Event}
use Rattle.conc_base_law.specs.State.{used}

-- the bytes of all extents, or the greatest number of 64 bits where they are more
abbrev pub counted : List Event → ℕ
counted events = min (used (reverse events)) 18446744073709551615

-- the extents up to the event with this number, from 1, have more than so many bytes, and those before it have not
pub record IsFirstBeyond (len : ℕ) (events : List Event) (number : ℕ) : Type 0 where
  pub some : 1 ≤ number
  pub before : used (reverse (take (number - 1) events)) ≤ len
  pub beyond : len < used (reverse (take number events))
