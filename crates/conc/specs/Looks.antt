-- Which words ask for a look at what a run left.
use Rattle.std.specs.Prelude.{◌≡◌, ◌⊎◌, ℕ, List, Option, Some, codes}

-- the first word is that of a command that shows the journal or a report
abbrev pub AsksForLook : Option (List ℕ) → Type 0
AsksForLook first = (first ≡ Some (codes "status")) ⊎ (first ≡ Some (codes "output"))
