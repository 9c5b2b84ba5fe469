-- The number that one seat alone raises, and what each seat knows of it.
use Rattle.std.specs.Prelude.{◌≡◌, ℕ, ◌≤◌, true, false, List, length, slice_index, slice_index_or}
use Rattle.atomic_table.specs.Table.{Me, State, Step}
use Rattle.conc_view.specs.declared.marks.Known.{Known}

-- it knows of no number but 0
abbrev pub nothing : Known
nothing = record { raises = false; number = 0; least = 0 }

-- it raises the number, which is this one
abbrev pub raiser : ℕ → Known
raiser n = record { raises = true; number = n; least = n }

-- the number has reached this one
abbrev pub bounded : ℕ → Known
bounded n = record { raises = false; number = 0; least = n }

abbrev pub known_at : List Known → ℕ → Known
known_at views seat = slice_index_or views seat nothing

-- what the seat knows is so: the number is no less than its bound; and it is this number, if the seat raises it, which
-- one seat alone does
abbrev pub IsSo : ℕ → ℕ → ℕ → Known → Type 0
IsSo n one seat known = (known.least ≤ n) × (known.raises ≡ true → (seat ≡ one) × (known.number ≡ n))

-- there is one number, and what each seat knows is so
pub record IsBounded {S : Type 0} (s : State S Known) : Type 0 where
  pub one : ℕ
  pub word : length s.words ≡ 1
  pub each : (seat : ℕ) → IsSo (slice_index s.words 0) one seat (known_at s.views seat)

module _ {S : Type 0} where
  -- the number is now this one
  abbrev pub Raised : Step S → Me S Known → ℕ → Me S Known → Type 0
  Raised step before n after = (after.0 ≡ raiser n) × (after.1 ≡ before.1)

  -- the number found is the bound from now on, and no less than the one before; and it is the number of the seat that raises it
  abbrev pub Read : Step S → Me S Known → ℕ → Me S Known → Type 0
  Read step before n after = (after.0 ≡ record before.0 { least = n }) × (after.1 ≡ before.1) × (before.0.least ≤ n)
      × (before.0.raises ≡ true → before.0.number ≡ n)
