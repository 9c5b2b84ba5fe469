-- The bytes that a sink took.
use Rattle.std.specs.Prelude.{◌≡◌, ℕ, List, ◌++◌, Option, take}
use Rattle.std.specs.Option.{option_map}

-- what a sink exposes of the bytes that it took, if it exposes them, and how often a write failed
pub record SinkState : Type 0 where
  pub taken : Option (List ℕ)
  pub faults : ℕ

-- where the sink exposes its bytes, it took exactly these bytes after what it had
abbrev pub Took : Option (List ℕ) → Option (List ℕ) → List ℕ → Type 0
Took old new bytes = new ≡ option_map (λ taken. taken ++ bytes) old

-- it took a prefix of these bytes
abbrev pub TookPrefix : Option (List ℕ) → Option (List ℕ) → List ℕ → Type 0
TookPrefix old new bytes = (n : ℕ) × Took old new (take n bytes)
