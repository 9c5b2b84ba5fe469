-- Keys as the leaves of a tree of which each inner node is the lesser of the two below it.
use Rattle.std.specs.Prelude.{◌≡◌, ℕ, ◌+◌, ◌*◌, ◌<◌, ◌≤◌, List, length, slice_index_or, Option, None}
use Rattle.conc_event_queue.specs.Least.{lesser}

-- the key of a node
abbrev pub node : List (Option ℕ) → ℕ → Option ℕ
node nodes i = slice_index_or nodes i None

-- the lesser of the two nodes below a node
abbrev pub played : List (Option ℕ) → ℕ → Option ℕ
played nodes i = lesser (node nodes (i * 2)) (node nodes (i * 2 + 1))

-- the slots are the last nodes, and each node before them is the lesser of the two below it; no node is at 0
pub record IsTournament (slots : ℕ) (nodes : List (Option ℕ)) : Type 0 where
  pub size : length nodes ≡ slots * 2
  pub inner : (i : ℕ) → 1 ≤ i → i < slots → node nodes i ≡ played nodes i

-- the same, but perhaps for one node
pub record IsTournamentBut (slots : ℕ) (nodes : List (Option ℕ)) (one : ℕ) : Type 0 where
  pub size : length nodes ≡ slots * 2
  pub inner : (i : ℕ) → 1 ≤ i → i < slots → (i ≡ one → ⊥) → node nodes i ≡ played nodes i
