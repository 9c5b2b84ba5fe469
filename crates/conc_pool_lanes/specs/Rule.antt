-- The rule of a lane: what was put is what was taken, and then what the lane holds.
use Rattle.std.specs.Prelude.{◌≡◌, ℕ, ◌<◌, ◌==◌, true, false, List, [], ◌∷◌, ◌++◌, length, if◌then◌else◌, ⊤}
use mathlib.Core.Option.{some}
use lib.ListN.{get_elem?}
use Rattle.conc_types.specs.declared.event.RequestId.{RequestId}
use Rattle.conc_pool_lanes.specs.declared.rule.Log.{Log}

-- the view of the pass that has put these
abbrev pub putter : List RequestId → Log
putter requests = record { puts = true; requests = requests }

-- the view of a pass that has taken these
abbrev pub taker : List RequestId → Log
taker requests = record { puts = false; requests = requests }

-- those that the pass with this number took, of requests that are given with the numbers of the passes that took them
unfoldable pub taken_by : ℕ → List RequestId → List ℕ → List RequestId
taken_by port [] takers = []
taken_by port (r ∷ taken) [] = []
taken_by port (r ∷ taken) (by ∷ takers) =
    if by == port then r ∷ taken_by port taken takers else taken_by port taken takers

-- each of the numbers is below this one
unfoldable pub AreBelow : ℕ → List ℕ → Type 0
AreBelow n [] = ⊤
AreBelow n (port ∷ ports) = (port < n) × AreBelow n ports

-- What a lane holds, the oldest first, and what each pass knows. Of the requests that were put some were taken, in order and
-- each by one pass, and the others are there.
pub record IsInOrder (items : List RequestId) (views : List Log) : Type 0 where
  pub writer : ℕ
  pub taken : List RequestId
  pub takers : List ℕ
  pub each_once : length takers ≡ length taken
  pub known : AreBelow (length views) takers
  pub put : (port : ℕ) (v : Log) → get_elem? views port ≡ some v → v.puts ≡ true → (port ≡ writer) × (v.requests ≡ taken ++ items)
  pub took : (port : ℕ) (v : Log) → get_elem? views port ≡ some v → v.puts ≡ false → v.requests ≡ taken_by port taken takers
