-- What is lawful at a position of a history.
use Rattle.std.specs.Prelude.{◌≡◌, ◌↔◌, ℕ, ◌-◌, ◌<◌, ◌≤◌, Bool, if◌then◌else◌, nat_lt, IsFalse, IsTrue, List, drop, length, reverse, take, Option, None, Some}
use Rattle.std.specs.List.{list_any}
use Rattle.conc_types.specs.declared.event.Event.{Event}
use Rattle.conc_types.specs.declared.plan.Plan.{Plan}
use Rattle.conc_types.specs.declared.script.Reading.{Reading}
use Rattle.conc_types.specs.Words.{numbered, some_and}
use Rattle.conc_base_law.specs.Kinds.{is_resume}
use Rattle.conc_base_law.specs.Law.{Lawful, may_follow}

-- the readings that are known where these events come later: none where one of them begins another life
unfoldable pub known_before : List Reading → List Event → Option (List Reading)
known_before readings later = if list_any is_resume later then None else Some readings

-- so many events stand before the last life, with its resume: a resume comes behind each of them but the last, and behind no other
abbrev pub AreBeforeLastLife : List Event → ℕ → Type 0
AreBeforeLastLife history count = (k : ℕ) → list_any is_resume (drop k history) ≡ nat_lt k count

-- the event at the position, from 1, may follow those before it
unfoldable pub is_lawful_at : Plan → List Reading → List Event → ℕ → Bool
is_lawful_at plan readings history i =
    some_and (may_follow plan (known_before readings (drop i history)) (reverse (take (i - 1) history))) (numbered history i)

-- so at each position up to this one
abbrev pub AreLawfulTo : Plan → List Reading → List Event → ℕ → Type 0
AreLawfulTo plan readings history n = (i : ℕ) → 1 ≤ i → i ≤ n → IsTrue (is_lawful_at plan readings history i)

-- the position is the first of the history at which the event is not lawful
pub record IsFirstBad (plan : Plan) (readings : List Reading) (history : List Event) (position : ℕ) : Type 0 where
  pub first : 1 ≤ position
  pub within : position ≤ length history
  pub before : (i : ℕ) → 1 ≤ i → i < position → IsTrue (is_lawful_at plan readings history i)
  pub bad : IsFalse (is_lawful_at plan readings history position)

-- a history is lawful exactly where the event at each of its positions is
abbrev pub LawfulAtEachPosition : Type 0
LawfulAtEachPosition =
    (plan : Plan) (readings : List Reading) (history : List Event)
    → Lawful plan readings history ↔ AreLawfulTo plan readings history (length history)
