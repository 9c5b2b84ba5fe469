-- Running intervals, and that those of requests which exclude each other do not overlap.
use Rattle.std.specs.Prelude.{◌≡◌, ℕ, Bool, ◌<◌, ◌⊎◌, List, length, slice_get, IsTrue, if◌then◌else◌}
use Rattle.conc_types.specs.declared.event.Event.{Event}
use Rattle.conc_types.specs.declared.plan.Plan.{Plan}
use Rattle.conc_types.specs.declared.plan.Req.{Req}
use Rattle.conc_types.specs.Words.{some_and}
use Rattle.conc_base_law.specs.Words.{Has, is_set}
use Rattle.conc_base_law.specs.Plans.{are_exclusive}
use Rattle.conc_base_law.specs.Kinds.{closes, opens, starts, ends_run}

-- the event begins or ends a running interval of r: of a set from open to close, else from a start to an end or interrupt
abbrev pub begins_interval : Req → Event → Bool
begins_interval r e = if is_set r.item then opens r.number e else starts r.number e

abbrev pub ends_interval : Req → Event → Bool
ends_interval r e = if is_set r.item then closes r.number e else ends_run r.number e

-- the history has such an event at the position
abbrev pub HasAt : (Event → Bool) → List Event → ℕ → Type 0
HasAt kind history i = IsTrue (some_and kind (slice_get history i))

-- a running interval of r begins at i, and ends at j, or lasts to the end of the history
pub record IsInterval (history : List Event) (r : Req) (i j : ℕ) : Type 0 where
  pub begins : HasAt (begins_interval r) history i
  pub lasts : (k : ℕ) → i < k → k < j → HasAt (ends_interval r) history k → ⊥
  pub ends : (i < j) × (HasAt (ends_interval r) history j ⊎ (j ≡ length history))

-- of two running intervals of requests that exclude each other one ends before the other begins
abbrev pub NoOverlap : Plan → List Event → Type 0
NoOverlap plan history =
    (x y : Req) (i j k l : ℕ) → Has plan.requests x → Has plan.requests y → IsTrue (are_exclusive plan x y)
    → IsInterval history x i j → IsInterval history y k l → (j < k) ⊎ (l < i)
