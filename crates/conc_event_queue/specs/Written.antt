-- One write to the state.
use Rattle.std.specs.Prelude.{◌≡◌, ℕ, length, slice_set, slice_get, Some}
use Rattle.conc_types.specs.declared.facts.Facts.{Facts}
use Rattle.conc_types.specs.declared.facts.State.{State}
use Rattle.conc_types.specs.declared.plan.Plan.{Plan}

-- the facts of the request at an index, which were these, are written; the moment of the last tick stays
pub record IsWritten (plan : Plan) (before after : State) (i : ℕ) (old : Facts) : Type 0 where
  pub all : length before.facts ≡ length plan.requests
  pub own : Facts
  pub was : slice_get before.facts i ≡ Some old
  pub facts : after.facts ≡ slice_set before.facts i own
  pub time : after.time ≡ before.time

-- the same facts stand, and the same moment
pub record IsAlike (before after : State) : Type 0 where
  pub facts : after.facts ≡ before.facts
  pub time : after.time ≡ before.time

-- ---- what is kept beside a state

-- it was kept of a state before the write
abbrev pub WasKept : {T : Type 0} → (State → T → Type 0) → Plan → State → ℕ → Facts → T → Type 0
WasKept kept plan after i old x = (before : State) × IsWritten plan before after i old × kept before x

-- it is kept of the state after the write, if it was of one before it
abbrev pub StaysKept : {T : Type 0} → (State → T → Type 0) → Plan → State → ℕ → Facts → T → T → Type 0
StaysKept kept plan after i old x y = (before : State) → IsWritten plan before after i old → kept before x → kept after y

-- it was kept of a state before the tick, by which the facts stay
abbrev pub WasKeptBeforeTick : {T : Type 0} → (State → T → Type 0) → State → T → Type 0
WasKeptBeforeTick kept after x = (before : State) × (after.facts ≡ before.facts) × kept before x

-- it is kept of the state after the tick, if it was of one before it
abbrev pub StaysKeptByTick : {T : Type 0} → (State → T → Type 0) → State → T → T → Type 0
StaysKeptByTick kept after x y = (before : State) → after.facts ≡ before.facts → kept before x → kept after y
