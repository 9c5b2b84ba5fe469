-- What a life does with the requests of the events that it finds.
use Rattle.std.specs.Prelude.{◌≡◌, ◌⊎◌, ℕ, ◌<◌, ◌≤◌, Bool, true, false, List, length, reverse, Some, slice_get, IsTrue}
use Rattle.conc_types.specs.declared.event.Event.{Event}
use Rattle.conc_types.specs.declared.event.Event.TheVariants as event
use Rattle.conc_types.specs.declared.event.PlaceId.{PlaceId}
use Rattle.conc_types.specs.declared.event.RequestId.{RequestId}
use Rattle.conc_types.specs.declared.plan.Plan.{Plan}
use Rattle.conc_types.specs.declared.plan.Req.{Req}
use Rattle.conc_base_law.specs.Alone.{opening}
use Rattle.conc_base_law.specs.Facts.{runs, was_completed}
use Rattle.conc_base_law.specs.Words.{Has}
use Rattle.conc_run_state.specs.Lists.{IsPrefix}

-- the event interrupts a request
abbrev pub is_interrupt : Event → Bool
is_interrupt (event.Interrupt q) = true
is_interrupt _ = false

-- behind the events found none starts the request
abbrev pub StartsNoMore : List Event → List Event → RequestId → Type 0
StartsNoMore found list id = (i : ℕ) (place : PlaceId) → length found ≤ i → slice_get list i ≡ Some (event.Started id place) → ⊥

-- from the one position to the other each event is an interrupt
abbrev pub OnlyInterrupts : ℕ → ℕ → List Event → Type 0
OnlyInterrupts from to list = (i : ℕ) (e : Event) → from ≤ i → i < to → slice_get list i ≡ Some e → IsTrue (is_interrupt e)

-- the life behind the events found interrupts the request by its number, and does nothing before that but interrupt
pub record IsInterrupted (found list : List Event) (id : RequestId) : Type 0 where
  pub position : ℕ
  pub behind : length (opening found) ≤ position
  pub there : slice_get list position ≡ Some (event.Interrupt id)
  pub first : OnlyInterrupts (length (opening found)) position list

-- the same, or the life has not come so far: it has done nothing but interrupt
abbrev pub IsInterruptedFirst : List Event → List Event → RequestId → Type 0
IsInterruptedFirst found list id = IsInterrupted found list id ⊎ OnlyInterrupts (length (opening found)) (length list) list

-- The list begins with the events found. Behind them no request is started that was completed in them, and each that ran
-- then is interrupted, before anything else is done.
pub record IsRightLife (plan : Plan) (found list : List Event) : Type 0 where
  pub begins : IsPrefix found list
  pub completed : (r : Req) → Has plan.requests r → IsTrue (was_completed plan (reverse found) r) → StartsNoMore found list r.number
  pub running : (r : Req) → Has plan.requests r → IsTrue (runs (reverse found) r.number) → IsInterruptedFirst found list r.number
