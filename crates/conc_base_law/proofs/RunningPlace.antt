-- How a request comes to run, and goes on.
use Rattle.std.proofs.Common.{◌≡◌, ◌⊎◌, Bool, true, false, List, ◌∷◌, Option, None, Some, if◌then◌else◌, refl, ◌∙◌, ap, inl, inr}
use Rattle.std.specs.Prelude.{is_some}
use Rattle.conc_types.specs.declared.event.Event.{Event}
use Rattle.conc_types.specs.declared.event.Event.TheVariants as event
use Rattle.conc_types.specs.declared.event.PlaceId.{PlaceId}
use Rattle.conc_types.specs.declared.event.RequestId.{RequestId}
use Rattle.conc_base_law.specs.Facts.{running_place, runs}
use Rattle.conc_base_law.specs.Kinds.{start_place, ends_run}
use Rattle.conc_base_law.specs.Before.{latest_since}
use Rattle.conc_base_law.specs.Words.{id_eq}
use Rattle.conc_base_law.proofs.EqualEvents.{id_same}
use Rattle.conc_base_law.proofs.Options.{or-some, then_some-some}

-- a request that runs has a place
pub runs-place : (past : List Event) (r : RequestId) → runs past r ≡ true → (p : PlaceId) × (running_place past r ≡ Some p)
unfolding runs
runs-place past r h = by (running_place past r) h where
  by : (o : Option PlaceId) → is_some o ≡ true → (p : PlaceId) × (o ≡ Some p)
  by None k = cc
  by (Some p) k = (p, refl)

-- a request that has a place runs
pub place-runs : (past : List Event) (r : RequestId) (p : PlaceId) → running_place past r ≡ Some p → runs past r ≡ true
unfolding runs
place-runs past r p h = ap (λ o. is_some o) h

-- an event with the place of a start is that start
pub start_place-some : (r : RequestId) (e : Event) (p : PlaceId) → start_place r e ≡ Some p → e ≡ event.Started r p
start_place-some r (event.Started q a) p h =
    let k : (id_eq q r ≡ true) × (a ≡ p) = then_some-some (id_eq q r) a p h in
    ap (λ x. event.Started x a) (id_same q r k.0) ∙ ap (λ x. event.Started r x) k.1
start_place-some r _ p h = cc

-- a request that runs starts with this event, or ran before it and is not stopped by it
pub running_place-more : (past : List Event) (e : Event) (r : RequestId) (p : PlaceId) → running_place (e ∷ past) r ≡ Some p
    → (e ≡ event.Started r p) ⊎ ((ends_run r e ≡ false) × (running_place past r ≡ Some p))
unfolding running_place
running_place-more past e r p h = elim (or-some (start_place r e) _ p h) [
  | inl a ↦ inl (start_place-some r e p a)
  | inr b ↦ inr (by (ends_run r e) (latest_since (start_place r) (ends_run r) past) b)
] where
  by : (t : Bool) (o : Option PlaceId) → (if t then None else o) ≡ Some p → (t ≡ false) × (o ≡ Some p)
  by true o k = cc
  by false o k = (refl, k)
