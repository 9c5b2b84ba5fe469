-- A request runs where a start of it stands with no end or interrupt after it.
use Rattle.std.proofs.Common.{◌≡◌, Bool, true, false, not, ◌&&◌, ◌||◌, List, [], ◌∷◌, Option, None, Some, is_some, if◌then◌else◌, refl, ◌∙◌, ap}
use Rattle.std.specs.Bool.{then_some}
use Rattle.std.specs.Option.{option_or}
use Rattle.conc_types.specs.declared.event.Event.{Event}
use Rattle.conc_types.specs.declared.event.Event.TheVariants as event
use Rattle.conc_types.specs.declared.event.RequestId.{RequestId}
use Rattle.conc_base_law.specs.Facts.{running_place, runs}
use Rattle.conc_base_law.specs.Kinds.{start_place, starts, ends_run}
use Rattle.conc_base_law.specs.Before.{latest_since, occurs_since}
use Rattle.conc_base_law.specs.Words.{id_eq}

-- a test gives something where it passes
is_some-then : {T : Type 0} (b : Bool) (x : T) → is_some (then_some b x) ≡ b
is_some-then true x = refl
is_some-then false x = refl

-- an event says a place of a start where it is a start
is_some-start_place : (r : RequestId) (e : Event) → is_some (start_place r e) ≡ starts r e
is_some-start_place r (event.Started q p) = is_some-then (id_eq q r) p
is_some-start_place r _ = refl

-- something is there in the first, or in the second where it counts
is_some-or : {T : Type 0} (a : Option T) (b : Bool) (c : Option T) → is_some (option_or a (if b then None else c)) ≡ (is_some a || (not b && is_some c))
is_some-or (Some x) b c = refl
is_some-or None true c = refl
is_some-or None false c = refl

-- a request runs where a start of it stands with no end or interrupt after it
pub runs-occurs : (past : List Event) (r : RequestId) → runs past r ≡ occurs_since (λ _ e. starts r e) (λ _ e. ends_run r e) past
unfolding runs running_place
runs-occurs [] r = refl
runs-occurs (e ∷ past) r =
    is_some-or (start_place r e) (ends_run r e) (latest_since (start_place r) (ends_run r) past)
    ∙ ap (λ b. b || (not (ends_run r e) && is_some (latest_since (start_place r) (ends_run r) past))) (is_some-start_place r e)
    ∙ ap (λ b. starts r e || (not (ends_run r e) && b)) (runs-occurs past r)
