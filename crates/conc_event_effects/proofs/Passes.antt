-- A pass over the facts of all requests, one after the other.
use Rattle.std.proofs.Common.{◌≡◌, ℕ, zero, suc, ◌≤◌, List, [], ◌∷◌, take, Option, None, Some, slice_get, refl, ◌∙◌, ap}
use Rattle.conc_types.specs.declared.event.Event.{Event}
use Rattle.conc_types.specs.declared.facts.Facts.{Facts}
use Rattle.conc_types.specs.declared.plan.Plan.{Plan}
use Rattle.conc_types.specs.declared.plan.Req.{Req}
use Rattle.conc_event_effects.specs.Advance.{all_after, one_by}
use Rattle.conc_event_effects.specs.Step.{facts_after}

-- nothing changes past the end of the facts
one_by-none : (plan : Plan) (named : Facts) (e : Event) (facts : List Facts) (i : ℕ) (r : Option Req)
    → one_by plan named e facts i r None ≡ facts
one_by-none plan named e facts i None = refl
one_by-none plan named e facts i (Some r) = refl

-- a later place is a place of the rest
one_by-later : (plan : Plan) (named : Facts) (e : Event) (f : Facts) (facts : List Facts) (i : ℕ) (r : Option Req) (own : Option Facts)
    → one_by plan named e (f ∷ facts) (suc i) r own ≡ (f ∷ one_by plan named e facts i r own)
one_by-later plan named e f facts i None own = refl
one_by-later plan named e f facts i (Some r) None = refl
one_by-later plan named e f facts i (Some r) (Some own) = refl

-- one request more
pub all_after-more : (plan : Plan) (named : Facts) (e : Event) (i : ℕ) (rs : List Req) (facts : List Facts)
    → one_by plan named e (all_after plan named e (take i rs) facts) i (slice_get rs i) (slice_get (all_after plan named e (take i rs) facts) i)
    ≡ all_after plan named e (take (suc i) rs) facts
unfolding all_after
all_after-more plan named e zero [] facts = refl
all_after-more plan named e zero (r ∷ rs) [] = refl
all_after-more plan named e zero (r ∷ rs) (f ∷ facts) = refl
all_after-more plan named e (suc i) [] facts = refl
all_after-more plan named e (suc i) (r ∷ rs) [] = one_by-none plan named e [] (suc i) (slice_get rs i)
all_after-more plan named e (suc i) (r ∷ rs) (f ∷ facts) =
    one_by-later plan named e _ _ i (slice_get rs i) _ ∙ ap (λ z. facts_after plan named e r f ∷ z) (all_after-more plan named e i rs facts)
