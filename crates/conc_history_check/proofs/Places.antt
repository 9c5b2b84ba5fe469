-- Requests that may start at places, place by place.
use Rattle.std.proofs.Common.{◌≡◌, Bool, true, false, not, ◌||◌, List, [], ◌∷◌, refl, ◌∙◌, ap}
use Rattle.std.specs.List.{list_any}
use Rattle.std.proofs.lemmas.Bool.{and_left, and_right}
use Rattle.conc_types.specs.declared.event.PlaceId.{PlaceId}
use Rattle.conc_types.specs.declared.facts.State.{State}
use Rattle.conc_types.specs.declared.plan.Plan.{Plan}
use Rattle.conc_types.specs.declared.plan.Req.{Req}
use Rattle.conc_types.specs.Words.{some_and}
use Rattle.conc_base_law.specs.Managers.{admits}
use Rattle.conc_base_law.specs.Next.{is_vacant, may_start, may_start_somewhere, runs_at}
use Rattle.conc_base_law.specs.Places.{all_places, is_usable, place_of}
use Rattle.conc_base_law.specs.State.{facts_at, is_running}

-- one of none passes no test
any-never : {T : Type 0} (xs : List T) → list_any (λ (x : T). false) xs ≡ false
any-never [] = refl
any-never (x ∷ xs) = any-never xs

crossed : (a b c d : Bool) → ((a || b) || (c || d)) ≡ ((a || c) || (b || d))
crossed true b c d = refl
crossed false true true d = refl
crossed false true false d = refl
crossed false false true d = refl
crossed false false false d = refl

any-either : {T : Type 0} (p q : T → Bool) (xs : List T) → list_any (λ x. p x || q x) xs ≡ (list_any p xs || list_any q xs)
any-either p q [] = refl
any-either p q (x ∷ xs) = ap (λ b. (p x || q x) || b) (any-either p q xs) ∙ crossed (p x) (q x) (list_any p xs) (list_any q xs)

-- one of these passes with one of those, whichever is looked at first
any-swap : {S T : Type 0} (test : S → T → Bool) (xs : List S) (ys : List T)
    → list_any (λ y. list_any (λ x. test x y) xs) ys ≡ list_any (λ x. list_any (test x) ys) xs
any-swap test [] ys = any-never ys
any-swap test (x ∷ xs) ys =
    any-either (test x) (λ y. list_any (λ z. test z y) xs) ys ∙ ap (λ b. list_any (test x) ys || b) (any-swap test xs ys)

any-alike : {T : Type 0} (p q : T → Bool) (xs : List T) → ((x : T) → p x ≡ q x) → list_any p xs ≡ list_any q xs
any-alike p q [] h = refl
any-alike p q (x ∷ xs) h = rw (h x, any-alike p q xs h) refl

-- a request may start somewhere where some place is one at which a request may start
pub somewhere : (plan : Plan) (s : State)
    → list_any (λ p. list_any (λ r. may_start plan s r p) plan.requests) (all_places plan) ≡ list_any (may_start_somewhere plan s) plan.requests
unfolding may_start_somewhere
somewhere plan s = any-swap (may_start plan s) plan.requests (all_places plan)

-- none may start at a place that is not usable
pub unusable : (plan : Plan) (s : State) (place : PlaceId) → some_and (λ t. is_usable plan t place) s.time ≡ false
    → list_any (λ r. may_start plan s r place) plan.requests ≡ false
unfolding may_start
unusable plan s place h =
    any-alike (λ r. may_start plan s r place) (λ (r : Req). false) plan.requests
    (λ r. and_right (facts_at s r).let_out _
    (and_right (not (is_running (facts_at s r))) _
    (and_right (some_and (λ p. admits p.manager r) (place_of plan place)) _
    (and_left (some_and (λ t. is_usable plan t place) s.time) (is_vacant plan s place) h))))
    ∙ any-never plan.requests

-- nor at one where a request runs
pub occupied : (plan : Plan) (s : State) (place : PlaceId) → list_any (runs_at s place) plan.requests ≡ true
    → list_any (λ r. may_start plan s r place) plan.requests ≡ false
unfolding may_start is_vacant
occupied plan s place h =
    any-alike (λ r. may_start plan s r place) (λ (r : Req). false) plan.requests
    (λ r. and_right (facts_at s r).let_out _
    (and_right (not (is_running (facts_at s r))) _
    (and_right (some_and (λ p. admits p.manager r) (place_of plan place)) _
    (and_right (some_and (λ t. is_usable plan t place) s.time) _ (ap not h)))))
    ∙ any-never plan.requests
