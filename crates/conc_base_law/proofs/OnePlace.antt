-- In a lawful history no two requests run at one place, and each runs at the place of its last start.
use Rattle.std.proofs.Common.{◌≡◌, Bool, true, false, not, ◌&&◌, ◌||◌, ◌==◌, List, [], ◌∷◌, Option, None, Some, if◌then◌else◌, refl, sym, ◌∙◌, ap, subst, inl, inr}
use Rattle.std.specs.Bool.{then_some}
use Rattle.std.specs.Option.{option_or}
use Rattle.std.proofs.lemmas.Bool.{and_left, and_parts, both_ways, not-true}
use Rattle.conc_types.specs.declared.event.Event.{Event}
use Rattle.conc_types.specs.declared.event.Event.TheVariants as event
use Rattle.conc_types.specs.declared.event.PlaceId.{PlaceId}
use Rattle.conc_types.specs.declared.event.RequestId.{RequestId}
use Rattle.conc_types.specs.declared.plan.Plan.{Plan}
use Rattle.conc_types.specs.declared.plan.Req.{Req}
use Rattle.conc_types.specs.Words.{some_and}
use Rattle.conc_base_law.specs.Facts.{running_place, runs}
use Rattle.conc_base_law.specs.Kinds.{start_place, starts_at, ends_run}
use Rattle.conc_base_law.specs.Law.{is_lawful_so_far, may_follow}
use Rattle.conc_base_law.specs.Next.{is_vacant, runs_at}
use Rattle.conc_base_law.specs.Before.{occurs_since}
use Rattle.conc_base_law.specs.State.{facts_at, state}
use Rattle.conc_base_law.specs.Words.{Has, id_eq}
use Rattle.conc_base_law.proofs.Comes.{may_start-parts, start_comes}
use Rattle.conc_base_law.proofs.EqualEvents.{eqb-refl}
use Rattle.conc_base_law.proofs.FactsAt.{is_running-state, place-state}
use Rattle.conc_base_law.proofs.FirstBy.{any-some}
use Rattle.conc_base_law.proofs.RunningPlace.{place-runs, running_place-more, start_place-some}

-- ---- two requests

-- where x starts, y does not run
starts_alone : (plan : Plan) (past : List Event) (x y : Req) (place : PlaceId) → Has plan.requests x → Has plan.requests y
    → may_follow plan None past (event.Started x.number place) ≡ true → running_place past y.number ≡ Some place → ⊥
unfolding is_vacant runs_at
starts_alone plan past x y place hx hy h run =
    let s = state plan past in
    let vacant : is_vacant plan s place ≡ true = (may_start-parts plan s x place (start_comes plan None past x place hx h)).2 in
    let at : (facts_at s y).place ≡ Some place = place-state plan past y hy ∙ run in
    let here : runs_at s place y ≡ true = ap (some_and (λ p. p.index == place.index)) at ∙ eqb-refl place.index in
    both_ways _ (not-true _ vacant) (any-some (runs_at s place) plan.requests y hy here)

-- the state at each position of a lawful history: two requests that run at one place are one
pub one_at_place : (plan : Plan) (past : List Event) (x y : Req) (place : PlaceId) → Has plan.requests x → Has plan.requests y
    → is_lawful_so_far plan past ≡ true → running_place past x.number ≡ Some place → running_place past y.number ≡ Some place → x.number ≡ y.number
unfolding is_lawful_so_far running_place
one_at_place plan [] x y place hx hy lawful rx ry = cc
one_at_place plan (e ∷ past) x y place hx hy lawful rx ry =
    let l : (is_lawful_so_far plan past ≡ true) × (may_follow plan None past e ≡ true) = and_parts _ _ lawful in
    elim (running_place-more past e x.number place rx) [
      | inl sx ↦ elim (running_place-more past e y.number place ry) [
        | inl sy ↦ let same : event.Started x.number place ≡ event.Started y.number place = sym sx ∙ sy in cc
        | inr by ↦ absurd (starts_alone plan past x y place hx hy (subst (λ d. may_follow plan None past d ≡ true) sx l.1) by.1)
      ]
      | inr bx ↦ elim (running_place-more past e y.number place ry) [
        | inl sy ↦ absurd (starts_alone plan past y x place hy hx (subst (λ d. may_follow plan None past d ≡ true) sy l.1) bx.1)
        | inr by ↦ one_at_place plan past x y place hx hy l.0 bx.1 by.1
      ]
    ]

-- ---- one request

-- a request that starts does not run
starts_idle : (plan : Plan) (past : List Event) (r : Req) (place : PlaceId) → Has plan.requests r
    → may_follow plan None past (event.Started r.number place) ≡ true → running_place past r.number ≡ None
starts_idle plan past r place hr h = by (running_place past r.number) refl where
  idle : runs past r.number ≡ false
  idle = sym (is_running-state plan past r hr) ∙ (may_start-parts plan (state plan past) r place (start_comes plan None past r place hr h)).1

  by : (o : Option PlaceId) → running_place past r.number ≡ o → running_place past r.number ≡ None
  by None is = is
  by (Some p) is = absurd (both_ways _ idle (place-runs past r.number p is))

-- a test that gives nothing fails
then_some-none : (b : Bool) (p : PlaceId) → then_some b p ≡ None → b ≡ false
then_some-none true p h = cc
then_some-none false p h = refl

-- an event that starts r nowhere does not start it at the place
no_start-at : (r : RequestId) (place : PlaceId) (e : Event) → start_place r e ≡ None → starts_at r place e ≡ false
no_start-at r place (event.Started q p) h = and_left _ _ (then_some-none (id_eq q r) p h)
no_start-at r place _ h = refl

-- what is kept unless the test holds
passes-if : (test : PlaceId → Bool) (b : Bool) (o : Option PlaceId) → some_and test (if b then None else o) ≡ (not b && some_and test o)
passes-if test true o = refl
passes-if test false o = refl

-- a test, or nothing
or-false : (b : Bool) → b ≡ (b || false)
or-false true = refl
or-false false = refl

-- an event that starts r nowhere
kept-occurs : (r : RequestId) (place : PlaceId) (e : Event) (o : Option PlaceId) (before : Bool) → start_place r e ≡ None
    → some_and (λ p. p.index == place.index) o ≡ before
    → some_and (λ p. p.index == place.index) (option_or (start_place r e) (if ends_run r e then None else o))
    ≡ (starts_at r place e || (not (ends_run r e) && before))
kept-occurs r place e o before none earlier =
    ap (λ x. some_and (λ p. p.index == place.index) (option_or x (if ends_run r e then None else o))) none
    ∙ passes-if (λ p. p.index == place.index) (ends_run r e) o
    ∙ ap (λ t. not (ends_run r e) && t) earlier
    ∙ sym (ap (λ t. t || (not (ends_run r e) && before)) (no_start-at r place e none))

-- a start of r, which did not run
started-occurs : (r : RequestId) (place p : PlaceId) (o : Option PlaceId) (before : Bool) → o ≡ None → some_and (λ p. p.index == place.index) o ≡ before
    → some_and (λ p. p.index == place.index) (option_or (start_place r (event.Started r p)) o) ≡ (starts_at r place (event.Started r p) || before)
started-occurs r place p o before none earlier =
    let same : id_eq r r ≡ true = eqb-refl r.number in
    let not_before : before ≡ false = sym earlier ∙ ap (some_and (λ p. p.index == place.index)) none in
    ap (λ b. some_and (λ p. p.index == place.index) (option_or (then_some b p) o)) same
    ∙ or-false (p.index == place.index)
    ∙ ap (λ t. p.index == place.index || t) (sym not_before)
    ∙ sym (ap (λ b. (b && p.index == place.index) || before) same)

-- the place at which a request runs is the one at which a start of it stands with no end or interrupt after it
pub place-occurs : (plan : Plan) (past : List Event) (r : Req) (place : PlaceId) → Has plan.requests r → is_lawful_so_far plan past ≡ true
    → some_and (λ p. p.index == place.index) (running_place past r.number)
    ≡ occurs_since (λ _ e. starts_at r.number place e) (λ _ e. ends_run r.number e) past
unfolding is_lawful_so_far running_place
place-occurs plan [] r place hr lawful = refl
place-occurs plan (e ∷ past) r place hr lawful =
    let l : (is_lawful_so_far plan past ≡ true) × (may_follow plan None past e ≡ true) = and_parts _ _ lawful in
    by (place-occurs plan past r place hr l.0) l.1 (start_place r.number e) refl where
      since : List Event → Bool
      since events = occurs_since (λ _ d. starts_at r.number place d) (λ _ d. ends_run r.number d) events

      by : some_and (λ p. p.index == place.index) (running_place past r.number) ≡ since past → may_follow plan None past e ≡ true
          → (o : Option PlaceId) → start_place r.number e ≡ o
          → some_and (λ p. p.index == place.index) (running_place (e ∷ past) r.number) ≡ since (e ∷ past)
      by earlier h None none = kept-occurs r.number place e (running_place past r.number) (since past) none earlier
      by earlier h (Some p) is =
          let start : e ≡ event.Started r.number p = start_place-some r.number e p is in
          let idle : running_place past r.number ≡ None = starts_idle plan past r p hr (subst (λ d. may_follow plan None past d ≡ true) start h) in
          subst (λ d. some_and (λ p. p.index == place.index) (running_place (d ∷ past) r.number) ≡ since (d ∷ past)) (sym start)
          (started-occurs r.number place p (running_place past r.number) (since past) idle earlier)
