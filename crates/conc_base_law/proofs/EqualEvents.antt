-- The test of equal events, against equality.
use Rattle.std.proofs.Common.{◌≡◌, ◌==◌, ◌<◌, ℕ, true, ◌&&◌, Option, None, Some, refl, ◌∙◌, ap, subst}
use Rattle.std.proofs.Math.Bridge.{le_prop}
use Rattle.std.proofs.lemmas.Bool.{and_from, and_parts, eq-eqb, eqb-true}
use Rattle.conc_types.specs.declared.event.Event.{Event}
use Rattle.conc_types.specs.declared.event.Event.TheVariants as event
use Rattle.conc_types.specs.declared.event.Extent.{Extent}
use Rattle.conc_types.specs.declared.event.Moment.{Moment}
use Rattle.conc_types.specs.declared.event.Outcome.{Outcome}
use Rattle.conc_types.specs.declared.event.Outcome.TheVariants as outcome
use Rattle.conc_types.specs.declared.event.RequestId.{RequestId}
use Rattle.conc_base_law.specs.Events.{event_eq, extent_eq, outcome_eq}
use Rattle.conc_base_law.specs.Words.{id_eq}

-- requests with one number are one
pub id_same : (a b : RequestId) → id_eq a b ≡ true → a ≡ b
id_same a b h = ap (λ n. record { number = n }) (eqb-true a.number b.number h)

-- moments of one second are one
pub moment_same : (t u : Moment) → t.seconds ≡ u.seconds → t ≡ u
moment_same t u e =
    subst
    (λ n. (h : n < 315537897600) → t ≡ record { seconds = n; civil = h })
    e
    (λ h. ap (λ k. record { seconds = t.seconds; civil = k }) (le_prop t.civil h))
    u.civil

-- outcomes that the test calls equal are one
outcome_same : (o p : Outcome) → outcome_eq o p ≡ true → o ≡ p
outcome_same outcome.Normal outcome.Normal h = refl
outcome_same outcome.Warning outcome.Warning h = refl
outcome_same outcome.Error outcome.Error h = refl
outcome_same outcome.Terminated outcome.Terminated h = refl
outcome_same outcome.Cancelled outcome.Cancelled h = refl
outcome_same _ _ h = cc

-- extents that the test calls equal are one
extent_same : (x y : Option Extent) → extent_eq x y ≡ true → x ≡ y
extent_same None None h = refl
extent_same (Some x) (Some y) h =
    let p : ((x.offset == y.offset) ≡ true) × ((x.length == y.length) ≡ true) = and_parts _ _ h in
    let a : x.offset ≡ y.offset = eqb-true _ _ p.0 in
    let b : x.length ≡ y.length = eqb-true _ _ p.1 in
    ap (λ n. Some (record { offset = n; length = x.length })) a ∙ ap (λ n. Some (record { offset = y.offset; length = n })) b
extent_same None (Some y) h = cc
extent_same (Some x) None h = cc

-- events that the test calls equal are one
pub event_same : (d e : Event) → event_eq d e ≡ true → d ≡ e
unfolding event_eq
event_same (event.Tick t) (event.Tick u) h = ap (λ m. event.Tick m) (moment_same t u (eqb-true t.seconds u.seconds h))
event_same (event.Command m) (event.Command n) h = ap (λ k. event.Command k) (eqb-true m n h)
event_same (event.OpenSet a) (event.OpenSet b) h = ap (λ s. event.OpenSet s) (id_same a b h)
event_same (event.Stage a k) (event.Stage b l) h =
    let p : (id_eq a b ≡ true) × ((k == l) ≡ true) = and_parts _ _ h in
    ap (λ s. event.Stage s k) (id_same a b p.0) ∙ ap (λ n. event.Stage b n) (eqb-true k l p.1)
event_same (event.CloseSet a o) (event.CloseSet b q) h =
    let p : (id_eq a b ≡ true) × (outcome_eq o q ≡ true) = and_parts _ _ h in
    ap (λ s. event.CloseSet s o) (id_same a b p.0) ∙ ap (λ z. event.CloseSet b z) (outcome_same o q p.1)
event_same (event.LetOut a) (event.LetOut b) h = ap (λ s. event.LetOut s) (id_same a b h)
event_same (event.Started a u) (event.Started b v) h =
    let p : (id_eq a b ≡ true) × ((u.index == v.index) ≡ true) = and_parts _ _ h in
    ap (λ s. event.Started s u) (id_same a b p.0) ∙ ap (λ n. event.Started b (record { index = n })) (eqb-true u.index v.index p.1)
event_same (event.Ended a o x) (event.Ended b q y) h =
    let p : (id_eq a b ≡ true) × ((outcome_eq o q && extent_eq x y) ≡ true) = and_parts _ _ h in
    let r : (outcome_eq o q ≡ true) × (extent_eq x y ≡ true) = and_parts _ _ p.1 in
    ap (λ s. event.Ended s o x) (id_same a b p.0) ∙ ap (λ z. event.Ended b z x) (outcome_same o q r.0) ∙ ap (λ z. event.Ended b q z) (extent_same x y r.1)
event_same event.Resume event.Resume h = refl
event_same (event.Interrupt a) (event.Interrupt b) h = ap (λ s. event.Interrupt s) (id_same a b h)
event_same _ _ h = cc

-- ---- an event is equal to itself

-- a number is equal to itself
pub eqb-refl : (n : ℕ) → (n == n) ≡ true
eqb-refl n = eq-eqb n n refl

-- an outcome is equal to itself
outcome_eq-refl : (o : Outcome) → outcome_eq o o ≡ true
outcome_eq-refl outcome.Normal = refl
outcome_eq-refl outcome.Warning = refl
outcome_eq-refl outcome.Error = refl
outcome_eq-refl outcome.Terminated = refl
outcome_eq-refl outcome.Cancelled = refl

-- an extent is equal to itself
extent_eq-refl : (x : Option Extent) → extent_eq x x ≡ true
extent_eq-refl None = refl
extent_eq-refl (Some x) = and_from _ _ (eqb-refl x.offset) (eqb-refl x.length)

-- an event is equal to itself
pub event_eq-refl : (e : Event) → event_eq e e ≡ true
unfolding event_eq
event_eq-refl (event.Tick t) = eqb-refl t.seconds
event_eq-refl (event.Command n) = eqb-refl n
event_eq-refl (event.OpenSet s) = eqb-refl s.number
event_eq-refl (event.Stage s k) = and_from _ _ (eqb-refl s.number) (eqb-refl k)
event_eq-refl (event.CloseSet s o) = and_from _ _ (eqb-refl s.number) (outcome_eq-refl o)
event_eq-refl (event.LetOut r) = eqb-refl r.number
event_eq-refl (event.Started r p) = and_from _ _ (eqb-refl r.number) (eqb-refl p.index)
event_eq-refl (event.Ended r o x) = and_from _ _ (eqb-refl r.number) (and_from _ _ (outcome_eq-refl o) (extent_eq-refl x))
event_eq-refl event.Resume = refl
event_eq-refl (event.Interrupt r) = eqb-refl r.number
