-- In a lawful history running intervals of requests that exclude each other do not overlap.
use Rattle.std.proofs.Common.{◌≡◌, ◌⊎◌, ℕ, zero, suc, ◌<◌, ◌≤◌, Bool, true, false, List, [], ◌∷◌, length, take, drop, reverse, Some, if◌then◌else◌, refl, sym, ◌∙◌, ap, subst, inl, inr, arith}
use Rattle.std.specs.Prelude.{slice_get}
use Rattle.std.proofs.lemmas.Bool.{and_from, or_left, or_right, not_from_false, false_from_ne_true, both_ways, cases_lt, cases_order}
use Rattle.std.proofs.lemmas.List.{take-append-drop}
use Rattle.conc_types.specs.declared.event.Event.{Event}
use Rattle.conc_types.specs.declared.event.Event.TheVariants as event
use Rattle.conc_types.specs.declared.plan.Plan.{Plan}
use Rattle.conc_types.specs.declared.plan.Req.{Req}
use Rattle.conc_types.specs.Words.{some_and}
use Rattle.conc_base_law.specs.Facts.{facts_of, is_open}
use Rattle.conc_base_law.specs.Kinds.{closes, opens, starts, ends_run}
use Rattle.conc_base_law.specs.Law.{is_lawful_so_far}
use Rattle.conc_base_law.specs.Overlap.{begins_interval, ends_interval, HasAt, IsInterval}
use Rattle.conc_base_law.specs.Before.{occurs_since}
use Rattle.conc_base_law.specs.Plans.{are_exclusive}
use Rattle.conc_base_law.specs.State.{is_live}
use Rattle.conc_base_law.specs.Words.{Has, is_set}
use Rattle.conc_base_law.proofs.EqualEvents.{id_same}
use Rattle.conc_base_law.proofs.LiveApart.{are_exclusive_comm, live_apart, not_itself}
use Rattle.conc_base_law.proofs.Positions.{reverse-push, slice_get-some, take-suc_at}
use Rattle.conc_base_law.proofs.Prefixes.{is_lawful_so_far-prefix}
use Rattle.conc_base_law.proofs.Running.{runs-occurs}
use Rattle.conc_base_law.proofs.RunningIsLet.{runs_let}

-- ---- the events before a position

-- the events before the next position are this one and those before it
take_next : (history : List Event) (m : ℕ) (e : Event) → slice_get history m ≡ Some e → reverse (take (suc m) history) ≡ e ∷ reverse (take m history)
take_next history m e h = ap reverse (take-suc_at history m e h) ∙ reverse-push (take m history) e

-- what stands before a position of a lawful history is lawful
is_lawful_so_far-before : (plan : Plan) (history : List Event) (m : ℕ) → is_lawful_so_far plan (reverse history) ≡ true → is_lawful_so_far plan (reverse (take m history)) ≡ true
is_lawful_so_far-before plan history m h =
    is_lawful_so_far-prefix plan (take m history) (drop m history) (ap (λ l. is_lawful_so_far plan (reverse l)) (take-append-drop m history) ∙ h)

-- ---- an interval, seen from within

-- the event at a position at which a kind stands is of the kind
at_event : (kind : Event → Bool) (history : List Event) (m : ℕ) (e : Event) → slice_get history m ≡ Some e → HasAt kind history m → kind e ≡ true
at_event kind history m e is h = let k : some_and kind (Some e) ≡ true = ap (some_and kind) (sym is) ∙ h in k

-- a kind stands at the position of an event of the kind
at_place : (kind : Event → Bool) (history : List Event) (m : ℕ) (e : Event) → slice_get history m ≡ Some e → kind e ≡ true → HasAt kind history m
at_place kind history m e is h = ap (some_and kind) is ∙ h

-- a kind stands only within the history
inside : (kind : Event → Bool) (history : List Event) (m : ℕ) → HasAt kind history m → m < length history
inside kind [] m h = cc
inside kind (x ∷ xs) zero h = omega arith
inside kind (x ∷ xs) (suc m) h = let k : m < length xs = inside kind xs m h in omega arith

-- from its beginning up to its end an interval stands
since_from : (kind other : Event → Bool) (history : List Event) (i : ℕ) → HasAt kind history i → (m : ℕ) → i < m → m ≤ length history
    → ((k : ℕ) → i < k → k < m → HasAt other history k → ⊥)
    → occurs_since (λ _ e. kind e) (λ _ e. other e) (reverse (take m history)) ≡ true
since_from kind other history i begins zero after fits lasts = absurd (omega arith)
since_from kind other history i begins (suc m) after fits lasts =
    let ev : (e : Event) × (slice_get history m ≡ Some e) = slice_get-some history m (omega arith) in
    rw (take_next history m ev.0 ev.1)
    (elim (cases_lt i m) [
      | inl earlier ↦ or_right _ _ (and_from _ _
          (not_from_false _ (false_from_ne_true _ (λ o. lasts m earlier (omega arith) (at_place other history m ev.0 ev.1 o))))
          (since_from kind other history i begins m earlier (omega arith) (λ k a b. lasts k a (omega arith))))
      | inr late ↦
          let same : i ≡ m = omega arith in
          or_left _ _ (at_event kind history m ev.0 ev.1 (subst (HasAt kind history) same begins))
    ])

-- ---- what stands in an interval is live

-- a set that is opened and not closed since, or a program that was started and not stopped since, is live
live_by : (plan : Plan) (past : List Event) (r : Req) → Has plan.requests r → is_lawful_so_far plan past ≡ true → (b : Bool) → is_set r.item ≡ b
    → occurs_since (λ _ e. if b then opens r.number e else starts r.number e) (λ _ e. if b then closes r.number e else ends_run r.number e) past ≡ true
    → is_live (facts_of plan past r) ≡ true
unfolding facts_of is_open
live_by plan past r hr lawful true is h = or_right _ _ (and_from _ _ is h)
live_by plan past r hr lawful false is h = or_left _ _ (runs_let plan past r hr lawful (runs-occurs past r.number ∙ h))

-- the same, by the words for intervals
live_within : (plan : Plan) (past : List Event) (r : Req) → Has plan.requests r → is_lawful_so_far plan past ≡ true
    → occurs_since (λ _ e. begins_interval r e) (λ _ e. ends_interval r e) past ≡ true → is_live (facts_of plan past r) ≡ true
live_within plan past r hr lawful h = live_by plan past r hr lawful (is_set r.item) refl h

-- ---- two intervals

-- one event begins the interval of one request
begins_by : (x y : Req) (e : Event) (a b : Bool) → (if a then opens x.number e else starts x.number e) ≡ true
    → (if b then opens y.number e else starts y.number e) ≡ true → x.number ≡ y.number
begins_by x y (event.OpenSet q) true true g h = sym (id_same q _ g) ∙ id_same q _ h
begins_by x y (event.Started q p) false false g h = sym (id_same q _ g) ∙ id_same q _ h
begins_by x y _ true true g h = cc
begins_by x y _ false false g h = cc
begins_by x y (event.OpenSet q) true false g h = cc
begins_by x y (event.Started q p) false true g h = cc
begins_by x y _ true false g h = cc
begins_by x y _ false true g h = cc

-- no event ends one interval and begins another
apart_by : (x y : Req) (e : Event) (a b : Bool) → (if a then closes x.number e else ends_run x.number e) ≡ true
    → (if b then opens y.number e else starts y.number e) ≡ true → ⊥
apart_by x y (event.OpenSet q) true b g h = cc
apart_by x y (event.OpenSet q) false b g h = cc
apart_by x y (event.Started q p) true b g h = cc
apart_by x y (event.Started q p) false b g h = cc
apart_by x y _ a true g h = cc
apart_by x y _ a false g h = cc

module _ (plan : Plan) (history : List Event) (lawful : is_lawful_so_far plan (reverse history) ≡ true) where
  -- an interval that begins within another one
  later : (x y : Req) (i j k l : ℕ) → Has plan.requests x → Has plan.requests y → are_exclusive plan x y ≡ true
      → IsInterval history x i j → IsInterval history y k l → i < k → k ≤ j → ⊥
  later x y i j k l hx hy ex ix iy before within =
      let fits : k < length history = inside (begins_interval y) history k iy.begins in
      let ev : (e : Event) × (slice_get history k ≡ Some e) = slice_get-some history k fits in
      let goes_on : k < j = elim (cases_lt k j) [
        | inl lt ↦ lt
        | inr ge ↦ let same : j ≡ k = omega arith in elim ix.ends.1 [
          | inl e ↦ absurd (apart_by x y ev.0 (is_set x.item) (is_set y.item) (at_event (ends_interval x) history k ev.0 ev.1 (subst (HasAt (ends_interval x) history) same e)) (at_event (begins_interval y) history k ev.0 ev.1 iy.begins))
          | inr e ↦ absurd (omega arith)
        ]
      ] in
      let past : List Event = reverse (take (suc k) history) in
      let ok : is_lawful_so_far plan past ≡ true = is_lawful_so_far-before plan history (suc k) lawful in
      let lx : is_live (facts_of plan past x) ≡ true = live_within plan past x hx ok (since_from (begins_interval x) (ends_interval x) history i ix.begins (suc k) (omega arith) (omega arith) (λ n a b. ix.lasts n a (omega arith))) in
      let ly : is_live (facts_of plan past y) ≡ true = live_within plan past y hy ok (since_from (begins_interval y) (ends_interval y) history k iy.begins (suc k) (omega arith) (omega arith) (λ n a b. absurd (omega arith))) in
      live_apart plan past x y hx hy ok ex lx ly

  -- one of two such intervals ends before the other begins
  pub one_before : (x y : Req) (i j k l : ℕ) → Has plan.requests x → Has plan.requests y → are_exclusive plan x y ≡ true
      → IsInterval history x i j → IsInterval history y k l → (j < k) ⊎ (l < i)
  one_before x y i j k l hx hy ex ix iy = elim (cases_order i k) [
    | inl same ↦
        let ev : (e : Event) × (slice_get history k ≡ Some e) = slice_get-some history k (inside (begins_interval y) history k iy.begins) in
        let one : x.number ≡ y.number = begins_by x y ev.0 (is_set x.item) (is_set y.item)
        (at_event (begins_interval x) history k ev.0 ev.1 (subst (HasAt (begins_interval x) history) same ix.begins)) (at_event (begins_interval y) history k ev.0 ev.1 iy.begins) in
        absurd (both_ways _ (not_itself plan x y one) ex)
    | inr other ↦ elim other [
      | inl xy ↦ elim (cases_lt j k) [ inl e ↦ inl e | inr o ↦ absurd (later x y i j k l hx hy ex ix iy xy o) ]
      | inr yx ↦ elim (cases_lt l i) [ inl e ↦ inr e | inr o ↦ absurd (later y x k l i j hy hx (are_exclusive_comm plan y x ∙ ex) iy ix yx o) ]
    ]
  ]
