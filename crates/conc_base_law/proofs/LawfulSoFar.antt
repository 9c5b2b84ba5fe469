-- A list that is lawful for readings in order is lawful whatever the readings are.
use Rattle.std.proofs.Common.{◌≡◌, ◌==◌, ◌⊎◌, ℕ, zero, suc, Bool, true, ◌&&◌, List, [], ◌∷◌, Option, None, Some, if◌then◌else◌, refl, sym, ◌∙◌, ap, subst, inl, inr}
use Rattle.std.specs.Prelude.{nat_le, slice_get}
use Rattle.std.specs.List.{filter, list_all}
use Rattle.std.proofs.lemmas.Bool.{and_from, and_parts, cases_Bool, cond-true, cond-false, eqb-true}
use Rattle.conc_types.specs.declared.event.Event.{Event}
use Rattle.conc_types.specs.declared.event.Event.TheVariants as event
use Rattle.conc_types.specs.declared.event.Moment.{Moment}
use Rattle.conc_types.specs.declared.facts.State.{State}
use Rattle.conc_types.specs.declared.plan.Plan.{Plan}
use Rattle.conc_types.specs.declared.script.Reading.{Reading}
use Rattle.conc_types.specs.Scripts.{are_in_order}
use Rattle.conc_types.specs.Words.{none_or}
use Rattle.conc_base_law.specs.Events.{event_eq}
use Rattle.conc_base_law.specs.Kinds.{is_resume}
use Rattle.conc_base_law.specs.Law.{is_lawful, is_lawful_so_far, may_follow}
use Rattle.conc_base_law.specs.Next.{forced, is_allowed, may_come, may_take, may_tick, obeys}
use Rattle.conc_base_law.specs.Before.{earlier_lives, last_life}
use Rattle.conc_base_law.specs.Readings.{life_readings, next_reading, ticks}
use Rattle.conc_base_law.specs.State.{is_not_earlier, now, state}
use Rattle.conc_base_law.proofs.EqualEvents.{moment_same}
use Rattle.conc_base_law.proofs.ForcedKinds.{forced_kind, is_forced_kind}
use Rattle.conc_base_law.proofs.Options.{some_and-some}

-- ---- lists

-- an element of a list passes where its first does and each later one does
passes_at : {T : Type 0} (test : T → Bool) (y : T) (ys : List T) (x : T) → test y ≡ true → ((k : ℕ) → slice_get ys k ≡ Some x → test x ≡ true)
    → (i : ℕ) → slice_get (y ∷ ys) i ≡ Some x → test x ≡ true
passes_at test y ys x hit later zero h = let e : y ≡ x = cc in subst (λ z. test z ≡ true) e hit
passes_at test y ys x hit later (suc k) h = later k h

-- each element of a filtered list passes the filter
filter-passes : {T : Type 0} (test : T → Bool) (xs : List T) (i : ℕ) (x : T) → slice_get (filter test xs) i ≡ Some x → test x ≡ true
filter-passes test [] i x h = cc
filter-passes test (y ∷ ys) i x h = elim (cases_Bool (test y)) [
  | inl hit ↦ passes_at test y (filter test ys) x hit (λ k g. filter-passes test ys k x g) i
      (ap (λ l. slice_get l i) (sym (cond-true (test y) (y ∷ filter test ys) (filter test ys) hit)) ∙ h)
  | inr miss ↦ filter-passes test ys i x (ap (λ l. slice_get l i) (sym (cond-false (test y) (y ∷ filter test ys) (filter test ys) miss)) ∙ h)
]

-- what holds of all elements holds of those that a filter keeps
all-filter : {T : Type 0} (p test : T → Bool) (xs : List T) → list_all p xs ≡ true → list_all p (filter test xs) ≡ true
all-filter p test [] h = refl
all-filter p test (y ∷ ys) h =
    let q : (p y ≡ true) × (list_all p ys ≡ true) = and_parts _ _ h in
    let r : list_all p (filter test ys) ≡ true = all-filter p test ys q.1 in
    elim (cases_Bool (test y)) [
      | inl hit ↦ ap (list_all p) (cond-true (test y) (y ∷ filter test ys) (filter test ys) hit) ∙ and_from _ _ q.0 r
      | inr miss ↦ ap (list_all p) (cond-false (test y) (y ∷ filter test ys) (filter test ys) miss) ∙ r
    ]

-- readings in order stay in order under a filter
in_order-filter : (test : Reading → Bool) (xs : List Reading) → are_in_order xs ≡ true → are_in_order (filter test xs) ≡ true
in_order-filter test [] h = refl
in_order-filter test (y ∷ ys) h =
    let q : (list_all (λ r. nat_le y.moment.seconds r.moment.seconds) ys ≡ true) × (are_in_order ys ≡ true) = and_parts _ _ h in
    let r : are_in_order (filter test ys) ≡ true = in_order-filter test ys q.1 in
    elim (cases_Bool (test y)) [
      | inl hit ↦ ap are_in_order (cond-true (test y) (y ∷ filter test ys) (filter test ys) hit)
          ∙ and_from _ _ (all-filter (λ r. nat_le y.moment.seconds r.moment.seconds) test ys q.0) r
      | inr miss ↦ ap are_in_order (cond-false (test y) (y ∷ filter test ys) (filter test ys) miss) ∙ r
    ]

-- what holds of all elements holds of the one at a position
pub all-get : {T : Type 0} (p : T → Bool) (xs : List T) (i : ℕ) (x : T) → list_all p xs ≡ true → slice_get xs i ≡ Some x → p x ≡ true
all-get p [] i x h g = cc
all-get p (y ∷ ys) zero x h g = let e : y ≡ x = cc in subst (λ z. p z ≡ true) e (and_parts _ _ h).0
all-get p (y ∷ ys) (suc i) x h g = all-get p ys i x (and_parts (p y) _ h).1 g

-- of readings in order none is earlier than the one before it
in_order-next : (xs : List Reading) (i : ℕ) (q r : Reading) → are_in_order xs ≡ true → slice_get xs i ≡ Some q → slice_get xs (suc i) ≡ Some r
    → nat_le q.moment.seconds r.moment.seconds ≡ true
in_order-next [] i q r h a b = cc
in_order-next (y ∷ ys) zero q r h a b =
    let e : y ≡ q = cc in
    subst (λ z. nat_le z.moment.seconds r.moment.seconds ≡ true) e (all-get (λ z. nat_le y.moment.seconds z.moment.seconds) ys zero r (and_parts _ _ h).0 b)
in_order-next (y ∷ ys) (suc i) q r h a b = in_order-next ys i q r (and_parts (list_all (λ z. nat_le y.moment.seconds z.moment.seconds) ys) _ h).1 a b

-- ---- the last tick of a life is its last reading

-- no reading of this life is taken, or the last tick is the last one taken
abbrev LastTick : List Reading → List Event → Type 0
LastTick readings past =
    ((ticks past ≡ 0) × (now past ≡ now (earlier_lives past)))
    ⊎ ((k : ℕ) × (q : Reading) × (ticks past ≡ suc k) × (slice_get (life_readings readings past) k ≡ Some q) × (now past ≡ Some q.moment))

-- a tick that obeys is the next reading, and nothing is due
tick_by : (plan : Plan) (s : State) (next : Option Reading) (t : Moment) → (due : Option Event) → none_or is_forced_kind due ≡ true
    → obeys plan s (Some next) (event.Tick t) due ≡ true → (q : Reading) × (next ≡ Some q) × (t ≡ q.moment) × (due ≡ None)
unfolding is_allowed may_tick event_eq
tick_by plan s next t None kind h =
    let p : (q : Reading) × (next ≡ Some q) × ((t.seconds == q.moment.seconds && may_take plan s q) ≡ true) =
    some_and-some (λ q. t.seconds == q.moment.seconds && may_take plan s q) next h in
    (p.0, p.1, moment_same t p.0.moment (eqb-true t.seconds p.0.moment.seconds (and_parts _ _ p.2).0), refl)
tick_by plan s next t (Some (event.Tick u)) kind h = cc
tick_by plan s next t (Some _) kind h = cc

-- a tick of the last life is its next reading, and nothing is forced
abbrev pub IsRead : Plan → List Reading → List Event → Moment → Type 0
IsRead plan readings past t =
    (q : Reading) × (next_reading readings past ≡ Some q) × (t ≡ q.moment) × (forced plan (state plan past) ≡ None)

-- a tick that may follow is the next reading, and nothing is forced
pub tick_read : (plan : Plan) (readings : List Reading) (past : List Event) (t : Moment) → may_follow plan (Some readings) past (event.Tick t) ≡ true
    → IsRead plan readings past t
unfolding may_follow may_come
tick_read plan readings past t h =
    tick_by plan (state plan past) (next_reading readings past) t (forced plan (state plan past)) (forced_kind plan (state plan past)) h

-- the last tick of a lawful list is the last reading taken
last_tick : (plan : Plan) (readings : List Reading) (past : List Event) → is_lawful plan readings past ≡ true → LastTick readings past
unfolding is_lawful ticks now earlier_lives last_life life_readings next_reading
last_tick plan readings [] h = inl (refl, refl)
last_tick plan readings (event.Tick t ∷ past) h =
    let p : IsRead plan readings past t = tick_read plan readings past t (and_parts (is_lawful plan readings past) _ h).1 in
    inr (ticks past, p.0, refl, p.1, ap (λ m. Some m) p.2)
last_tick plan readings (event.Resume ∷ past) h = inl (refl, refl)
last_tick plan readings (_ ∷ past) h = last_tick plan readings past (and_parts (is_lawful plan readings past) _ h).0

-- ---- one event

-- the next reading is not earlier than the last tick
not_earlier : (readings : List Reading) (past : List Event) (q : Reading) → are_in_order readings ≡ true → next_reading readings past ≡ Some q → LastTick readings past
    → is_not_earlier (now past) q.moment ≡ true
unfolding next_reading life_readings is_not_earlier
not_earlier readings past q order next (inl none) =
    let first : none_or (λ n. nat_le n.seconds q.moment.seconds) (now (earlier_lives past)) ≡ true =
    filter-passes (λ r. none_or (λ n. nat_le n.seconds r.moment.seconds) (now (earlier_lives past))) readings (ticks past) q next in
    ap (none_or (λ n. nat_le n.seconds q.moment.seconds)) none.1 ∙ first
not_earlier readings past q order next (inr some) =
    let here : slice_get (life_readings readings past) (suc some.0) ≡ Some q = ap (slice_get (life_readings readings past)) (sym some.2) ∙ next in
    ap (none_or (λ n. nat_le n.seconds q.moment.seconds)) some.4
    ∙ in_order-next (life_readings readings past) some.0 some.1 q (in_order-filter (λ r. is_not_earlier (now (earlier_lives past)) r.moment) readings order) some.3 here

-- a tick that is not earlier than the last may follow where no readings are known
tick_without : (plan : Plan) (past : List Event) (t : Moment) → forced plan (state plan past) ≡ None → is_not_earlier (now past) t ≡ true → may_follow plan None past (event.Tick t) ≡ true
unfolding may_follow may_come is_allowed may_tick state
tick_without plan past t none h = ap (obeys plan (state plan past) None (event.Tick t)) none ∙ h

-- what may follow a lawful list may follow it where no readings are known
same_but_tick : (plan : Plan) (readings : List Reading) (past : List Event) (e : Event) → is_lawful plan readings past ≡ true → are_in_order readings ≡ true
    → may_follow plan (Some readings) past e ≡ true → may_follow plan None past e ≡ true
unfolding may_follow may_come is_allowed
same_but_tick plan readings past (event.Tick t) lawful order h =
    let p : IsRead plan readings past t = tick_read plan readings past t h in
    tick_without plan past t p.3 (ap (is_not_earlier (now past)) p.2 ∙ not_earlier readings past p.0 order p.1 (last_tick plan readings past lawful))
same_but_tick plan readings past event.Resume lawful order h = h
same_but_tick plan readings past e lawful order h = by (forced plan (state plan past)) h where
  by : (due : Option Event) → obeys plan (state plan past) (Some (next_reading readings past)) e due ≡ true → obeys plan (state plan past) None e due ≡ true
  by None k = k
  by (Some d) k = k

-- a resume may follow any list where no readings are known, as it may where they are
resume_follows : (plan : Plan) (readings : List Reading) (past : List Event) (e : Event) → is_resume e ≡ true → may_follow plan (Some readings) past e ≡ true → may_follow plan None past e ≡ true
unfolding may_follow may_come
resume_follows plan readings past event.Resume r h = h
resume_follows plan readings past _ r h = cc

-- a lawful list is lawful whatever the readings were
pub lawful_is_lawful_so_far : (plan : Plan) (readings : List Reading) (past : List Event) → are_in_order readings ≡ true → is_lawful plan readings past ≡ true → is_lawful_so_far plan past ≡ true
unfolding is_lawful is_lawful_so_far
lawful_is_lawful_so_far plan readings [] order h = refl
lawful_is_lawful_so_far plan readings (e ∷ past) order h =
    let p : ((if is_resume e then is_lawful_so_far plan past else is_lawful plan readings past) ≡ true) × (may_follow plan (Some readings) past e ≡ true) = and_parts _ _ h in
    elim (cases_Bool (is_resume e)) [
      | inl r ↦ and_from _ _ (sym (cond-true (is_resume e) (is_lawful_so_far plan past) (is_lawful plan readings past) r) ∙ p.0) (resume_follows plan readings past e r p.1)
      | inr n ↦
          let lawful : is_lawful plan readings past ≡ true = sym (cond-false (is_resume e) (is_lawful_so_far plan past) (is_lawful plan readings past) n) ∙ p.0 in
          and_from _ _ (lawful_is_lawful_so_far plan readings past order lawful) (same_but_tick plan readings past e lawful order p.1)
    ]
