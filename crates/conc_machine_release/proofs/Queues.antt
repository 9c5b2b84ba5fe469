-- The queues of the classes where some requests are renewed.
use Rattle.std.proofs.Common.{◌≡◌, ℕ, zero, suc, ◌+◌, ◌<◌, ◌≤◌, Bool, true, ◌==◌, List, [], ◌∷◌, length, map, set, take, drop, Option, Some, refl, sym, ◌∙◌, ap, inl, inr, arith}
use Rattle.std.specs.Prelude.{if◌then◌else◌, slice_get}
use Rattle.std.specs.Bool.{then_some}
use Rattle.std.specs.List.{range_with_len}
use Rattle.std.proofs.lemmas.Bool.{cases_eq, eq-eqb, eqb-true, ne_eqb}
use Rattle.std.proofs.lemmas.Option.{get_or_from_slice_get}
use Rattle.conc_types.specs.declared.facts.State.{State}
use Rattle.conc_types.specs.declared.plan.Plan.{Plan}
use Rattle.conc_types.specs.declared.plan.Req.{Req}
use Rattle.conc_types.specs.Plans.{request}
use Rattle.conc_base_law.specs.Words.{Has}
use Rattle.conc_base_law.proofs.Numbering.{numbered_plan}
use Rattle.conc_event_queue.specs.Turns.{turn, turns_of}
use Rattle.conc_event_queue.proofs.Maps.{request_at_place}
use Rattle.conc_event_classes.specs.Classes.{AreClasses, class_at, of_class, slot_at}
use Rattle.conc_event_classes.specs.declared.classes.Classes.{Classes}
use Rattle.conc_base_law.specs.Next.{is_ready}
use Rattle.conc_machine_release.specs.Refresh.{put_in, queues_of, refreshed_all, refreshed_at}
use Rattle.conc_machine_release.proofs.Lists.{drop-next, filter-distinct, filter-has, has-place, IsDistinct, map_range-get, map_range-same, map_range-set, place-has, place-some, take-none}

-- ---- requests of a plan

-- requests of a plan with one number are one
pub same_number : (plan : Plan) (x y : Req) → Has plan.requests x → Has plan.requests y → x.number.number ≡ y.number.number → x ≡ y
same_number plan x y hx hy e =
    let n : x.number ≡ y.number = ap (λ n. record { number = n }) e in
    let p : Some x ≡ Some y = sym (numbered_plan plan x hx) ∙ ap (request plan) n ∙ numbered_plan plan y hy in
    cc

-- no request stands at two places of a plan
requests-distinct : (plan : Plan) → IsDistinct plan.requests
requests-distinct plan = record {
  one = λ i j x h k.
      let p : (x.number.number ≡ i + 1) × Has plan.requests x = request_at_place plan i x h in
      let q : (x.number.number ≡ j + 1) × Has plan.requests x = request_at_place plan j x k in
      omega (arith, p.0, q.0);
}

-- a request of a class
pub of_class-has : (plan : Plan) (classes : Classes) (c : ℕ) (r : Req) → Has (of_class plan classes c) r → Has plan.requests r × (class_at classes r ≡ c)
unfolding of_class
of_class-has plan classes c r h =
    let p : Has plan.requests r × ((class_at classes r == c) ≡ true) = filter-has (λ q. class_at classes q == c) plan.requests r h in
    (p.0, eqb-true (class_at classes r) c p.1)

-- ---- turns

-- two tests that agree on the requests
pub turns-same : (f g : Req → Bool) (xs : List Req) → ((y : Req) → Has xs y → f y ≡ g y) → turns_of f xs ≡ turns_of g xs
unfolding turns_of
turns-same f g [] h = refl
turns-same f g (x ∷ xs) h = rw (h x (inl refl)) (ap (λ l. then_some (g x) (turn x) ∷ l) (turns-same f g xs (λ y has. h y (inr has))))

-- two tests that agree but at one place
turns-set : (f g : Req → Bool) (xs : List Req) (k : ℕ) (x : Req) → slice_get xs k ≡ Some x
    → ((j : ℕ) (y : Req) → slice_get xs j ≡ Some y → (j ≡ k → ⊥) → g y ≡ f y)
    → set (turns_of f xs) k (then_some (g x) (turn x)) ≡ turns_of g xs
unfolding turns_of
turns-set f g [] k x h other = refl
turns-set f g (z ∷ zs) zero x h other =
    let e : x ≡ z = cc in
    let later : turns_of f zs ≡ turns_of g zs =
    turns-same f g zs (λ y has. let at : (k : ℕ) × (slice_get zs k ≡ Some y) = has-place zs y has in sym (other (suc at.0) y at.1 (λ (n : suc at.0 ≡ 0). omega arith))) in
    ap (λ w. then_some (g w) (turn w) ∷ turns_of f zs) e ∙ ap (λ l. then_some (g z) (turn z) ∷ l) later
turns-set f g (z ∷ zs) (suc k) x h other =
    ap (λ b. then_some b (turn z) ∷ set (turns_of f zs) k (then_some (g x) (turn x))) (sym (other 0 z refl (λ (n : 0 ≡ suc k). omega arith)))
    ∙ ap (λ l. then_some (g z) (turn z) ∷ l) (turns-set f g zs k x h (λ j y at ne. other (suc j) y at (λ (n : suc j ≡ suc k). ne (omega arith))))

-- ---- queues

-- two tests that agree on the requests of the plan
pub queues-same : (plan : Plan) (classes : Classes) (f g : Req → Bool) → ((q : Req) → Has plan.requests q → f q ≡ g q) → queues_of plan classes f ≡ queues_of plan classes g
unfolding queues_of
queues-same plan classes f g h =
    map_range-same (λ c. turns_of f (of_class plan classes c)) (λ c. turns_of g (of_class plan classes c)) 0 (length classes.sizes)
    (λ c le. turns-same f g (of_class plan classes c) (λ y has. h y (of_class-has plan classes c y has).0))

-- two tests that agree but on one request
queue-renewed : (plan : Plan) (classes : Classes) → AreClasses plan classes → (f g : Req → Bool) (r : Req) → Has plan.requests r
    → ((q : Req) → Has plan.requests q → (q.number.number ≡ r.number.number → ⊥) → g q ≡ f q)
    → put_in (queues_of plan classes f) (class_at classes r) (slot_at classes r) (then_some (g r) (turn r)) ≡ queues_of plan classes g
unfolding queues_of of_class
queue-renewed plan classes are f g r has other =
    ap (λ q. set (queues_of plan classes f) (class_at classes r) (set q (slot_at classes r) (then_some (g r) (turn r)))) (get_or_from_slice_get (map of_f (range_with_len 0 (length classes.sizes))) (class_at classes r) (of_f (class_at classes r)) [] here)
    ∙ map_range-set of_f of_g (length classes.sizes) (class_at classes r) _ (sym own) others where
      of_f : ℕ → List (Option ℕ)
      of_f c = turns_of f (of_class plan classes c)

      of_g : ℕ → List (Option ℕ)
      of_g c = turns_of g (of_class plan classes c)

      here : slice_get (map of_f (range_with_len 0 (length classes.sizes))) (class_at classes r) ≡ Some (of_f (class_at classes r))
      here = map_range-get of_f 0 (length classes.sizes) (class_at classes r) (class_at classes r) (omega arith) (are.known r has)

      distinct : IsDistinct (of_class plan classes (class_at classes r))
      distinct = filter-distinct (λ q. class_at classes q == class_at classes r) plan.requests (requests-distinct plan)

      own : set (of_f (class_at classes r)) (slot_at classes r) (then_some (g r) (turn r)) ≡ of_g (class_at classes r)
      own = turns-set f g (of_class plan classes (class_at classes r)) (slot_at classes r) r (are.located r has) (λ j y at ne.
          let inside : Has plan.requests y × (class_at classes y ≡ class_at classes r) =
          of_class-has plan classes (class_at classes r) y (place-has (of_class plan classes (class_at classes r)) j y at) in
          other y inside.0 (λ (n : y.number.number ≡ r.number.number).
          let same : y ≡ r = same_number plan y r inside.0 has n in
          ne (distinct.one j (slot_at classes r) r (at ∙ ap (λ z. Some z) same) (are.located r has))))

      others : (d : ℕ) → (d ≡ class_at classes r → ⊥) → of_g d ≡ of_f d
      others d ne = turns-same g f (of_class plan classes d) (λ y inside.
          let p : Has plan.requests y × (class_at classes y ≡ d) = of_class-has plan classes d y inside in
          other y p.0 (λ (n : y.number.number ≡ r.number.number). ne (sym p.1 ∙ ap (class_at classes) (same_number plan y r p.0 has n))))

-- one test at a number, and another at the others
abbrev pub at_number : ℕ → (Req → Bool) → (Req → Bool) → Req → Bool
at_number n g f q = if q.number.number == n then g q else f q

pub at_number-own : (n : ℕ) (g f : Req → Bool) (q : Req) → q.number.number ≡ n → at_number n g f q ≡ g q
at_number-own n g f q e = rw (eq-eqb q.number.number n e)

pub at_number-other : (n : ℕ) (g f : Req → Bool) (q : Req) → (q.number.number ≡ n → ⊥) → at_number n g f q ≡ f q
at_number-other n g f q e = rw (ne_eqb q.number.number n e)

-- a request is renewed
pub refreshed_at-is : (plan : Plan) (classes : Classes) (s : State) → AreClasses plan classes → (r : Req) → Has plan.requests r → (f : Req → Bool)
    → refreshed_at plan classes s (queues_of plan classes f) r ≡ queues_of plan classes (at_number r.number.number (is_ready plan s) f)
refreshed_at-is plan classes s are r has f =
    ap (λ b. put_in (queues_of plan classes f) (class_at classes r) (slot_at classes r) (then_some b (turn r))) (sym (at_number-own r.number.number (is_ready plan s) f r refl))
    ∙ queue-renewed plan classes are f (at_number r.number.number (is_ready plan s) f) r has (λ q inside ne. at_number-other r.number.number (is_ready plan s) f q ne)

-- so many requests from an index on are renewed: one test is theirs, and another one that of the others
pub refreshed_all-is : (plan : Plan) (classes : Classes) (s : State) → AreClasses plan classes → (n i : ℕ) (f h : Req → Bool) → ((k : ℕ) → k < n → i + k < length plan.requests)
    → ((q : Req) → Has plan.requests q → i < q.number.number → q.number.number ≤ i + n → h q ≡ is_ready plan s q)
    → ((q : Req) → Has plan.requests q → ((i < q.number.number) × (q.number.number ≤ i + n) → ⊥) → h q ≡ f q)
    → refreshed_all plan classes s (take n (drop i plan.requests)) (queues_of plan classes f) ≡ queues_of plan classes h
unfolding refreshed_all
refreshed_all-is plan classes s are zero i f h there inner outer =
    ap (λ rs. refreshed_all plan classes s rs (queues_of plan classes f)) (take-none (drop i plan.requests))
    ∙ queues-same plan classes f h (λ q has. sym (outer q has (λ (p : (i < q.number.number) × (q.number.number ≤ i + 0)). omega (arith, p.0, p.1))))
refreshed_all-is plan classes s are (suc n) i f h there inner outer =
    let r : (r : Req) × (slice_get plan.requests i ≡ Some r) = place-some plan.requests i (omega (arith, there 0 (omega arith))) in
    let p : (r.0.number.number ≡ i + 1) × Has plan.requests r.0 = request_at_place plan i r.0 r.1 in
    ap (λ rs. refreshed_all plan classes s (take (suc n) rs) (queues_of plan classes f)) (drop-next plan.requests i r.0 r.1)
    ∙ ap (refreshed_all plan classes s (take n (drop (i + 1) plan.requests))) (refreshed_at-is plan classes s are r.0 p.1 f)
    ∙ refreshed_all-is plan classes s are n (i + 1) (at_number r.0.number.number (is_ready plan s) f) h
    (λ k (less : k < n). omega (arith, there (suc k) (omega arith)))
    (λ q has (more : i + 1 < q.number.number) (most : q.number.number ≤ i + 1 + n). inner q has (omega arith) (omega arith))
    (λ q has out. elim (cases_eq q.number.number r.0.number.number) [
      | inl e ↦ inner q has (omega (arith, p.0)) (omega (arith, p.0)) ∙ sym (at_number-own r.0.number.number (is_ready plan s) f q e)
      | inr ne ↦ outer q has (λ (between : (i < q.number.number) × (q.number.number ≤ i + suc n)).
          let other : q.number.number ≡ i + 1 → ⊥ = λ e. ne (e ∙ sym p.0) in
          out (omega (arith, between.0, other), omega (arith, between.1)))
          ∙ sym (at_number-other r.0.number.number (is_ready plan s) f q ne)
    ])
