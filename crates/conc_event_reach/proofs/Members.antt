-- Members of a set are found in the part of the requests where they stand.
use Rattle.std.proofs.Common.{◌≡◌, ℕ, zero, suc, ◌+◌, ◌-◌, ◌<◌, ◌≤◌, Bool, true, cond, List, [], ◌∷◌, take, drop, Some, refl, ap, arith, inl, inr}
use Rattle.std.specs.Prelude.{IsTrue, slice_get, slice_range}
use Rattle.std.specs.List.{filter}
use Rattle.std.proofs.lemmas.Bool.{and_parts, cases_Bool}
use Rattle.conc_types.specs.declared.event.RequestId.{RequestId}
use Rattle.conc_types.specs.declared.plan.Plan.{Plan}
use Rattle.conc_types.specs.declared.plan.Req.{Req}
use Rattle.conc_types.specs.Words.{some_and}
use Rattle.conc_base_law.specs.Plans.{is_member, members}
use Rattle.conc_base_law.specs.Words.{id_eq}
use Rattle.conc_event_reach.specs.Spans.{AreMembers, AreSpans, is_within, span_of_members}
use Rattle.conc_event_reach.specs.declared.span.Span.{Span}
use Rattle.conc_event_reach.specs.declared.spans.Spans.{Spans}
use Rattle.conc_event_reach.proofs.Around.{around_members}
use Rattle.conc_event_reach.proofs.Within.{within-bounds}

-- where no element passes, none is kept
filter-none : {T : Type 0} (p : T → Bool) (xs : List T) → ((k : ℕ) (x : T) → slice_get xs k ≡ Some x → p x ≡ true → ⊥)
    → filter p xs ≡ []
filter-none p [] h = refl
filter-none p (x ∷ xs) h = elim (cases_Bool (p x)) [
  | inl t ↦ absurd (h zero x refl t)
  | inr f ↦ rw f (filter-none p xs (λ k y at. h (suc k) y at))
]

-- where those that pass stand before an index, a filter keeps them of the part before it
filter-front : {T : Type 0} (p : T → Bool) (n : ℕ) (xs : List T) → ((k : ℕ) (x : T) → slice_get xs k ≡ Some x → p x ≡ true → k < n)
    → filter p (take n xs) ≡ filter p xs
filter-front p zero xs h = let none : filter p xs ≡ [] = filter-none p xs (λ k x at t. let b : k < 0 = h k x at t in absurd (omega arith)) in rw none refl
filter-front p (suc n) [] h = refl
filter-front p (suc n) (x ∷ xs) h =
    ap (λ z. cond (p x) (x ∷ z) z)
    (filter-front p n xs (λ k y at t. let b : suc k < suc n = h (suc k) y at t in omega arith))

-- where they stand in a part, a filter keeps them of that part
filter-part : {T : Type 0} (p : T → Bool) (from n : ℕ) (xs : List T)
    → ((k : ℕ) (x : T) → slice_get xs k ≡ Some x → p x ≡ true → (from ≤ k) × (k < from + n))
    → filter p (take n (drop from xs)) ≡ filter p xs
filter-part p zero n xs h = filter-front p n xs (λ k x at t. let b : (zero ≤ k) × (k < zero + n) = h k x at t in omega (arith, b.1))
filter-part p (suc from) n [] h = kept-none n where
  kept-none : (n : ℕ) → filter p (take n []) ≡ []
  kept-none zero = refl
  kept-none (suc n) = refl
filter-part p (suc from) n (x ∷ xs) h = elim (cases_Bool (p x)) [
  | inl t ↦ absurd (omega (arith, h zero x refl t))
  | inr f ↦ rw f (filter-part p from n xs (λ k y at t. let b : (suc from ≤ suc k) × (suc k < suc from + n) = h (suc k) y at t in (omega arith, omega arith)))
]

-- the part of the requests within the span of a set's members has these members
pub are_members : (plan : Plan) (spans : Spans) (set : RequestId) (span : Span) (part : List Req) → AreSpans plan spans → span ≡ span_of_members spans set
    → span.from ≤ span.to → part ≡ slice_range plan.requests span.from span.to → AreMembers plan set part
unfolding members is_member
are_members plan spans set span part are at order is = λ stage.
    rw is
    (filter-part (is_member set stage) span.from (span.to - span.from) plan.requests
    (λ k r found t.
    let of_set : some_and (id_eq set) r.parent ≡ true = (and_parts _ _ t).0 in
    let within : IsTrue (is_within k span) = rw at ((around_members plan spans set are).all k r found of_set) in
    let bounds : (span.from ≤ k) × (k < span.to) = within-bounds k span within in
    (omega (arith, bounds.0), omega (arith, bounds.1))))

-- so do all requests
pub all_members : (plan : Plan) (set : RequestId) (requests : List Req) → requests ≡ plan.requests → AreMembers plan set requests
unfolding members
all_members plan set requests is = λ stage. ap (filter (is_member set stage)) is
