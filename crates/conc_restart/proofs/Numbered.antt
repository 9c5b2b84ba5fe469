-- Sums over requests that are numbered on, of which one may be greater.
use Rattle.std.proofs.Common.{◌≡◌, ◌==◌, ℕ, zero, suc, ◌+◌, ◌*◌, ◌≤◌, Bool, false, if◌then◌else◌, List, [], ◌∷◌, length, Some, refl, ◌∙◌, ap, inl, inr, arith}
use Rattle.std.specs.Prelude.{slice_get}
use Rattle.std.specs.List.{sum_by}
use Rattle.std.proofs.lemmas.Bool.{cases_Bool, eqb-true, ne_eqb}
use Rattle.std.proofs.lemmas.List.Sums.{sum_by-cons}
use Rattle.conc_types.specs.declared.event.RequestId.{RequestId}
use Rattle.conc_types.specs.declared.plan.Plan.{Plan}
use Rattle.conc_types.specs.declared.plan.Req.{Req}
use Rattle.conc_types.specs.Plans.{request}
use Rattle.conc_base_law.specs.Words.{Has}
use Rattle.conc_base_law.proofs.Numbering.{found, numbered-at}
use Rattle.conc_base_law.proofs.Sums.{sum_by-below}

-- the numbers of the requests rise by one, from n on
pub record IsNumbered (n : ℕ) (requests : List Req) : Type 0 where
  pub at : (k : ℕ) (r : Req) → slice_get requests k ≡ Some r → r.number.number ≡ n + k

-- so do those of the later ones
numbered-later : (n : ℕ) (r : Req) (rs : List Req) → IsNumbered n (r ∷ rs) → IsNumbered (n + 1) rs
numbered-later n r rs h = record { at = λ k q is. omega (arith, h.at (suc k) q is) }

-- none has a lower number
numbered-from : (n : ℕ) (rs : List Req) (r : Req) → IsNumbered n rs → Has rs r → n ≤ r.number.number
numbered-from n [] r h has = absurd has
numbered-from n (q ∷ rs) r h has = elim has [
  | inl same ↦
      let here : q.number.number ≡ n + 0 = h.at zero q refl in
      let number : r.number.number ≡ q.number.number = ap (λ z. z.number.number) same in
      omega arith
  | inr later ↦ omega (arith, numbered-from (n + 1) rs r (numbered-later n q rs h) later)
]

-- the requests of a plan are numbered from 1
pub plan-numbered : (plan : Plan) → IsNumbered 1 plan.requests
unfolding request
plan-numbered plan = record {
  at = λ k r is.
      let id : RequestId = record { number = 1 + k } in
      let there : request plan id ≡ Some r = numbered-at plan.requests (1 + k) k refl ∙ is in
      (found plan id r there).0;
}

-- ---- sums

-- a sum whose terms are all greater by a number
pub sum_by-more : (c : ℕ) (f : Req → ℕ) (rs : List Req) → sum_by (λ r. c + f r) rs ≡ c * length rs + sum_by f rs
sum_by-more c f [] = omega arith
sum_by-more c f (r ∷ rs) = omega (arith, sum_by-cons (λ r. c + f r) r rs, sum_by-cons f r rs, sum_by-more c f rs)

-- one where a test holds, or none
abbrev pub one_if : Bool → ℕ
one_if b = if b then 1 else 0

-- where a term may grow by one at one number alone, the sum grows by one at most
pub sum_by-one_more : (f g : Req → ℕ) (m n : ℕ) (rs : List Req) → IsNumbered n rs
    → ((r : Req) → Has rs r → f r ≤ g r + one_if (m == r.number.number)) → sum_by f rs ≤ sum_by g rs + 1
sum_by-one_more f g m n [] h one = omega arith
sum_by-one_more f g m n (r ∷ rs) h one = elim (cases_Bool (m == r.number.number)) [
  | inl hit ↦
      let here : m ≡ r.number.number = eqb-true m r.number.number hit in
      let first : r.number.number ≡ n + 0 = h.at zero r refl in
      let below : (q : Req) → Has rs q → f q ≤ g q =
      λ q hq.
      let from : n + 1 ≤ q.number.number = numbered-from (n + 1) rs q (numbered-later n r rs h) hq in
      let miss : (m == q.number.number) ≡ false = ne_eqb m q.number.number (omega arith) in
      let none : one_if (m == q.number.number) ≡ 0 = ap one_if miss in
      omega (arith, one q (inr hq)) in
      let head : one_if (m == r.number.number) ≡ 1 = ap one_if hit in
      omega (arith, sum_by-cons f r rs, sum_by-cons g r rs, one r (inl refl), sum_by-below f g rs below)
  | inr miss ↦
      let head : one_if (m == r.number.number) ≡ 0 = ap one_if miss in
      omega (
        arith,
        sum_by-cons f r rs,
        sum_by-cons g r rs,
        one r (inl refl),
        sum_by-one_more f g m (n + 1) rs (numbered-later n r rs h) (λ q hq. one q (inr hq)),
      )
]
