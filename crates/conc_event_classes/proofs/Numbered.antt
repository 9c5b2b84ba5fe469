-- Lists that have one element for each request of a plan, by the requests' numbers.
use Rattle.std.proofs.Common.{◌≡◌, ℕ, zero, suc, ◌<◌, List, length, get_or, Some, refl, sym, ◌∙◌, ap, arith}
use Rattle.std.specs.Prelude.{slice_get, unwrap_or}
use Rattle.std.proofs.lemmas.Option.{slice_get-get_or}
use Rattle.conc_types.specs.declared.plan.Plan.{Plan}
use Rattle.conc_types.specs.declared.plan.Req.{Req}
use Rattle.conc_types.specs.Plans.{request}
use Rattle.conc_types.specs.Words.{numbered}
use Rattle.conc_base_law.specs.Words.{Has}
use Rattle.conc_base_law.proofs.Numbering.{found, numbered-at, numbered_plan}

numbered-place : {T : Type 0} (xs : List T) (n : ℕ) (x : T) → numbered xs n ≡ Some x → (k : ℕ) × (n ≡ suc k) × (slice_get xs k ≡ Some x)
numbered-place xs zero x h = cc
numbered-place xs (suc k) x h = (k, refl, sym (numbered-at xs (suc k) k (omega arith)) ∙ h)

-- a request stands at the place before its number
pub place_of : (plan : Plan) (r : Req) → Has plan.requests r → (k : ℕ) × (r.number.number ≡ suc k) × (slice_get plan.requests k ≡ Some r)
unfolding request
place_of plan r has = numbered-place plan.requests r.number.number r (numbered_plan plan r has)

-- and has the number after its place
pub number_at : (plan : Plan) (k : ℕ) (r : Req) → slice_get plan.requests k ≡ Some r → r.number.number ≡ suc k
unfolding request
number_at plan k r h = (found plan (record { number = suc k }) r (numbered-at plan.requests (suc k) k (omega arith) ∙ h)).0

-- what a list has at a number
pub numbered-got : (xs : List ℕ) (n k : ℕ) → n ≡ suc k → k < length xs → numbered xs n ≡ Some (unwrap_or (numbered xs n) 0)
numbered-got xs n k e h =
    let at : numbered xs n ≡ Some (get_or xs k 0) = numbered-at xs n k (omega (arith, e)) ∙ slice_get-get_or xs k 0 h in
    at ∙ ap (λ z. Some z) (sym (ap (λ o. unwrap_or o 0) at))

-- the same at its place
pub place-got : (xs : List ℕ) (n k : ℕ) → n ≡ suc k → k < length xs → slice_get xs k ≡ Some (unwrap_or (numbered xs n) 0)
place-got xs n k e h = sym (numbered-at xs n k (omega (arith, e))) ∙ numbered-got xs n k e h
