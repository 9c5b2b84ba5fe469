-- Requests that are named by their numbers.
use Rattle.std.proofs.Common.{◌≡◌, ℕ, ◌+◌, ◌≤◌, true, false, List, length, Option, None, Some, if◌then◌else◌, Bor, refl, sym, ◌∙◌, ap, arith, eq-eqb, inl, inr, is_some, suc, zero}
use mathlib.Core.Logic.{dite}
use native.Mathlib.Decide.{ℕ_discrete}
use Rattle.std.specs.Option.{option_copied}
use Rattle.std.proofs.lemmas.List.{get_or_past}
use Rattle.std.proofs.lemmas.Option.{slice_get_cases, slice_get_within}
use Rattle.conc_types.specs.declared.event.RequestId.{RequestId}
use Rattle.conc_types.specs.declared.plan.Plan.{Plan}
use Rattle.conc_types.specs.declared.plan.Req.{Req}
use Rattle.conc_types.specs.Plans.{request}
use Rattle.conc_types.specs.Words.{numbered}
use Rattle.conc_pool_seats.specs.declared.views.LeadState.{LeadState}
use Rattle.conc_pool_seats.specs.declared.views.LeadState.TheVariants.{NotLet, Let, Seen, Gone, Got, Done}
use Rattle.conc_pool_seats.specs.LeadStates.{lead_state_at, lead_state_in}
use Rattle.conc_pool_seats.specs.Words.{IsRequest, count_of_requests, request_word}
use Rattle.conc_base_law.proofs.Numbering.{numbered-at}
use Rattle.conc_board.proofs.Leads.{lead_state_in-request}
use Rattle.conc_run_desk.specs.Following.{Withdrawn}

within : (xs : List Req) (n : ℕ) (x : Req) → numbered xs n ≡ Some x → (1 ≤ n) × (n ≤ length xs)
within xs zero x h = cc
within xs (suc n) x h = let k = slice_get_within xs n x (sym (numbered-at xs (suc n) n (omega arith)) ∙ h) in (omega arith, omega arith)

-- where a plan has the request with this number
pub is_request : (plan : Plan) (r : RequestId) (found : Option (Bor Req)) → option_copied found ≡ request plan r → is_some found ≡ true → IsRequest plan r
unfolding request
is_request plan r None copied some = cc
is_request plan r (Some x) copied some = let k = within plan.requests r.number x.now (sym copied) in record { from_one = k.0; within = k.1 }

-- a request that a plan has
pub of_plan : (plan : Plan) (r : RequestId) (x : Req) → request plan r ≡ Some x → IsRequest plan r
unfolding request
of_plan plan r x has = let k = within plan.requests r.number x has in record { from_one = k.0; within = k.1 }

outside : (xs : List Req) (n k : ℕ) → n ≡ 1 + k → numbered xs n ≡ None → length xs ≤ k
outside xs n k e none = elim (slice_get_cases xs k).1 [
  | inl found ↦ let never : None ≡ Some found.0 = sym none ∙ (numbered-at xs n k e ∙ found.2) in cc
  | inr past ↦ past.0
]

none_copied : (found : Option (Bor Req)) → is_some found ≡ false → option_copied found ≡ None
none_copied None none = refl
none_copied (Some x) none = cc

-- where it has none, none is let
pub not_let : (plan : Plan) (r : RequestId) (lead_states : List LeadState) (found : Option (Bor Req)) → option_copied found ≡ request plan r → is_some found ≡ false
    → length lead_states ≡ count_of_requests plan → lead_state_in lead_states r ≡ NotLet
unfolding request
not_let plan r lead_states found copied none all = dite (ℕ_discrete r.number 0)
    (λ e. ap (λ b. if b then NotLet else lead_state_at lead_states (request_word r)) (eq-eqb r.number 0 e))
    (λ ne. let past = outside plan.requests r.number (request_word r) (omega (arith, ne)) (sym copied ∙ none_copied found none) in
    lead_state_in-request lead_states r (omega (arith, ne)) ∙ get_or_past lead_states (request_word r) NotLet (omega arith))

-- a request that is not let cannot be withdrawn
pub not_withdrawn : (st : LeadState) → st ≡ NotLet → Withdrawn st st
not_withdrawn NotLet none = refl
not_withdrawn Let none = cc
not_withdrawn (Seen p) none = cc
not_withdrawn (Gone p m) none = refl
not_withdrawn (Got p m) none = refl
not_withdrawn (Done m) none = refl
