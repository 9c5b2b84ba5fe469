-- The facts of the request at an index stand at that index.
use Rattle.std.proofs.Common.{◌≡◌, ℕ, ◌+◌, Bool, true, false, not, ◌&&◌, Option, None, Some, refl, ◌∙◌, ap, arith}
use Rattle.std.specs.Prelude.{slice_get, unwrap_or}
use Rattle.conc_types.specs.declared.facts.Facts.{Facts}
use Rattle.conc_types.specs.declared.facts.State.{State}
use Rattle.conc_types.specs.declared.plan.Plan.{Plan}
use Rattle.conc_types.specs.declared.plan.Req.{Req}
use Rattle.conc_types.specs.Words.{numbered}
use Rattle.conc_base_law.specs.Next.{can_run, is_free, is_ready, may_let}
use Rattle.conc_base_law.specs.State.{facts_at, has_come, is_completed, is_live, is_waiting, no_facts}
use Rattle.conc_base_law.proofs.Numbering.{numbered-at}
use Rattle.conc_event_queue.proofs.Maps.{request_at_place}
use Rattle.conc_history_check.specs.At.{waits_at}

-- what is read at the index is what is found by the number
pub at-number : (plan : Plan) (s : State) (i : ℕ) (r : Req) → slice_get plan.requests i ≡ Some r → numbered s.facts r.number.number ≡ slice_get s.facts i
at-number plan s i r at =
    let number : r.number.number ≡ i + 1 = (request_at_place plan i r at).0 in
    numbered-at s.facts r.number.number i (omega (arith, number))

-- a request that does not wait is not ready
ready-from : (entered live completed held rest : Bool) → (entered && (not live && (not completed && not held))) ≡ false
    → (entered && (not live && (not completed && (not held && rest)))) ≡ false
ready-from false live completed held rest h = refl
ready-from true true completed held rest h = refl
ready-from true false true held rest h = refl
ready-from true false false true rest h = refl
ready-from true false false false rest h = cc

waits-facts : (o : Option Facts) (rest : Bool) → waits_at o ≡ false
    → ((unwrap_or o no_facts).entered
    && (not (is_live (unwrap_or o no_facts)) && (not (is_completed (unwrap_or o no_facts)) && (not (unwrap_or o no_facts).held && rest)))) ≡ false
waits-facts None rest h = refl
waits-facts (Some own) rest h = ready-from own.entered (is_live own) (is_completed own) own.held rest h

pub waits-index : (plan : Plan) (s : State) (i : ℕ) (r : Req) → slice_get plan.requests i ≡ Some r → waits_at (slice_get s.facts i) ≡ false
    → may_let plan s r ≡ false
unfolding facts_at is_ready may_let
waits-index plan s i r at h =
    let none : waits_at (numbered s.facts r.number.number) ≡ false = ap waits_at (at-number plan s i r at) ∙ h in
    let unready : is_ready plan s r ≡ false =
    waits-facts (numbered s.facts r.number.number) (has_come s.time r.start && (can_run plan r && not (is_waiting plan s r))) none in
    ap (λ b. b && is_free plan s r) unready
