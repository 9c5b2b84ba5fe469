-- The least turn of the requests that may be let out, one request after the other.
use Rattle.std.proofs.Common.{◌≡◌, ℕ, ◌+◌, ◌<◌, Bool, true, false, ◌&&◌, length, drop, Option, None, Some, refl, sym, ◌∙◌, ap}
use Rattle.std.specs.Prelude.{slice_get}
use Rattle.std.specs.Bool.{then_some}
use Rattle.std.proofs.lemmas.Bool.{and_parts, not-true}
use Rattle.conc_types.specs.declared.facts.State.{State}
use Rattle.conc_types.specs.declared.plan.Plan.{Plan}
use Rattle.conc_types.specs.declared.plan.Req.{Req}
use Rattle.conc_base_law.specs.Next.{is_free, is_ready, may_let}
use Rattle.conc_base_law.specs.State.{facts_at, is_live}
use Rattle.std.proofs.lemmas.Option.{get_or_from_slice_get}
use Rattle.conc_base_law.proofs.Positions.{slice_get-some}
use Rattle.conc_event_queue.specs.Least.{least, lesser}
use Rattle.conc_event_queue.specs.Turns.{turns_of}
use Rattle.conc_event_queue.proofs.LeastTurns.{least-next, lesser-none}
use Rattle.conc_history_check.specs.Active.{quiet_at}
use Rattle.conc_history_check.proofs.AtIndex.{waits-index}
use Rattle.conc_history_check.proofs.Quiet.{quiet-waits}
use Rattle.conc_history_check.specs.Lets.{comes_before}

-- ---- which requests count

-- a request may be let where it is ready and free
pub may_let-parts : (plan : Plan) (s : State) (r : Req) → may_let plan s r ≡ (is_ready plan s r && is_free plan s r)
unfolding may_let
may_let-parts plan s r = refl

-- where it may not be, the best turn stays
pub better-not : (best : Option ℕ) (b : Bool) (t : ℕ) → b ≡ false → best ≡ lesser best (then_some b t)
better-not best b t e = rw e (sym (lesser-none best))

-- one that does is the best
pub better-before : (best : Option ℕ) (b : Bool) (t : ℕ) → comes_before t best ≡ true → b ≡ true → Some t ≡ lesser best (then_some b t)
better-before None b t h e = rw e refl
better-before (Some best) b t h e = rw (e, h) refl

-- a ready request is not live
pub ready-not_live : (plan : Plan) (s : State) (r : Req) → is_ready plan s r ≡ true → is_live (facts_at s r) ≡ false
unfolding is_ready
ready-not_live plan s r h = not-true _ (and_parts _ _ (and_parts _ _ h).1).0

-- ---- quiet requests

-- a quiet one leaves the best turn as it is
pub turn-quiet : (plan : Plan) (s : State) (i : ℕ) (best : Option ℕ) → i < length plan.requests → quiet_at (slice_get s.facts i) ≡ true
    → lesser best (least (turns_of (may_let plan s) (drop (i + 1) plan.requests))) ≡ lesser best (least (turns_of (may_let plan s) (drop i plan.requests)))
turn-quiet plan s i best within quiet =
    let w : (r : Req) × (slice_get plan.requests i ≡ Some r) = slice_get-some plan.requests i within in
    let waits : may_let plan s w.0 ≡ false = waits-index plan s i w.0 w.1 (quiet-waits (slice_get s.facts i) quiet) in
    ap (λ o. lesser o (least (turns_of (may_let plan s) (drop (i + 1) plan.requests)))) (better-not best _ _ waits)
    ∙ least-next (may_let plan s) plan.requests i w.0 best within (sym (get_or_from_slice_get plan.requests i w.0 w.0 w.1))
