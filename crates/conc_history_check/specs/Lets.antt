-- The least turn of requests that may be let out.
use Rattle.std.specs.Prelude.{◌≡◌, ℕ, ◌≤◌, Bool, true, IsTrue, nat_lt, Option, None, Some}
use Rattle.conc_types.specs.declared.facts.State.{State}
use Rattle.conc_types.specs.declared.plan.Plan.{Plan}
use Rattle.conc_types.specs.declared.plan.Req.{Req}
use Rattle.conc_base_law.specs.Next.{may_let}
use Rattle.conc_base_law.specs.Words.{Has}
use Rattle.conc_event_queue.specs.Turns.{turn}

-- the turn comes before the best one, if there is one
abbrev pub comes_before : ℕ → Option ℕ → Bool
comes_before turn None = true
comes_before turn (Some best) = nat_lt turn best

-- it is the turn of a request that may be let out, and none of these that may be has a lesser one
pub record IsLeastTurn (plan : Plan) (s : State) (among : Req → Type 0) (best : Option ℕ) : Type 0 where
  pub first : (q : Req) → Has plan.requests q → among q → IsTrue (may_let plan s q) → (t : ℕ) × (best ≡ Some t) × (t ≤ turn q)
  pub own : (t : ℕ) → best ≡ Some t → (q : Req) × Has plan.requests q × IsTrue (may_let plan s q) × (turn q ≡ t)
