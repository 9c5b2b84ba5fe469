-- A machine that takes in one more event of a list.
use Rattle.std.proofs.Common.{◌≡◌, ℕ, suc, ◌+◌, List, ◌∷◌, Option, reverse, Some, subst, sym, take, ◌∙◌, ap, arith}
use Rattle.std.specs.Prelude.{slice_get}
use Rattle.std.proofs.Props.{props}
use mathlib.Core.Logic.{∥∥₁_map}
use Rattle.conc_types.specs.declared.event.Event.{Event}
use Rattle.conc_types.specs.declared.event.Phase.{Phase}
use Rattle.conc_types.specs.declared.event.Status.{Status}
use Rattle.conc_types.specs.declared.plan.Plan.{Plan}
use Rattle.conc_base_law.proofs.Positions.{reverse-push, take-suc_at}
use Rattle.conc_restart.specs.Machines.{Machine, plan_of, StandsFor}
use Rattle.conc_view.specs.Stands.{Stands}

-- two standings of a request are the same in one way
pub same_status : (a b : Option (Phase × Status)) → IsProp (a ≡ b)
same_status a b = hlevel props

-- the machine of the plan stands for the first n events
pub record HasTaken (plan : Plan) (events : List Event) (machine : Machine) (n : ℕ) : Type 0 where
  pub same : plan_of machine ≡ plan
  pub stands : Stands machine (take n events)

-- and for one more
pub take_more : (plan : Plan) (events : List Event) (old new : Machine) (n : ℕ) (e : Event) → HasTaken plan events old n → slice_get events n ≡ Some e
    → plan_of new ≡ plan_of old → ((past : List Event) → StandsFor old past → StandsFor new (e ∷ past)) → HasTaken plan events new (n + 1)
take_more plan events old new n e h here same applied =
    let next : n + 1 ≡ suc n = omega arith in
    let more : reverse (take (n + 1) events) ≡ e ∷ reverse (take n events) =
    ap (λ k. reverse (take k events)) next ∙ (ap reverse (take-suc_at events n e here) ∙ reverse-push (take n events) e) in
    record { same = same ∙ h.same; stands = ∥∥₁_map h.stands (λ s. subst (StandsFor new) (sym more) (applied (reverse (take n events)) s)) }
