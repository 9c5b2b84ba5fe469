-- Loops that renew keys and count, one step more.
use Rattle.std.proofs.Common.{◌≡◌, ℕ, zero, suc, ◌+◌, ◌-◌, ◌<◌, ◌≤◌, Bool, List, [], ◌∷◌, length, get_or, drop, take, Option, Some, refl, sym, ◌∙◌, ap, add-one, arith}
use Rattle.std.specs.Prelude.{slice_get, slice_range}
use Rattle.conc_types.specs.declared.facts.State.{State}
use Rattle.conc_types.specs.declared.plan.Plan.{Plan}
use Rattle.conc_types.specs.declared.plan.Req.{Req}
use Rattle.conc_event_classes.specs.declared.classes.Classes.{Classes}
use Rattle.conc_machine_release.specs.Refresh.{refreshed_all, refreshed_at}
use Rattle.conc_machine_release.specs.Rivals.{counted_all, counted_at}
use Rattle.conc_machine_release.proofs.Lists.{drop-next, take-none}

-- ---- keys

-- one request more of those from an index on
pub refreshed_all-next : (plan : Plan) (classes : Classes) (s : State) (from to : ℕ) (r : Req) (queues : List (List (Option ℕ))) → from < to → slice_get plan.requests from ≡ Some r
    → refreshed_all plan classes s (slice_range plan.requests from to) queues
    ≡ refreshed_all plan classes s (slice_range plan.requests (from + 1) to) (refreshed_at plan classes s queues r)
unfolding refreshed_all
refreshed_all-next plan classes s from to r queues more at =
    ap (λ rs. refreshed_all plan classes s (take (to - from) rs) queues) (drop-next plan.requests from r at)
    ∙ ap (λ n. refreshed_all plan classes s (take n (r ∷ drop (from + 1) plan.requests)) queues) count
  where
    count : to - from ≡ suc (to - (from + 1))
    count = omega arith

pub refreshed_all-none : (plan : Plan) (classes : Classes) (s : State) (from to : ℕ) (queues : List (List (Option ℕ))) → to ≤ from
    → refreshed_all plan classes s (slice_range plan.requests from to) queues ≡ queues
unfolding refreshed_all
refreshed_all-none plan classes s from to queues end =
    ap (λ n. refreshed_all plan classes s (take n (drop from plan.requests)) queues) none
    ∙ ap (λ rs. refreshed_all plan classes s rs queues) (take-none (drop from plan.requests))
  where
    none : to - from ≡ 0
    none = omega arith

-- ---- counts

counted_all-step : (more : Bool) (at counts : List ℕ) (k x : ℕ) → k < length at → x ≡ get_or at k 0
    → counted_all more (drop k at) counts ≡ counted_all more (drop (suc k) at) (counted_at more counts x)
unfolding counted_all
counted_all-step more [] counts k x h e = absurd (omega arith)
counted_all-step more (y ∷ ys) counts zero x h e = ap (λ n. counted_all more ys (counted_at more counts n)) (sym e)
counted_all-step more (y ∷ ys) counts (suc k) x h e = counted_all-step more ys counts k x (omega arith) e

pub counted_all-next : (more : Bool) (at counts : List ℕ) (k x : ℕ) → k < length at → x ≡ get_or at k 0
    → counted_all more (drop k at) counts ≡ counted_all more (drop (k + 1) at) (counted_at more counts x)
counted_all-next more at counts k x h e = rw (add-one k) (counted_all-step more at counts k x h e)

pub counted_all-end : (more : Bool) (at counts : List ℕ) (k : ℕ) → length at ≤ k → counted_all more (drop k at) counts ≡ counts
unfolding counted_all
counted_all-end more [] counts zero h = refl
counted_all-end more [] counts (suc k) h = refl
counted_all-end more (y ∷ ys) counts zero h = absurd (omega arith)
counted_all-end more (y ∷ ys) counts (suc k) h = counted_all-end more ys counts k (omega arith)
