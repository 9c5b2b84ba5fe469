-- The counts of some requests, with one more.
use Rattle.std.proofs.Common.{◌≡◌, ℕ, zero, suc, ◌+◌, ◌≤◌, ◌<◌, cond, List, [], ◌∷◌, ◌++◌, length, reverse, take, Option, None, Some, refl, sym, ◌∙◌, ap, arith, rules}
use mathlib.Core.Logic.{∥∥₁_elim}
use Rattle.std.specs.Prelude.{slice_get, slice_index}
use Rattle.std.specs.List.{All}
use Rattle.std.specs.Option.{option_and_then}
use Rattle.std.proofs.lemmas.List.Elements.{All-head, All-set, All-tail, All-weaker}
use Rattle.std.proofs.lemmas.List.Sums.{sum_by_push}
use Rattle.conc_types.specs.declared.event.Event.{Event}
use Rattle.conc_types.specs.declared.event.Phase.{Phase}
use Rattle.conc_types.specs.declared.event.Phase.TheVariants as phase
use Rattle.conc_types.specs.declared.event.RequestId.{RequestId}
use Rattle.conc_types.specs.declared.event.Status.{Status}
use Rattle.conc_types.specs.declared.plan.Plan.{Plan}
use Rattle.conc_types.specs.declared.plan.Req.{Req}
use Rattle.conc_types.specs.Plans.{request}
use Rattle.conc_types.specs.Words.{some_and}
use Rattle.conc_base_law.proofs.Numbering.{numbered-at}
use Rattle.conc_base_law.proofs.Positions.{slice_get-some, take-suc_at}
use Rattle.conc_base_law.specs.State.{state}
use Rattle.conc_base_law.specs.Status.{status_of}
use Rattle.conc_restart.specs.Machines.{Machine, plan_of, StandsFor}
use Rattle.conc_view.specs.Stands.{Stands}
use Rattle.conc_view.proofs.Replayed.{same_status}
use Rattle.conc_view.specs.Counts.{count_in, counts_in, counts_with, place_of, same_phase}

-- one, where the request stands in the phase
abbrev one_in : Option (Phase × Status) → Phase → ℕ
one_in s p = cond (some_and (λ (q : Phase × Status). same_phase p q.0) s) 1 0

-- one more request
count_push : (stands : Req → Option (Phase × Status)) (rs : List Req) (r : Req) (p : Phase) → count_in stands (rs ++ r ∷ []) p ≡ count_in stands rs p + one_in (stands r) p
count_push stands rs r p = sum_by_push (λ q. one_in (stands q) p) rs r

-- one number for each phase
abbrev four : (Phase → ℕ) → List ℕ
four f = f phase.Pending ∷ f phase.Running ∷ f phase.Completed ∷ f phase.Inactive ∷ []

four-same : (f g : Phase → ℕ) → ((p : Phase) → f p ≡ g p) → four f ≡ four g
four-same f g same = cc (same phase.Pending, same phase.Running, same phase.Completed, same phase.Inactive)

none-more : (n : ℕ) → n + 0 ≡ n
none-more n = omega arith

-- one more in the phase of a request
four-with : (f : Phase → ℕ) (s : Option (Phase × Status)) → four (λ p. f p + one_in s p) ≡ counts_with s (four f)
four-with f None = four-same (λ p. f p + 0) f (λ p. none-more (f p))
four-with f (Some (phase.Pending, st)) = cc (none-more (f phase.Running), none-more (f phase.Completed), none-more (f phase.Inactive))
four-with f (Some (phase.Running, st)) = cc (none-more (f phase.Pending), none-more (f phase.Completed), none-more (f phase.Inactive))
four-with f (Some (phase.Completed, st)) = cc (none-more (f phase.Pending), none-more (f phase.Running), none-more (f phase.Inactive))
four-with f (Some (phase.Inactive, st)) = cc (none-more (f phase.Pending), none-more (f phase.Running), none-more (f phase.Completed))

-- the counts of one more of the first requests
counts_more : (stands : Req → Option (Phase × Status)) (rs : List Req) (i : ℕ) (r : Req) → slice_get rs i ≡ Some r
    → counts_in stands (take (i + 1) rs) ≡ counts_with (stands r) (counts_in stands (take i rs))
counts_more stands rs i r here =
    let next : i + 1 ≡ suc i = omega arith in
    let front : List Req = take i rs in
    ap (λ k. counts_in stands (take k rs)) next
    ∙ (ap (counts_in stands) (take-suc_at rs i r here)
    ∙ (four-same (count_in stands (front ++ r ∷ [])) (λ p. count_in stands front p + one_in (stands r) p) (count_push stands front r)
    ∙ four-with (count_in stands front) (stands r)))

-- ---- within a limit

index-within : (i : ℕ) (xs : List ℕ) (k : ℕ) → All (λ n. n ≤ i) xs → slice_index xs k ≤ i
index-within i [] k all = omega arith
index-within i (x ∷ xs) zero all = All-head (λ n. n ≤ i) x xs all
index-within i (x ∷ xs) (suc k) all = index-within i xs k (All-tail (λ n. n ≤ i) x xs all)

with-within : (i : ℕ) (s : Option (Phase × Status)) (xs : List ℕ) → All (λ n. n ≤ i) xs → All (λ n. n ≤ i + 1) (counts_with s xs)
with-within i None xs all = All-weaker (λ n. n ≤ i) (λ n. n ≤ i + 1) (λ n le. omega arith) xs all
with-within i (Some s) xs all =
    let here : slice_index xs (place_of s.0) ≤ i = index-within i xs (place_of s.0) all in
    All-set (λ n. n ≤ i + 1) xs (place_of s.0) (slice_index xs (place_of s.0) + 1) (omega arith) (All-weaker (λ n. n ≤ i) (λ n. n ≤ i + 1) (λ n le. omega arith) xs all)

-- ---- the loop

-- these are the counts of the first i requests, after the events that the machine stands for
pub record AreCounts (machine : Machine) (counts : List ℕ) (i : ℕ) : Type 0 where
  pub within : All (λ n. n ≤ i) counts
  pub so : (events : List Event) → Stands machine events → counts ≡ counts_in (status_of (plan_of machine) (state (plan_of machine) (reverse events))) (take i (plan_of machine).requests)

-- before the first
pub none_counted : (machine : Machine) → AreCounts machine (0 ∷ 0 ∷ 0 ∷ 0 ∷ []) 0
none_counted machine = record {
  within = search (rules, arith);
  so = λ events stands. refl;
}

-- what is found under a number
found-at : (plan : Plan) (id : RequestId) (i : ℕ) → id.number ≡ i + 1 → request plan id ≡ slice_get plan.requests i
unfolding request
found-at plan id i number = numbered-at plan.requests id.number i (omega arith)

-- and with one more
pub one_counted : (machine : Machine) (counts : List ℕ) (i : ℕ) (id : RequestId) (s : Option (Phase × Status)) → AreCounts machine counts i → id.number ≡ i + 1 → i < length (plan_of machine).requests
    → ((past : List Event) → StandsFor machine past → s ≡ option_and_then (status_of (plan_of machine) (state (plan_of machine) past)) (request (plan_of machine) id))
    → AreCounts machine (counts_with s counts) (i + 1)
one_counted machine counts i id s h number inside status =
    let plan : Plan = plan_of machine in
    let found = slice_get-some plan.requests i inside in
    let here : request plan id ≡ Some found.0 = found-at plan id i number ∙ found.1 in
    record {
      within = with-within i s counts h.within;
      so = λ events stands.
          let stand : Req → Option (Phase × Status) = status_of plan (state plan (reverse events)) in
          let own : s ≡ stand found.0 = ∥∥₁_elim stands (same_status s (stand found.0)) (λ known. status (reverse events) known ∙ ap (option_and_then stand) here) in
          ap (λ o. counts_with o counts) own ∙ (ap (counts_with (stand found.0)) (h.so events stands) ∙ sym (counts_more stand plan.requests i found.0 found.1));
    }
