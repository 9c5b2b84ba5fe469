-- How many bytes all extents take: at most one extent for each completed request.
use Rattle.std.proofs.Common.{◌≡◌, ◌==◌, ℕ, suc, ◌+◌, ◌*◌, ◌^◌, ◌<◌, ◌≤◌, Bool, true, false, ◌&&◌, if◌then◌else◌, List, [], ◌∷◌, length, Option, None, Some, refl, sym, subst, arith}
use Rattle.std.specs.Prelude.{is_none, nat_lt}
use Rattle.std.specs.List.{filter, list_all}
use Rattle.std.proofs.Math.Nat.{mul-le-mul_right, suc-mul}
use Rattle.std.proofs.lemmas.Bool.{and_from, and_parts, lt-ltb, ltb-true}
use Rattle.std.proofs.lemmas.List.Sums.{sum_by-cons}
use Rattle.conc_types.specs.declared.event.Event.{Event}
use Rattle.conc_types.specs.declared.event.Event.TheVariants as event
use Rattle.conc_types.specs.declared.event.Extent.{Extent}
use Rattle.conc_types.specs.declared.event.Outcome.{Outcome}
use Rattle.conc_types.specs.declared.event.RequestId.{RequestId}
use Rattle.conc_types.specs.declared.facts.State.{State}
use Rattle.conc_types.specs.declared.plan.Plan.{Plan}
use Rattle.conc_types.specs.declared.plan.Req.{Req}
use Rattle.conc_types.specs.Words.{some_and}
use Rattle.conc_base_law.specs.Facts.{was_completed}
use Rattle.conc_base_law.specs.Kinds.{extent_length}
use Rattle.conc_base_law.specs.Law.{is_lawful_so_far, may_follow}
use Rattle.conc_base_law.specs.Next.{is_next_extent, is_report_outcome, is_terminated, may_end}
use Rattle.conc_base_law.specs.State.{facts_at, fitting, is_running, is_stopping, state, used}
use Rattle.conc_base_law.specs.Words.{Has}
use Rattle.conc_base_law.proofs.Completed.{let_not_completed, was_completed-more}
use Rattle.conc_base_law.proofs.EqualEvents.{id_same}
use Rattle.conc_base_law.proofs.Remaining.{end_about, IsAboutOne}
use Rattle.conc_base_law.proofs.RunningIsLet.{runs_let}
use Rattle.conc_base_law.proofs.Stops.{end_comes, end_runs}
use Rattle.conc_base_law.proofs.Sums.{filter-fewer, filter-less, filter-within}
use Rattle.conc_base_law.proofs.UsesUp.{end-completed}

-- the extent of the event is shorter than 2^32
abbrev pub is_short : Event → Bool
is_short e = nat_lt (extent_length e) (2 ^ 32)

-- ---- each extent is short

-- an extent that comes next is short
next_short : (s : State) (id : RequestId) (o : Outcome) (x : Option Extent) → some_and (is_next_extent s) x ≡ true → is_short (event.Ended id o x) ≡ true
unfolding is_next_extent
next_short s id o None h = cc
next_short s id o (Some x) h =
    let p : ((nat_lt 0 x.length && nat_lt x.length (2 ^ 32)) ≡ true) = (and_parts (some_and (λ n. x.offset == n) s.used) _ h).1 in
    (and_parts (nat_lt 0 x.length) _ p).1

-- an end without an extent is short
none_short : (id : RequestId) (o : Outcome) (x : Option Extent) → is_none x ≡ true → is_short (event.Ended id o x) ≡ true
none_short id o None h = refl
none_short id o (Some x) h = cc

-- the extent with which a request may end is short
may_end-short : (s : State) (r : Req) (id : RequestId) (o : Outcome) (x : Option Extent) → may_end s r o x ≡ true → is_short (event.Ended id o x) ≡ true
unfolding may_end
may_end-short s r id o x h = by (is_stopping (facts_at s r)) (and_parts (is_running (facts_at s r)) _ h).1 where
  by : (stop : Bool) → (if stop then is_terminated o && is_none x else is_report_outcome o && some_and (is_next_extent s) x) ≡ true → is_short (event.Ended id o x) ≡ true
  by true k = none_short id o x (and_parts (is_terminated o) _ k).1
  by false k = next_short s id o x (and_parts (is_report_outcome o) _ k).1

-- an end that may follow is short
end_short : (plan : Plan) (past : List Event) (id : RequestId) (o : Outcome) (x : Option Extent) → may_follow plan None past (event.Ended id o x) ≡ true → is_short (event.Ended id o x) ≡ true
end_short plan past id o x m =
    let p : IsAboutOne plan (event.Ended id o x) = end_about plan None past id o x m in
    let n : may_follow plan None past (event.Ended p.0.number o x) ≡ true = subst (λ z. may_follow plan None past (event.Ended z o x) ≡ true) (id_same id p.0.number p.2) m in
    may_end-short (state plan past) p.0 id o x (end_comes plan None past p.0 o x p.1 n)

-- each event of a lawful list is short
pub all_short : (plan : Plan) (past : List Event) → is_lawful_so_far plan past ≡ true → list_all is_short past ≡ true
unfolding is_lawful_so_far
all_short plan [] lawful = refl
all_short plan (event.Ended id o x ∷ past) lawful =
    let p : (is_lawful_so_far plan past ≡ true) × (may_follow plan None past (event.Ended id o x) ≡ true) = and_parts _ _ lawful in
    and_from _ _ (end_short plan past id o x p.1) (all_short plan past p.0)
all_short plan (e ∷ past) lawful = and_from _ _ refl (all_short plan past (and_parts (is_lawful_so_far plan past) _ lawful).0)

-- ---- one for each completed request

-- how many requests are completed
completed : Plan → List Event → ℕ
completed plan past = length (filter (was_completed plan past) plan.requests)

-- no more than there are
completed-few : (plan : Plan) (past : List Event) → completed plan past ≤ 16384
unfolding completed
completed-few plan past = omega (arith, filter-within (was_completed plan past) plan.requests, plan.few)

-- as many or more after one more event
completed-more : (plan : Plan) (past : List Event) (e : Event) → completed plan past ≤ completed plan (e ∷ past)
unfolding completed
completed-more plan past e = filter-fewer (was_completed plan past) (was_completed plan (e ∷ past)) plan.requests (λ r h. was_completed-more plan past r e h)

-- more after an end of a request of the plan
completed-end : (plan : Plan) (past : List Event) (r : Req) (o : Outcome) (x : Option Extent) → Has plan.requests r → is_lawful_so_far plan past ≡ true
    → may_follow plan None past (event.Ended r.number o x) ≡ true → completed plan past < completed plan (event.Ended r.number o x ∷ past)
unfolding completed
completed-end plan past r o x hr lawful m =
    let l = runs_let plan past r hr lawful (end_runs plan None past r o x hr m) in
    filter-less (was_completed plan past) (was_completed plan (event.Ended r.number o x ∷ past)) plan.requests r hr
    (let_not_completed plan past r hr lawful l) (end-completed plan past r o x) (λ q h. was_completed-more plan past q (event.Ended r.number o x) h)

-- more after an end
ended-more : (plan : Plan) (past : List Event) (id : RequestId) (o : Outcome) (x : Option Extent) → is_lawful_so_far plan past ≡ true
    → may_follow plan None past (event.Ended id o x) ≡ true → completed plan past < completed plan (event.Ended id o x ∷ past)
ended-more plan past id o x lawful m =
    let p : IsAboutOne plan (event.Ended id o x) = end_about plan None past id o x m in
    subst (λ z. may_follow plan None past (event.Ended z o x) ≡ true → completed plan past < completed plan (event.Ended z o x ∷ past)) (sym (id_same id p.0.number p.2))
    (completed-end plan past p.0 o x p.1 lawful) m

-- one more completed request outweighs a short extent
weighs : (a b c d m : ℕ) → a ≤ b * m → b < c → d ≤ m → d + a ≤ c * m
weighs a b c d m h more short =
    let p : suc b * m ≤ c * m = mul-le-mul_right m (omega arith) in
    let q : suc b * m ≡ b * m + m = suc-mul b m in
    omega arith

-- what was enough is enough where more are completed
stays : (a b c m : ℕ) → a ≤ b * m → b ≤ c → 0 + a ≤ c * m
stays a b c m h more =
    let p : b * m ≤ c * m = mul-le-mul_right m more in
    omega arith

-- short extents take at most 2^32 bytes for each completed request
used_most : (plan : Plan) (past : List Event) → is_lawful_so_far plan past ≡ true → list_all is_short past ≡ true → used past ≤ completed plan past * 4294967295
unfolding is_lawful_so_far used
used_most plan [] lawful short = omega arith
used_most plan (event.Ended id o x ∷ past) lawful short =
    let e = event.Ended id o x in
    let p : (is_lawful_so_far plan past ≡ true) × (may_follow plan None past e ≡ true) = and_parts _ _ lawful in
    let s : (is_short e ≡ true) × (list_all is_short past ≡ true) = and_parts _ _ short in
    let here : extent_length e < 4294967296 = ltb-true _ _ s.0 in
    omega (
      arith,
      sum_by-cons extent_length e past,
      weighs (used past) (completed plan past) (completed plan (e ∷ past)) (extent_length e) 4294967295 (used_most plan past p.0 s.1)
          (ended-more plan past id o x p.0 p.1) (omega (arith, here)),
    )
used_most plan (e ∷ past) lawful short =
    let p : (is_lawful_so_far plan past ≡ true) × (may_follow plan None past e ≡ true) = and_parts _ _ lawful in
    let s : (is_short e ≡ true) × (list_all is_short past ≡ true) = and_parts _ _ short in
    omega (
      arith,
      sum_by-cons extent_length e past,
      stays (used past) (completed plan past) (completed plan (e ∷ past)) 4294967295 (used_most plan past p.0 s.1) (completed-more plan past e),
    )

-- a number of 64 bits fits
fitting-some : (n : ℕ) → n < 18446744073709551616 → fitting n ≡ Some n
fitting-some n h = rw (lt-ltb n 18446744073709551616 h) refl

-- so all extents of a lawful list fit into 64 bits
pub used_fits : (plan : Plan) (past : List Event) → is_lawful_so_far plan past ≡ true → (n : ℕ) × ((state plan past).used ≡ Some n)
unfolding state
used_fits plan past lawful =
    let a : used past ≤ completed plan past * 4294967295 = used_most plan past lawful (all_short plan past lawful) in
    let b : completed plan past ≤ 16384 = completed-few plan past in
    (used past, fitting-some (used past) (omega arith))
