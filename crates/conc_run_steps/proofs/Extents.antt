-- Where the extents of a lawful list end.
use Rattle.std.proofs.Common.{◌≡◌, ℕ, ◌+◌, ◌<◌, ◌≤◌, Bool, true, false, ◌&&◌, ◌==◌, List, [], ◌∷◌, ◌++◌, reverse, None, Some, if◌then◌else◌, refl, sym, ◌∙◌, ap, subst, arith}
use Rattle.std.specs.Prelude.{is_none, nat_le, nat_lt, slice_get}
use Rattle.std.specs.List.{list_all}
use Rattle.std.proofs.lemmas.Bool.{and_from, and_parts, eqb-true, le-leb, leb-true, ltb-true}
use Rattle.std.proofs.lemmas.List.{reverse-append}
use Rattle.std.proofs.lemmas.List.Folds.{list_all-append}
use Rattle.std.proofs.lemmas.List.Sums.{sum_by-append, sum_by-cons}
use Rattle.conc_types.specs.declared.event.Event.{Event}
use Rattle.conc_types.specs.declared.event.Event.TheVariants as event
use Rattle.conc_types.specs.declared.event.Extent.{Extent}
use Rattle.conc_types.specs.declared.event.Outcome.{Outcome}
use Rattle.conc_types.specs.declared.event.RequestId.{RequestId}
use Rattle.conc_types.specs.declared.facts.State.{State}
use Rattle.conc_types.specs.declared.plan.Plan.{Plan}
use Rattle.conc_types.specs.declared.plan.Req.{Req}
use Rattle.conc_types.specs.Words.{some_and}
use Rattle.conc_base_law.specs.Kinds.{extent_length}
use Rattle.conc_base_law.specs.Law.{is_lawful_so_far, may_follow, LawfulSoFar}
use Rattle.conc_base_law.specs.Next.{is_next_extent, is_report_outcome, is_terminated, may_end}
use Rattle.conc_base_law.specs.State.{facts_at, is_running, is_stopping, state, used}
use Rattle.conc_base_law.proofs.EqualEvents.{id_same}
use Rattle.conc_base_law.proofs.LawfulSoFar.{all-get}
use Rattle.conc_base_law.proofs.Options.{some_and-some, then_some-some}
use Rattle.conc_base_law.proofs.Positions.{reverse-push}
use Rattle.conc_base_law.proofs.Remaining.{end_about, IsAboutOne}
use Rattle.conc_base_law.proofs.Stops.{end_comes}
use Rattle.conc_base_law.proofs.Used.{used_fits}

-- ---- how many bytes they take

pub used-push : (list : List Event) (e : Event) → used (reverse (list ++ e ∷ [])) ≡ extent_length e + used (reverse list)
unfolding used
used-push list e = ap used (reverse-push list e) ∙ sum_by-cons extent_length e (reverse list)

pub used-more : (list added : List Event) → used (reverse list) ≤ used (reverse (list ++ added))
unfolding used
used-more list added =
    let all : used (reverse (list ++ added)) ≡ used (reverse added) + used (reverse list) =
    ap used (reverse-append list added) ∙ sum_by-append extent_length (reverse added) (reverse list) in
    omega (arith, all)

-- 64 bits hold them
pub used-below : (plan : Plan) (list : List Event) → LawfulSoFar plan list → used (reverse list) < 18446744073709551616
unfolding state
used-below plan list past =
    let fits = used_fits plan (reverse list) past in
    ltb-true (used (reverse list)) 18446744073709551616 (then_some-some (nat_lt (used (reverse list)) 18446744073709551616) (used (reverse list)) fits.0 fits.1).0

-- ---- where an extent that comes next begins

next-offset : (plan : Plan) (past : List Event) (x : Extent) → is_next_extent (state plan past) x ≡ true → x.offset ≡ used past
unfolding is_next_extent state
next-offset plan past x h =
    let s = state plan past in
    let here = some_and-some (λ n. x.offset == n) s.used (and_parts (some_and (λ n. x.offset == n) s.used) _ h).0 in
    let all = then_some-some (nat_lt (used past) 18446744073709551616) (used past) here.0 here.1 in
    eqb-true x.offset here.0 here.2 ∙ sym all.1

may_end-next : (s : State) (r : Req) (o : Outcome) (x : Extent) → may_end s r o (Some x) ≡ true → is_next_extent s x ≡ true
unfolding may_end
may_end-next s r o x h = by (is_stopping (facts_at s r)) (and_parts (is_running (facts_at s r)) _ h).1 where
  by : (stop : Bool) → (if stop then is_terminated o && is_none (Some x) else is_report_outcome o && some_and (is_next_extent s) (Some x)) ≡ true → is_next_extent s x ≡ true
  by true k = let never : false ≡ true = (and_parts (is_terminated o) false k).1 in cc
  by false k = (and_parts (is_report_outcome o) (is_next_extent s x) k).1

comes-at : (plan : Plan) (past : List Event) (id : RequestId) (o : Outcome) (x : Extent) → may_follow plan None past (event.Ended id o (Some x)) ≡ true → x.offset ≡ used past
comes-at plan past id o x m =
    let p : IsAboutOne plan (event.Ended id o (Some x)) = end_about plan None past id o (Some x) m in
    let n : may_follow plan None past (event.Ended p.0.number o (Some x)) ≡ true = subst (λ z. may_follow plan None past (event.Ended z o (Some x)) ≡ true) (id_same id p.0.number p.2) m in
    next-offset plan past x (may_end-next (state plan past) p.0 o x (end_comes plan None past p.0 o (Some x) p.1 n))

-- the extent of the last event of a lawful list begins where those before it end
pub last-at : (plan : Plan) (list : List Event) (id : RequestId) (o : Outcome) (x : Extent) → LawfulSoFar plan (list ++ event.Ended id o (Some x) ∷ []) → x.offset ≡ used (reverse list)
unfolding is_lawful_so_far
last-at plan list id o x past =
    let turned : is_lawful_so_far plan (event.Ended id o (Some x) ∷ reverse list) ≡ true = sym (ap (is_lawful_so_far plan) (reverse-push list (event.Ended id o (Some x)))) ∙ past in
    comes-at plan (reverse list) id o x (and_parts (is_lawful_so_far plan (reverse list)) _ turned).1

-- ---- where each ends

-- the extent of the event ends by here
ends_by : ℕ → Event → Bool
ends_by n (event.Ended id o (Some x)) = nat_le (x.offset + x.length) n
ends_by n _ = true

ends_by-more : (m n : ℕ) (e : Event) → m ≤ n → ends_by m e ≡ true → ends_by n e ≡ true
unfolding ends_by
ends_by-more m n (event.Ended id o (Some x)) le h = le-leb (x.offset + x.length) n (omega (arith, leb-true (x.offset + x.length) m h, le))
ends_by-more m n e le h = refl

all-more : (m n : ℕ) (past : List Event) → m ≤ n → list_all (ends_by m) past ≡ true → list_all (ends_by n) past ≡ true
all-more m n [] le h = refl
all-more m n (e ∷ past) le h =
    let p = and_parts (ends_by m e) (list_all (ends_by m) past) h in
    and_from (ends_by n e) (list_all (ends_by n) past) (ends_by-more m n e le p.0) (all-more m n past le p.1)

last-ends : (plan : Plan) (past : List Event) (e : Event) → may_follow plan None past e ≡ true → ends_by (extent_length e + used past) e ≡ true
unfolding ends_by
last-ends plan past (event.Ended id o (Some x)) m = le-leb (x.offset + x.length) (x.length + used past) (omega (arith, comes-at plan past id o x m))
last-ends plan past e m = refl

past-ends : (plan : Plan) (past : List Event) → is_lawful_so_far plan past ≡ true → list_all (ends_by (used past)) past ≡ true
unfolding is_lawful_so_far used
past-ends plan [] h = refl
past-ends plan (e ∷ past) h =
    let p = and_parts (is_lawful_so_far plan past) (may_follow plan None past e) h in
    let all : used (e ∷ past) ≡ extent_length e + used past = sum_by-cons extent_length e past in
    and_from (ends_by (used (e ∷ past)) e) (list_all (ends_by (used (e ∷ past))) past)
    (ap (λ n. ends_by n e) all ∙ last-ends plan past e p.1)
    (all-more (used past) (used (e ∷ past)) past (omega (arith, all)) (past-ends plan past p.0))

all-turned : (test : Event → Bool) (list : List Event) → list_all test (reverse list) ≡ true → list_all test list ≡ true
all-turned test [] h = refl
all-turned test (e ∷ list) h =
    let both : (list_all test (reverse list) && (test e && true)) ≡ true = sym (ap (list_all test) (reverse-append (e ∷ []) list) ∙ list_all-append test (reverse list) (e ∷ [])) ∙ h in
    let p = and_parts (list_all test (reverse list)) (test e && true) both in
    and_from (test e) (list_all test list) (and_parts (test e) true p.1).0 (all-turned test list p.0)

-- each extent of a lawful list ends within the bytes that they take
pub within-used : (plan : Plan) (list : List Event) (i : ℕ) (id : RequestId) (o : Outcome) (x : Extent) → LawfulSoFar plan list
    → slice_get list i ≡ Some (event.Ended id o (Some x)) → x.offset + x.length ≤ used (reverse list)
unfolding ends_by
within-used plan list i id o x past here =
    let n = used (reverse list) in
    leb-true (x.offset + x.length) n (all-get (ends_by n) list i (event.Ended id o (Some x)) (all-turned (ends_by n) list (past-ends plan (reverse list) past)) here)
