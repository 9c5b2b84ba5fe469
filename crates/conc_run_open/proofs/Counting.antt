-- In a lawful list extents stand one after the other from 0.
use Rattle.std.proofs.Common.{◌≡◌, ◌==◌, ℕ, ◌+◌, ◌^◌, ◌<◌, ◌≤◌, Bool, true, false, ◌&&◌, if◌then◌else◌, List, [], ◌∷◌, ◌++◌, length, reverse, take, drop, None, Some, refl, sym, ◌∙◌, ap, subst, arith, add-one}
use Rattle.std.specs.Prelude.{nat_lt, slice_get, is_none}
use Rattle.std.specs.List.{sum_by}
use Rattle.std.proofs.lemmas.Bool.{and_parts, eqb-true, ltb-true}
use Rattle.std.proofs.lemmas.List.{take_all, take-append-drop, take-take}
use Rattle.std.proofs.lemmas.List.Sorted.{IsPermutation-reverse, sum_by-IsPermutation}
use Rattle.std.proofs.lemmas.List.Sums.{sum_by_push, sum_by-take-le}
use Rattle.conc_types.specs.declared.event.Event.{Event}
use Rattle.conc_types.specs.declared.event.Event.TheVariants as event
use Rattle.conc_types.specs.declared.event.Extent.{Extent}
use Rattle.conc_types.specs.declared.event.Outcome.{Outcome}
use Rattle.conc_types.specs.declared.event.RequestId.{RequestId}
use Rattle.conc_types.specs.declared.plan.Plan.{Plan}
use Rattle.conc_types.specs.declared.plan.Req.{Req}
use Rattle.conc_types.specs.Words.{some_and}
use Rattle.conc_base_law.specs.Kinds.{extent_length}
use Rattle.conc_base_law.specs.Law.{is_lawful_so_far, may_follow, LawfulSoFar}
use Rattle.conc_base_law.specs.Next.{is_next_extent, is_report_outcome, is_terminated, may_end}
use Rattle.conc_base_law.specs.State.{facts_at, is_running, is_stopping, state, used}
use Rattle.conc_base_law.proofs.EqualEvents.{id_same}
use Rattle.conc_base_law.proofs.Options.{some_and-some, then_some-some}
use Rattle.conc_base_law.proofs.Positions.{reverse-push, take-suc_at}
use Rattle.conc_base_law.proofs.Prefixes.{is_lawful_so_far-prefix}
use Rattle.conc_base_law.proofs.Remaining.{end_about, IsAboutOne}
use Rattle.conc_base_law.proofs.Stops.{end_comes}
use Rattle.conc_base_law.proofs.Used.{used_fits}
use Rattle.conc_run_state.specs.Judging.{EndWithin}
use Rattle.conc_run_open.specs.Extents.{counted}

-- ---- sums

-- the bytes of the extents of the first n events
abbrev pub front : ℕ → List Event → ℕ
front n events = used (reverse (take n events))

pub used-sum : (events : List Event) → used (reverse events) ≡ sum_by extent_length events
unfolding used
used-sum events = sum_by-IsPermutation extent_length events (reverse events) (IsPermutation-reverse events)

-- of none
pub front-none : (events : List Event) → front 0 events ≡ 0
unfolding used
front-none events = refl

-- of all
pub front-all : (n : ℕ) (events : List Event) → length events ≤ n → front n events ≡ used (reverse events)
front-all n events far = ap (λ (l : List Event). used (reverse l)) (take_all n events far)

-- of one event more
pub front-more : (n : ℕ) (events : List Event) (e : Event) → slice_get events n ≡ Some e → front (n + 1) events ≡ front n events + extent_length e
front-more n events e here =
    let next : take (n + 1) events ≡ take n events ++ e ∷ [] = ap (λ (k : ℕ). take k events) (add-one n) ∙ take-suc_at events n e here in
    used-sum (take (n + 1) events) ∙ ap (sum_by extent_length) next ∙ sum_by_push extent_length (take n events) e ∙ ap (λ (k : ℕ). k + extent_length e) (sym (used-sum (take n events)))

-- of more events
pub front-rises : (n m : ℕ) (events : List Event) → n ≤ m → front n events ≤ front m events
front-rises n m events le =
    let less : sum_by extent_length (take n (take m events)) ≤ sum_by extent_length (take m events) = sum_by-take-le extent_length (take m events) n in
    let same : sum_by extent_length (take n (take m events)) ≡ sum_by extent_length (take n events) = ap (sum_by extent_length) (take-take n m events le) in
    omega (arith, used-sum (take n events), used-sum (take m events))

pub front-within : (n : ℕ) (events : List Event) → front n events ≤ used (reverse events)
front-within n events = omega (arith, sum_by-take-le extent_length events n, used-sum (take n events), used-sum events)

-- ---- lawful lists

-- the front of a lawful list is lawful
pub past-front : (plan : Plan) (n m : ℕ) (events : List Event) → n ≤ m → LawfulSoFar plan (take m events) → LawfulSoFar plan (take n events)
past-front plan n m events le so_far =
    let split : take n (take m events) ++ drop n (take m events) ≡ take m events = take-append-drop n (take m events) in
    let whole : is_lawful_so_far plan (reverse (take n (take m events) ++ drop n (take m events))) ≡ true = ap (λ (l : List Event). is_lawful_so_far plan (reverse l)) split ∙ so_far in
    ap (λ (l : List Event). is_lawful_so_far plan (reverse l)) (sym (take-take n m events le)) ∙ is_lawful_so_far-prefix plan (take n (take m events)) (drop n (take m events)) whole

pub past-take : (plan : Plan) (n : ℕ) (events : List Event) → LawfulSoFar plan events → LawfulSoFar plan (take n events)
past-take plan n events so_far =
    is_lawful_so_far-prefix plan (take n events) (drop n events) (ap (λ (l : List Event). is_lawful_so_far plan (reverse l)) (take-append-drop n events) ∙ so_far)

-- its extents have fewer bytes than 64 bits count
pub used-few : (plan : Plan) (events : List Event) → LawfulSoFar plan events → used (reverse events) < 18446744073709551616
unfolding state
used-few plan events so_far =
    let fits = used_fits plan (reverse events) so_far in
    let small = (then_some-some (nat_lt (used (reverse events)) (2 ^ 64)) (used (reverse events)) fits.0 fits.1).0 in
    ltb-true (used (reverse events)) 18446744073709551616 small

pub counted-is : (plan : Plan) (events : List Event) → LawfulSoFar plan events → counted events ≡ used (reverse events)
counted-is plan events so_far = omega (arith, used-few plan events so_far)

-- an extent that comes next begins where all earlier ones end
next-offset : (plan : Plan) (so_far : List Event) (x : Extent) → is_next_extent (state plan so_far) x ≡ true → x.offset ≡ used so_far
unfolding is_next_extent state
next-offset plan so_far x h =
    let at = some_and-some (λ (n : ℕ). x.offset == n) (state plan so_far).used (and_parts _ (nat_lt 0 x.length && nat_lt x.length (2 ^ 32)) h).0 in
    eqb-true x.offset at.0 at.2 ∙ sym (then_some-some (nat_lt (used so_far) (2 ^ 64)) (used so_far) at.0 at.1).1

-- as does the extent of an end
may_end-offset : (plan : Plan) (so_far : List Event) (r : Req) (o : Outcome) (x : Extent) → may_end (state plan so_far) r o (Some x) ≡ true → x.offset ≡ used so_far
unfolding may_end
may_end-offset plan so_far r o x h = by (is_stopping (facts_at (state plan so_far) r)) (and_parts (is_running (facts_at (state plan so_far) r)) _ h).1 where
  by : (stop : Bool) → (if stop then is_terminated o && is_none (Some x) else is_report_outcome o && some_and (is_next_extent (state plan so_far)) (Some x)) ≡ true → x.offset ≡ used so_far
  by true k = let no : false ≡ true = (and_parts (is_terminated o) _ k).1 in cc
  by false k = next-offset plan so_far x (and_parts (is_report_outcome o) _ k).1

follows-offset : (plan : Plan) (so_far : List Event) (id : RequestId) (o : Outcome) (x : Extent) → may_follow plan None so_far (event.Ended id o (Some x)) ≡ true → x.offset ≡ used so_far
follows-offset plan so_far id o x m =
    let p : IsAboutOne plan (event.Ended id o (Some x)) = end_about plan None so_far id o (Some x) m in
    let n : may_follow plan None so_far (event.Ended p.0.number o (Some x)) ≡ true = subst (λ (z : RequestId). may_follow plan None so_far (event.Ended z o (Some x)) ≡ true) (id_same id p.0.number p.2) m in
    may_end-offset plan so_far p.0 o x (end_comes plan None so_far p.0 o (Some x) p.1 n)

-- the extent of an event of a lawful list ends where those up to it end
pub ends-at : (plan : Plan) (n : ℕ) (events : List Event) (id : RequestId) (o : Outcome) (x : Extent) → LawfulSoFar plan (take (n + 1) events) → slice_get events n ≡ Some (event.Ended id o (Some x))
    → x.offset + x.length ≡ front (n + 1) events
unfolding is_lawful_so_far
ends-at plan n events id o x so_far here =
    let e = event.Ended id o (Some x) in
    let next : reverse (take (n + 1) events) ≡ e ∷ reverse (take n events) = ap (λ (k : ℕ). reverse (take k events)) (add-one n) ∙ ap reverse (take-suc_at events n e here) ∙ reverse-push (take n events) e in
    let last : is_lawful_so_far plan (e ∷ reverse (take n events)) ≡ true = ap (is_lawful_so_far plan) (sym next) ∙ so_far in
    let begins : x.offset ≡ used (reverse (take n events)) = follows-offset plan (reverse (take n events)) id o x (and_parts (is_lawful_so_far plan (reverse (take n events))) _ last).1 in
    omega (arith, begins, front-more n events e here)

-- all end within so many bytes as they have
pub end-within : (plan : Plan) (len : ℕ) (events : List Event) → LawfulSoFar plan events → used (reverse events) ≤ len → EndWithin len events
end-within plan len events so_far fits = λ i id o x here.
    omega (arith, ends-at plan i events id o x (past-take plan (i + 1) events so_far) here, front-within (i + 1) events)
