-- Which record is bad.
use Rattle.std.proofs.Common.{◌≡◌, ℕ, zero, suc, ◌+◌, ◌-◌, ◌<◌, ◌≤◌, min, List, length, take, Option, None, Some, refl, sym, ◌∙◌, subst, arith, inl, inr}
use Rattle.std.specs.Prelude.{slice_get}
use Rattle.std.proofs.lemmas.Bool.{cases_lt}
use Rattle.conc_types.specs.declared.event.Event.{Event}
use Rattle.conc_types.specs.declared.event.Event.TheVariants as event
use Rattle.conc_types.specs.declared.plan.Plan.{Plan}
use Rattle.conc_base_law.specs.Kinds.{extent_length}
use Rattle.conc_base_law.specs.Law.{LawfulSoFar}
use Rattle.conc_base_law.proofs.Numbering.{numbered-at}
use Rattle.conc_base_law.proofs.Positions.{slice_get-some}
use Rattle.conc_restart.specs.FirstBad.{IsFirstUnlawful}
use Rattle.conc_run_state.specs.Judging.{EndsBeyond, EndWithin, IsBadRecord}
use Rattle.conc_run_open.specs.Extents.{counted, IsFirstBeyond}
use Rattle.conc_run_open.specs.Listing.{IsBadEvent}
use Rattle.conc_run_open.proofs.Counting.{counted-is, end-within, ends-at, front, front-all, front-more, front-rises, front-within, past-front, past-take, used-few}

-- an event whose extent makes the sum rise beyond a length is an end whose extent ends there
ends-past : (plan : Plan) (len n : ℕ) (events : List Event) (e : Event) → LawfulSoFar plan (take (n + 1) events) → slice_get events n ≡ Some e → front n events ≤ len → len < front (n + 1) events
    → EndsBeyond len events (n + 1)
ends-past plan len n events (event.Ended id o (Some x)) so_far here before more = record {
  id = id;
  outcome = o;
  extent = x;
  there = numbered-at events (n + 1) n (omega arith) ∙ here;
  beyond = omega (arith, ends-at plan n events id o x so_far here);
}
ends-past plan len n events (event.Ended id o None) so_far here before more = absurd (omega (arith, front-more n events (event.Ended id o None) here))
ends-past plan len n events e so_far here before more =
    let none : extent_length e ≡ 0 = refl in
    absurd (omega (arith, front-more n events e here))

-- the first event whose extent ends beyond the spool is bad, where those up to it may follow
pub bad-past : (plan : Plan) (len : ℕ) (events : List Event) (broken : Option ℕ) (number : ℕ) → IsFirstBeyond len events number → LawfulSoFar plan (take number events) → IsBadRecord plan len events broken number
bad-past plan len events broken zero first so_far = absurd (omega (arith, first.some))
bad-past plan len events broken (suc n) first so_far =
    let at : suc n - 1 ≡ n = omega arith in
    let next : suc n ≡ n + 1 = omega arith in
    let more : len < front (n + 1) events = subst (λ (k : ℕ). len < front k events) next first.beyond in
    let before : front n events ≤ len = subst (λ (k : ℕ). front k events ≤ len) at first.before in
    let upto : LawfulSoFar plan (take (n + 1) events) = subst (λ (k : ℕ). LawfulSoFar plan (take k events)) next so_far in
    let within : n < length events = inside n events before more in
    let here = slice_get-some events n within in
    let front_so_far : LawfulSoFar plan (take n events) = past-front plan n (n + 1) events (omega arith) upto in
    record {
      bad = inr (inr (subst (EndsBeyond len events) (sym next) (ends-past plan len n events here.0 upto here.1 before more)));
      so_far = subst (λ (k : ℕ). LawfulSoFar plan (take k events)) (sym at) front_so_far;
      within = subst (λ (k : ℕ). EndWithin len (take k events)) (sym at) (end-within plan len (take n events) front_so_far before);
    }
  where
    inside : (n : ℕ) (events : List Event) → front n events ≤ len → len < front (n + 1) events → n < length events
    inside n events before more = elim (cases_lt n (length events)) [
      | inl less ↦ less
      | inr far ↦ absurd (omega (arith, front-all n events far, front-all (n + 1) events (omega (arith, far))))
    ]

-- the first that may not follow is bad, where the extents of those before it end within the spool
pub bad-first : (plan : Plan) (len : ℕ) (events : List Event) (broken : Option ℕ) (number : ℕ) → IsFirstUnlawful plan events number → front (number - 1) events ≤ len → IsBadRecord plan len events broken number
bad-first plan len events broken number first fits = record {
  bad = inr (inl first);
  so_far = first.before;
  within = end-within plan len (take (number - 1) events) first.before fits;
}

-- the lesser of the two is bad
pub bad-least : (plan : Plan) (len : ℕ) (events : List Event) (broken : Option ℕ) (position beyond number : ℕ) → IsFirstBeyond len events beyond → IsFirstUnlawful plan events position → number ≡ min position beyond
    → IsBadRecord plan len events broken number
bad-least plan len events broken position beyond number first refused is = elim (cases_lt beyond position) [
  | inl less ↦
      let same : beyond ≡ number = omega arith in
      subst (IsBadRecord plan len events broken) same (bad-past plan len events broken beyond first (past-front plan beyond (position - 1) events (omega arith) refused.before))
  | inr least ↦
      let same : position ≡ number = omega arith in
      subst (IsBadRecord plan len events broken) same (bad-first plan len events broken position refused (omega (arith, front-rises (position - 1) (beyond - 1) events (omega arith), first.before)))
]

-- where the spool has all extents, the first that may not follow is bad
pub bad-only : (plan : Plan) (len : ℕ) (events : List Event) (broken : Option ℕ) (position : ℕ) → IsFirstUnlawful plan events position → counted events ≤ len → IsBadRecord plan len events broken position
bad-only plan len events broken position refused all =
    bad-first plan len events broken position refused
    (omega (arith, front-within (position - 1) events, used-few plan (take (position - 1) events) refused.before))

-- and where all may follow, a broken record is
pub bad-broken : (plan : Plan) (len : ℕ) (events : List Event) (number : ℕ) → LawfulSoFar plan events → counted events ≤ len → IsBadRecord plan len events (Some number) number
bad-broken plan len events number so_far all = record {
  bad = inl refl;
  so_far = past-take plan (number - 1) events so_far;
  within =
      let front_so_far = past-take plan (number - 1) events so_far in
      end-within plan len (take (number - 1) events) front_so_far (omega (arith, counted-is plan events so_far, front-within (number - 1) events));
}

-- ---- of a list alone

-- the first that may not follow is bad
pub event-first : (plan : Plan) (events : List Event) (broken : Option ℕ) (number : ℕ) → IsFirstUnlawful plan events number → IsBadEvent plan events broken number
event-first plan events broken number first = record { bad = inr first; so_far = first.before }

-- and where all may follow, a broken record is
pub event-broken : (plan : Plan) (events : List Event) (broken : Option ℕ) (number : ℕ) → broken ≡ Some number → LawfulSoFar plan events → IsBadEvent plan events broken number
event-broken plan events broken number is so_far = record { bad = inl is; so_far = past-take plan (number - 1) events so_far }
