-- What holds of the machine after some events of a list are read.
use Rattle.std.proofs.Common.{◌≡◌, ℕ, zero, suc, ◌+◌, ◌-◌, true, false, List, [], ◌∷◌, ◌++◌, reverse, take, drop, None, Some, refl, sym, ◌∙◌, ap, subst, arith}
use Rattle.std.specs.Prelude.{slice_get}
use Rattle.std.proofs.lemmas.Bool.{and_from, and_parts, both_ways}
use Rattle.std.proofs.lemmas.List.{take-append-drop}
use Rattle.conc_types.specs.declared.event.Event.{Event}
use Rattle.conc_types.specs.declared.plan.Plan.{Plan}
use Rattle.conc_base_law.specs.Law.{is_lawful_so_far, may_follow, LawfulSoFar}
use Rattle.conc_base_law.proofs.Numbering.{numbered-at}
use Rattle.conc_base_law.proofs.Positions.{reverse-push, take-suc_at}
use Rattle.conc_base_law.proofs.Prefixes.{is_lawful_so_far-prefix}
use Rattle.conc_machine.specs.StandsFor.{plan_of, readings_of, StandsFor}
use Rattle.conc_machine.specs.declared.machine.Machine.{Machine}
use Rattle.conc_restart.specs.FirstBad.{IsFirstUnlawful}

-- the machine of the plan stands for the first n events, each of which may follow those before it
pub record HasRead (plan : Plan) (events : List Event) (machine : Machine) (n : ℕ) : Type 0 where
  pub same : plan_of machine ≡ plan
  pub unknown : readings_of machine ≡ None
  pub stands : StandsFor machine (reverse (take n events))
  pub so_far : LawfulSoFar plan (take n events)

-- before the first event
pub read_none : (plan : Plan) (events : List Event) (machine : Machine) → plan_of machine ≡ plan → readings_of machine ≡ None → StandsFor machine [] → HasRead plan events machine 0
unfolding is_lawful_so_far
read_none plan events machine same unknown stands = record { same = same; unknown = unknown; stands = stands; so_far = refl }

-- the first events with one more, the latest first
front-more : (events : List Event) (n : ℕ) (e : Event) → slice_get events n ≡ Some e → reverse (take (n + 1) events) ≡ e ∷ reverse (take n events)
front-more events n e here =
    let next : n + 1 ≡ suc n = omega arith in
    ap (λ k. reverse (take k events)) next ∙ ap reverse (take-suc_at events n e here) ∙ reverse-push (take n events) e

-- whether an event may follow goes by the plan, where no readings are known
judged : (plan : Plan) (events past : List Event) (machine : Machine) (n : ℕ) (e : Event) → HasRead plan events machine n
    → may_follow (plan_of machine) (readings_of machine) past e ≡ may_follow plan None past e
judged plan events past machine n e h =
    ap (λ p. may_follow p (readings_of machine) past e) h.same ∙ ap (λ r. may_follow plan r past e) h.unknown

-- one more event that may follow is read
pub read_more : (plan : Plan) (events : List Event) (old new : Machine) (n : ℕ) (e : Event) → HasRead plan events old n → slice_get events n ≡ Some e
    → may_follow (plan_of old) (readings_of old) (reverse (take n events)) e ≡ true
    → plan_of new ≡ plan_of old → readings_of new ≡ readings_of old → StandsFor new (e ∷ reverse (take n events)) → HasRead plan events new (n + 1)
unfolding is_lawful_so_far
read_more plan events old new n e h here may same unknown stands =
    let more = front-more events n e here in
    record {
      same = same ∙ h.same;
      unknown = unknown ∙ h.unknown;
      stands = subst (StandsFor new) (sym more) stands;
      so_far = ap (is_lawful_so_far plan) more ∙ and_from _ _ h.so_far (sym (judged plan events (reverse (take n events)) old n e h) ∙ may);
    }

-- an event that may not follow is the first that may not
pub read_bad : (plan : Plan) (events : List Event) (machine : Machine) (n : ℕ) (e : Event) → HasRead plan events machine n → slice_get events n ≡ Some e
    → may_follow (plan_of machine) (readings_of machine) (reverse (take n events)) e ≡ false → IsFirstUnlawful plan events (n + 1)
read_bad plan events machine n e h here may =
    let place : n + 1 - 1 ≡ n = omega arith in
    record {
      bad = e;
      there = numbered-at events (n + 1) n (omega arith) ∙ here;
      before = subst (λ k. LawfulSoFar plan (take k events)) (sym place) h.so_far;
      refused = subst (λ k. may_follow plan None (reverse (take k events)) e ≡ false) (sym place) (sym (judged plan events (reverse (take n events)) machine n e h) ∙ may);
    }

-- no list with an event that may not follow is one whose events all may
pub bad-not_past : (plan : Plan) (events : List Event) (position : ℕ) → IsFirstUnlawful plan events position → LawfulSoFar plan events → ⊥
unfolding is_lawful_so_far
bad-not_past plan events zero h past = let none : None ≡ Some h.bad = h.there in cc
bad-not_past plan events (suc n) h past =
    let place : suc n - 1 ≡ n = omega arith in
    let here : slice_get events n ≡ Some h.bad = sym (numbered-at events (suc n) n (omega arith)) ∙ h.there in
    let all : take (n + 1) events ++ drop (n + 1) events ≡ events = take-append-drop (n + 1) events in
    let front : is_lawful_so_far plan (reverse (take (n + 1) events)) ≡ true = is_lawful_so_far-prefix plan (take (n + 1) events) (drop (n + 1) events) (ap (λ l. is_lawful_so_far plan (reverse l)) all ∙ past) in
    let last : is_lawful_so_far plan (h.bad ∷ reverse (take n events)) ≡ true = ap (is_lawful_so_far plan) (sym (front-more events n h.bad here)) ∙ front in
    let may : may_follow plan None (reverse (take n events)) h.bad ≡ true = (and_parts (is_lawful_so_far plan (reverse (take n events))) _ last).1 in
    both_ways _ (subst (λ k. may_follow plan None (reverse (take k events)) h.bad ≡ false) place h.refused) may
