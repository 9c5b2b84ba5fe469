-- What is kept where the same facts stand, and the same starts have come.
use Rattle.std.proofs.Common.{◌≡◌, ℕ, zero, suc, ◌+◌, ◌≤◌, ◌<◌, true, ◌&&◌, List, [], ◌∷◌, length, get_or, drop, add-one, nat_le, nat_lt, Option, None, Some, refl, sym, ◌∙◌, ap, inl, inr, arith}
use Rattle.std.specs.Prelude.{unwrap_or}
use Rattle.std.proofs.lemmas.Bool.{and_parts, cases_lt, le-leb, leb-true, lt-leb, ltb-true}
use Rattle.std.proofs.lemmas.Bool.Decides.{nat_tests}
use Rattle.conc_types.specs.declared.event.Moment.{Moment}
use Rattle.conc_types.specs.declared.facts.State.{State}
use Rattle.conc_types.specs.declared.plan.Plan.{Plan}
use Rattle.conc_types.specs.declared.plan.Req.{Req}
use Rattle.conc_types.specs.Words.{numbered}
use Rattle.conc_base_law.specs.State.{facts_at, has_come, is_live, no_facts}
use Rattle.conc_base_law.specs.Words.{Has}
use Rattle.conc_event_queue.specs.Written.{IsAlike}
use Rattle.conc_event_queue.specs.Turns.{turns_of}
use Rattle.conc_event_queue.proofs.Maps.{facts_at-alike}
use Rattle.conc_event_classes.specs.Classes.{are_rivals, class_at, of_class}
use Rattle.conc_event_classes.specs.declared.classes.Classes.{Classes}
use Rattle.conc_base_law.specs.Next.{is_ready}
use Rattle.conc_machine_release.specs.Lets.{AreLets, is_live_rival, live_rivals}
use Rattle.conc_machine_release.specs.Starts.{earlier, is_in_window, window_at, next_from}
use Rattle.conc_machine_release.specs.declared.lets.Lets.{Lets}
use Rattle.conc_machine_release.proofs.Lists.{length-filter_same, map_range-same}
use Rattle.conc_machine_release.proofs.Queues.{of_class-has, turns-same}
use Rattle.conc_machine_release.proofs.Written.{ready-same, waiting-same}

-- ---- what stays

-- the live rivals are the same where each request's facts are
pub rivals-alike : (plan : Plan) (classes : Classes) (before after : State) → ((q : Req) → facts_at after q ≡ facts_at before q) → (c : ℕ)
    → live_rivals plan classes before c ≡ live_rivals plan classes after c
unfolding live_rivals is_live_rival
rivals-alike plan classes before after same c = length-filter_same (is_live_rival classes after c) (is_live_rival classes before c) plan.requests
    (λ q has. ap (λ f. is_live f && are_rivals classes (class_at classes q) c) (sym (same q)))

-- what is kept stays right where the facts are the same, and the same starts have come
kept-alike : (plan : Plan) (classes : Classes) (before after : State) (lets : Lets) → ((q : Req) → facts_at after q ≡ facts_at before q)
    → ((q : Req) → Has plan.requests q → has_come after.time q.start ≡ has_come before.time q.start) → AreLets plan classes before lets → AreLets plan classes after lets
kept-alike plan classes before after lets facts come are = record {
  ready = are.ready ∙ map_range-same (λ c. turns_of (is_ready plan before) (of_class plan classes c)) (λ c. turns_of (is_ready plan after) (of_class plan classes c)) 0 (length classes.sizes)
      (λ c le. turns-same (is_ready plan before) (is_ready plan after) (of_class plan classes c) (λ q has.
      sym (ready-same plan before after q (facts q) (come q (of_class-has plan classes c q has).0)
      (waiting-same plan before after q (λ set p. ap (λ f. f.begun.bits) (facts set))))));
  rivals = are.rivals ∙ map_range-same (live_rivals plan classes before) (live_rivals plan classes after) 0 (length classes.sizes)
      (λ c le. rivals-alike plan classes before after facts c);
  candidates = are.candidates;
  kin = are.kin;
  window = λ t since next r has. come r has ∙ are.window t since next r has;
  few = are.few;
}

-- what is kept stays right where the same facts and the same moment stand
pub AreLets-alike : (plan : Plan) (classes : Classes) (before after : State) (lets : Lets) → IsAlike before after → AreLets plan classes before lets → AreLets plan classes after lets
AreLets-alike plan classes before after lets alike are =
    kept-alike plan classes before after lets (facts_at-alike before after alike) (λ q has. ap (λ t. has_come t q.start) alike.time) are

-- ---- moments between which no start comes

-- at a moment of the window the same starts have come
come-alike : (plan : Plan) (classes : Classes) (before : State) (lets : Lets) → AreLets plan classes before lets → (time : Option Moment) → is_in_window lets.window time ≡ true
    → (q : Req) → Has plan.requests q → has_come time q.start ≡ has_come before.time q.start
unfolding has_come
come-alike plan classes before lets are None h q has = cc
come-alike plan classes before lets are (Some t) h q has =
    let p : (nat_le lets.window.since t.seconds ≡ true) × (nat_lt t.seconds lets.window.next ≡ true) = and_parts _ _ h in
    sym (are.window t.seconds (leb-true _ _ p.0) (ltb-true _ _ p.1) q has)

-- so what is kept stays right at a tick within it
pub kept-in_window : (plan : Plan) (classes : Classes) (before after : State) (lets : Lets) → after.facts ≡ before.facts → is_in_window lets.window after.time ≡ true
    → AreLets plan classes before lets → AreLets plan classes after lets
unfolding facts_at
kept-in_window plan classes before after lets same within are =
    kept-alike plan classes before after lets (λ q. ap (λ l. unwrap_or (numbered l q.number.number) no_facts) same)
    (come-alike plan classes before lets are after.time within) are

-- ---- a window that begins

earlier-most : (now best start : ℕ) → earlier now best start ≤ best
earlier-most now best start = grind (arith, nat_tests)

earlier-bound : (now best start : ℕ) → now < start → earlier now best start ≤ start
earlier-bound now best start h = grind (arith, nat_tests)

next-most : (now best : ℕ) (rs : List Req) → next_from now best rs ≤ best
unfolding next_from
next-most now best [] = omega arith
next-most now best (r ∷ rs) = omega (arith, next-most now (earlier now best r.start.seconds) rs, earlier-most now best r.start.seconds)

next-bound : (now best : ℕ) (rs : List Req) (r : Req) → Has rs r → now < r.start.seconds → next_from now best rs ≤ r.start.seconds
unfolding next_from
next-bound now best [] r has h = absurd has
next-bound now best (x ∷ rs) r has h = elim has [
  | inl e ↦
      let same : r.start.seconds ≡ x.start.seconds = ap (λ z. z.start.seconds) e in
      omega (arith, next-most now (earlier now best x.start.seconds) rs, earlier-bound now best x.start.seconds (omega (arith, h, same)), same)
  | inr later ↦ next-bound now (earlier now best x.start.seconds) rs r later h
]

-- at each moment of the window the starts have come that had come when it began
pub window-begun : (plan : Plan) (time : Option Moment) (t : ℕ) → (window_at plan time).since ≤ t → t < (window_at plan time).next → (r : Req) → Has plan.requests r
    → has_come time r.start ≡ nat_le r.start.seconds t
unfolding has_come
window-begun plan None t since next r has = absurd (omega (arith, next))
window-begun plan (Some m) t since next r has = elim (cases_lt m.seconds r.start.seconds) [
  | inl before ↦
      let bound : next_from m.seconds 18446744073709551615 plan.requests ≤ r.start.seconds = next-bound m.seconds 18446744073709551615 plan.requests r has before in
      lt-leb r.start.seconds m.seconds before ∙ sym (lt-leb r.start.seconds t (omega (arith, next, bound)))
  | inr come ↦ le-leb r.start.seconds m.seconds come ∙ sym (le-leb r.start.seconds t (omega (arith, since, come)))
]

next-from_step : (now best : ℕ) (rs : List Req) (k : ℕ) (r : Req) → k < length rs → r ≡ get_or rs k r
    → next_from now (earlier now best r.start.seconds) (drop (suc k) rs) ≡ next_from now best (drop k rs)
unfolding next_from
next-from_step now best [] k r h e = absurd (omega arith)
next-from_step now best (x ∷ rs) zero r h e = ap (λ z. next_from now (earlier now best z.start.seconds) rs) e
next-from_step now best (x ∷ rs) (suc k) r h e = next-from_step now best rs k r (omega arith) e

-- one request more
pub next-from_more : (now best : ℕ) (rs : List Req) (k : ℕ) (r : Req) → k < length rs → r ≡ get_or rs k r
    → next_from now (earlier now best r.start.seconds) (drop (k + 1) rs) ≡ next_from now best (drop k rs)
next-from_more now best rs k r h e = rw (add-one k) (next-from_step now best rs k r h e)

pub next-from_end : (now best : ℕ) (rs : List Req) (k : ℕ) → length rs ≤ k → next_from now best (drop k rs) ≡ best
unfolding next_from
next-from_end now best [] zero h = refl
next-from_end now best [] (suc k) h = refl
next-from_end now best (x ∷ rs) zero h = absurd (omega arith)
next-from_end now best (x ∷ rs) (suc k) h = next-from_end now best rs k (omega arith)
