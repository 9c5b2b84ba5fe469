-- The last tick of a life that has taken all its readings is not earlier than any of its ticks.
use Rattle.std.proofs.Common.{◌≡◌, ◌⊎◌, ℕ, zero, suc, ◌<◌, ◌≤◌, true, false, List, [], ◌∷◌, Option, None, Some, is_none, refl, sym, ◌∙◌, ap, subst, inl, inr, arith}
use Rattle.std.specs.Prelude.{nat_le, slice_get}
use Rattle.std.specs.List.{filter, list_all}
use Rattle.std.proofs.lemmas.Bool.{and_parts}
use Rattle.std.proofs.lemmas.Bool.Decides.{nat_tests}
use Rattle.conc_types.specs.declared.event.Event.{Event}
use Rattle.conc_types.specs.declared.event.Event.TheVariants as event
use Rattle.conc_types.specs.declared.event.Moment.{Moment}
use Rattle.conc_types.specs.declared.plan.Plan.{Plan}
use Rattle.conc_types.specs.declared.script.Reading.{Reading}
use Rattle.conc_types.specs.Scripts.{are_in_order}
use Rattle.conc_base_law.specs.Kinds.{is_resume}
use Rattle.conc_base_law.specs.Before.{earlier_lives, last_life, occurs}
use Rattle.conc_base_law.specs.Readings.{life_readings, next_reading, ticks}
use Rattle.conc_base_law.specs.State.{has_come, is_not_earlier, now}
use Rattle.conc_base_law.proofs.LawfulSoFar.{all-get, IsRead, tick_read}
use Rattle.conc_base_law.proofs.Calm.{Calm, calm-before, calm-no_resume, calm-reads}
use Rattle.conc_base_law.proofs.Lists.{filter-all}
use Rattle.std.proofs.lemmas.Bool.{cond-false, or_parts}

-- no life stands before the one life
earlier-none : (past : List Event) → occurs is_resume past ≡ false → earlier_lives past ≡ []
unfolding earlier_lives
earlier-none [] h = refl
earlier-none (e ∷ past) h =
    let p : (is_resume e ≡ false) × (occurs is_resume past ≡ false) = or_parts _ _ h in
    cond-false (is_resume e) past (earlier_lives past) p.0 ∙ earlier-none past p.1

-- its readings are all
readings-all : (readings : List Reading) (past : List Event) → occurs is_resume past ≡ false → life_readings readings past ≡ readings
unfolding life_readings now is_not_earlier
readings-all readings past h =
    ap (λ l. filter (λ q. is_not_earlier (now l) q.moment) readings) (earlier-none past h)
    ∙ filter-all (λ q. is_not_earlier (now []) q.moment) readings (λ q. refl)

-- no reading is taken, or the last tick is the last one taken
abbrev pub LastTick : List Reading → List Event → Type 0
LastTick readings past =
    ((ticks past ≡ 0) × (now past ≡ None))
    ⊎ ((k : ℕ) × (q : Reading) × (ticks past ≡ suc k) × (slice_get readings k ≡ Some q) × (now past ≡ Some q.moment))

-- the last tick of a life is so
pub last_tick : (plan : Plan) (readings : List Reading) (past : List Event) → Calm plan readings past → LastTick readings past
unfolding ticks now last_life next_reading
last_tick plan readings [] c = inl (refl, refl)
last_tick plan readings (event.Tick t ∷ past) c =
    let p : IsRead plan readings past t = tick_read plan readings past t (calm-reads plan readings past (event.Tick t) c) in
    let b : Calm plan readings past = calm-before plan readings past (event.Tick t) c in
    let here : slice_get readings (ticks past) ≡ Some p.0 = ap (λ l. slice_get l (ticks past)) (sym (readings-all readings past b.one_life)) ∙ p.1 in
    inr (ticks past, p.0, refl, here, ap (λ m. Some m) p.2)
last_tick plan readings (event.Resume ∷ past) c = let n = calm-no_resume plan readings past event.Resume c in cc
last_tick plan readings (_ ∷ past) c = last_tick plan readings past (calm-before plan readings past _ c)

-- readings in order
in_order : (xs : List Reading) (i j : ℕ) (q r : Reading) → are_in_order xs ≡ true → slice_get xs i ≡ Some q → slice_get xs j ≡ Some r → i ≤ j
    → nat_le q.moment.seconds r.moment.seconds ≡ true
in_order [] i j q r h a b l = cc
in_order (y ∷ ys) zero zero q r h a b l = let e : y ≡ q = cc in let f : y ≡ r = cc in rw (sym e) (rw (sym f) (grind (arith, nat_tests)))
in_order (y ∷ ys) zero (suc j) q r h a b l =
    let e : y ≡ q = cc in
    subst (λ z. nat_le z.moment.seconds r.moment.seconds ≡ true) e
    (all-get (λ z. nat_le y.moment.seconds z.moment.seconds) ys j r (and_parts _ _ h).0 b)
in_order (y ∷ ys) (suc i) zero q r h a b l = absurd (omega arith)
in_order (y ∷ ys) (suc i) (suc j) q r h a b l =
    in_order ys i j q r (and_parts (list_all (λ z. nat_le y.moment.seconds z.moment.seconds) ys) _ h).1 a b (omega arith)

-- a position below one that a list has is one that it has
get_below : {T : Type 0} (xs : List T) (i j : ℕ) (x : T) → slice_get xs i ≡ Some x → slice_get xs j ≡ None → i < j
get_below [] i j x h k = cc
get_below (y ∷ ys) i zero x h k = cc
get_below (y ∷ ys) zero (suc j) x h k = omega arith
get_below (y ∷ ys) (suc i) (suc j) x h k = let l : i < j = get_below ys i j x h k in omega arith

-- all readings are taken
pub taken : (readings : List Reading) (past : List Event) → occurs is_resume past ≡ false → is_none (next_reading readings past) ≡ true → slice_get readings (ticks past) ≡ None
unfolding next_reading
taken readings past one h = by (slice_get readings (ticks past)) (ap (λ l. is_none (slice_get l (ticks past))) (sym (readings-all readings past one)) ∙ h) where
  by : (o : Option Reading) → is_none o ≡ true → o ≡ None
  by None k = refl
  by (Some q) k = cc

-- a moment that has come in any life has come in one that has taken all readings
pub come-by_end : (plan : Plan) (readings : List Reading) (past all : List Event) (t : Moment) → are_in_order readings ≡ true → Calm plan readings past → Calm plan readings all
    → is_none (next_reading readings all) ≡ true → has_come (now past) t ≡ true → has_come (now all) t ≡ true
unfolding has_come
come-by_end plan readings past all t order c d done h = by (last_tick plan readings past c) (last_tick plan readings all d) where
  by : LastTick readings past → LastTick readings all → has_come (now all) t ≡ true
  by (inl a) l = let n : has_come None t ≡ true = ap (λ o. has_come o t) (sym a.1) ∙ h in cc
  by (inr a) l =
      let gone : slice_get readings (ticks all) ≡ None = taken readings all d.one_life done in
      let below : a.0 < ticks all = get_below readings a.0 (ticks all) a.1 a.3 gone in
      let early : nat_le t.seconds a.1.moment.seconds ≡ true = ap (λ o. has_come o t) (sym a.4) ∙ h in
      elim l [
        | inl z ↦ absurd (omega (arith, z.0))
        | inr b ↦
            let late : nat_le a.1.moment.seconds b.1.moment.seconds ≡ true = in_order readings a.0 b.0 a.1 b.1 order a.3 b.3 (omega (arith, b.2)) in
            ap (λ o. has_come o t) b.4 ∙ (grind (arith, nat_tests))
      ]
