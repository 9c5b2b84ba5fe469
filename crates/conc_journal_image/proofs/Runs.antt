-- Records one after the other, none of them broken.
use Rattle.std.proofs.Common.{◌≡◌, ℕ, zero, suc, ◌+◌, ◌*◌, ◌-◌, ◌<◌, ◌≤◌, ◌⊎◌, inl, inr, Bool, true, false, List, [], ◌∷◌, Option, Some, None, length, take, drop, refl, sym, ap, ◌∙◌, arith, IsTrue, IsFalse}
use Rattle.std.specs.Prelude.{cond, nat_le}
use Rattle.std.proofs.lemmas.Bool.Decides.{nat_tests}
use Rattle.std.proofs.lemmas.List.{drop-drop, length-drop}
use Rattle.conc_types.specs.declared.event.Event.{Event}
use Rattle.conc_journal_image.specs.Fields.{event_in}
use Rattle.conc_journal_image.specs.Image.{breaks_here, ends_here, Found, found_from, found_in, found_with, is_closed, whole_record, with_event, with_events}
use Rattle.conc_journal_image.proofs.Finding.{found_from-taken}
use Rattle.conc_journal_image.proofs.Fronts.{drop-front, is_closed-front, part-front}

-- these events, and no record that is broken
abbrev pub whole : List Event → Found
whole events = record { events = events; broken = None }

-- ---- one record

-- an event comes first, where so many more may still be taken
pub record Goes (left number : ℕ) (bytes : List ℕ) (events : List Event) : Type 0 where
  pub first : Event
  pub others : List Event
  pub is : events ≡ first ∷ others
  pub gate : IsFalse (is_closed bytes)
  pub here : whole_record bytes ≡ Some first
  pub rest : found_from left (number + 1) (drop 32 bytes) ≡ whole others

pub found-zero : (number : ℕ) (bytes : List ℕ) (events : List Event) → found_from 0 number bytes ≡ whole events → IsTrue (is_closed bytes) × (events ≡ [])
unfolding found_from
found-zero number bytes events h = by (is_closed bytes) refl h where
  by : (b : Bool) → is_closed bytes ≡ b → cond b ends_here (breaks_here number) ≡ whole events → IsTrue (is_closed bytes) × (events ≡ [])
  by true is h = (is, sym (ap (λ f. f.events) h))
  by false is h = let e = ap (λ f. f.broken) h in absurd cc

pub found-suc : (left number : ℕ) (bytes : List ℕ) (events : List Event) → found_from (suc left) number bytes ≡ whole events
    → (IsTrue (is_closed bytes) × (events ≡ [])) ⊎ Goes left number bytes events
unfolding found_from
found-suc left number bytes events h = by (is_closed bytes) (whole_record bytes) refl refl h where
  by : (b : Bool) (w : Option Event) → is_closed bytes ≡ b → whole_record bytes ≡ w
      → cond b ends_here (found_with number w (found_from left (number + 1) (drop 32 bytes))) ≡ whole events
      → (IsTrue (is_closed bytes) × (events ≡ [])) ⊎ Goes left number bytes events
  by true w is here h = inl (is, sym (ap (λ f. f.events) h))
  by false None is here h = let e = ap (λ f. f.broken) h in absurd cc
  by false (Some x) is here h =
      inr
      (record {
        first = x;
        others = (found_from left (number + 1) (drop 32 bytes)).events;
        is = sym (ap (λ f. f.events) h);
        gate = is;
        here = here;
        rest = ap (λ b. record { events = (found_from left (number + 1) (drop 32 bytes)).events; broken = b }) (ap (λ f. f.broken) h);
      })

-- what is whole has its 32 bytes and a gate behind
pub length-whole : (bytes : List ℕ) (e : Event) → whole_record bytes ≡ Some e → 33 ≤ length bytes
length-whole bytes e h = by (nat_le 33 (length bytes)) refl h where
  by : (b : Bool) → nat_le 33 (length bytes) ≡ b → cond b (event_in (take 31 (drop 1 bytes))) None ≡ Some e → 33 ≤ length bytes
  by true is h = grind (arith, nat_tests)
  by false is h = absurd cc

-- the same 32 bytes, and a gate behind
pub whole_record-same : (c d : List ℕ) → take 32 c ≡ take 32 d → 33 ≤ length c → 33 ≤ length d → whole_record c ≡ whole_record d
whole_record-same c d same long_c long_d =
    let has_c : nat_le 33 (length c) ≡ true = grind (arith, nat_tests) in
    let has_d : nat_le 33 (length d) ≡ true = grind (arith, nat_tests) in
    let parts : take 31 (drop 1 c) ≡ take 31 (drop 1 d) =
    sym (part-front 1 31 32 c (omega arith)) ∙ ap (λ xs. take 31 (drop 1 xs)) same ∙ part-front 1 31 32 d (omega arith) in
    ap (λ b. cond b (event_in (take 31 (drop 1 c))) None) has_c
    ∙ ap (λ xs. event_in xs) parts
    ∙ sym (ap (λ b. cond b (event_in (take 31 (drop 1 d))) None) has_d)

-- ---- all records

-- there are no more than may be taken
pub length-found : (more number : ℕ) (bytes : List ℕ) → length (found_from more number bytes).events ≤ more
unfolding found_from
length-found zero number bytes = by (is_closed bytes) where
  by : (b : Bool) → length (cond b ends_here (breaks_here number)).events ≤ 0
  by true = omega arith
  by false = omega arith
length-found (suc more) number bytes = by (is_closed bytes) (whole_record bytes) (length-found more (number + 1) (drop 32 bytes)) where
  by : (b : Bool) (w : Option Event) → length (found_from more (number + 1) (drop 32 bytes)).events ≤ more
      → length (cond b ends_here (found_with number w (found_from more (number + 1) (drop 32 bytes)))).events ≤ suc more
  by true w few = omega arith
  by false None few = omega arith
  by false (Some x) few = omega arith

-- so there are few in an image
pub length-found_in : (image : List ℕ) (events : List Event) → events ≡ (found_in image).events → length events ≤ 1048576
unfolding found_in
length-found_in image events e = omega (arith, ap length e, length-found 1048576 1 (drop 64 image))

-- each has its 32 bytes, and a gate stands behind the last
pub length-records : (more number : ℕ) (bytes : List ℕ) (events : List Event) → found_from more number bytes ≡ whole events → 1 ≤ length bytes → 32 * length events + 1 ≤ length bytes
length-records zero number bytes events h some = let p = found-zero number bytes events h in omega (arith, ap length p.1)
length-records (suc more) number bytes events h some =
    elim (found-suc more number bytes events h) [
      | inl p ↦ omega (arith, ap length p.1)
      | inr g ↦
          let long = length-whole bytes g.first g.here in
          let shorter = length-drop 32 bytes in
          let rest = length-records more (number + 1) (drop 32 bytes) g.others g.rest (omega arith) in
          let count : length events ≡ suc (length g.others) = ap length g.is in
          omega arith
    ]

-- the gate behind the last is closed
pub closed-behind : (more number at : ℕ) (bytes : List ℕ) (events : List Event) → found_from more number bytes ≡ whole events → at ≡ 32 * length events → IsTrue (is_closed (drop at bytes))
closed-behind zero number at bytes events h e =
    let p = found-zero number bytes events h in
    let none : at ≡ 0 = omega (arith, ap length p.1) in
    ap (λ n. is_closed (drop n bytes)) none ∙ p.0
closed-behind (suc more) number at bytes events h e =
    elim (found-suc more number bytes events h) [
      | inl p ↦ let none : at ≡ 0 = omega (arith, ap length p.1) in ap (λ n. is_closed (drop n bytes)) none ∙ p.0
      | inr g ↦
          let count : length events ≡ suc (length g.others) = ap length g.is in
          let sum : at ≡ 32 + 32 * length g.others = omega arith in
          ap (λ n. is_closed (drop n bytes)) sum
          ∙ ap (λ xs. is_closed xs) (sym (drop-drop (32 * length g.others) 32 bytes))
          ∙ closed-behind more (number + 1) (32 * length g.others) (drop 32 bytes) g.others g.rest refl
    ]

run-none : (more number left at upto : ℕ) (c : List ℕ) (events : List Event) → events ≡ [] → more ≡ left → at ≡ 0 → upto ≡ number
    → found_from more number c ≡ with_events events (found_from left upto (drop at c))
run-none more number left at upto c events none same start here =
    ap (λ m. found_from m number c) same
    ∙ ap (λ n. found_from left n c) (sym here)
    ∙ ap (λ n. found_from left upto (drop n c)) (sym start)
    ∙ ap (λ es. with_events es (found_from left upto (drop at c))) (sym none)

-- With the same bytes up to the gate behind the last, and that gate, the same events are found, and what is found behind them.
pub run : (more number left at upto : ℕ) (d c : List ℕ) (events : List Event) → found_from more number d ≡ whole events
    → more ≡ length events + left → at ≡ 32 * length events → upto ≡ number + length events
    → take at c ≡ take at d → at < length c
    → found_from more number c ≡ with_events events (found_from left upto (drop at c))
run zero number left at upto d c events h all place here same long =
    let p = found-zero number d events h in
    let count : length events ≡ 0 = ap length p.1 in
    run-none zero number left at upto c events p.1 (omega arith) (omega arith) (omega arith)
run (suc more) number left at upto d c events h all place here same long =
    elim (found-suc more number d events h) [
      | inl p ↦
          let count : length events ≡ 0 = ap length p.1 in
          run-none (suc more) number left at upto c events p.1 (omega arith) (omega arith) (omega arith)
      | inr g ↦
          let n = length g.others in
          let count : length events ≡ suc (length g.others) = ap length g.is in
          let far : at ≡ 32 + 32 * length g.others = omega arith in
          let gate : is_closed c ≡ is_closed d =
          sym (is_closed-front at c (omega arith)) ∙ ap (λ xs. is_closed xs) same ∙ is_closed-front at d (omega arith) in
          let front : take 32 c ≡ take 32 d =
          sym (part-front 0 32 at c (omega arith)) ∙ ap (λ xs. take 32 xs) same ∙ part-front 0 32 at d (omega arith) in
          let here_c : whole_record c ≡ Some g.first = whole_record-same c d front (omega arith) (length-whole d g.first g.here) ∙ g.here in
          let behind : take (at - 32) (drop 32 c) ≡ take (at - 32) (drop 32 d) =
          sym (drop-front 32 at c (omega arith)) ∙ ap (λ xs. drop 32 xs) same ∙ drop-front 32 at d (omega arith) in
          let rest : found_from more (number + 1) (drop 32 c) ≡ with_events g.others (found_from left upto (drop (at - 32) (drop 32 c))) =
          run more (number + 1) left (at - 32) upto (drop 32 d) (drop 32 c) g.others g.rest (omega arith) (omega arith) (omega arith) behind (omega (arith, length-drop 32 c)) in
          let place_c : drop (at - 32) (drop 32 c) ≡ drop at c = drop-drop (at - 32) 32 c ∙ ap (λ k. drop k c) (omega arith) in
          found_from-taken more number c g.first (gate ∙ g.gate) here_c
          ∙ ap (λ f. with_event g.first f) rest
          ∙ ap (λ xs. with_events (g.first ∷ g.others) (found_from left upto xs)) place_c
          ∙ ap (λ es. with_events es (found_from left upto (drop at c))) (sym g.is)
    ]
