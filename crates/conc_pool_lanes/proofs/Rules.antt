-- Each move keeps the rule of a lane.
use Rattle.std.proofs.Common.{◌≡◌, ◌≢◌, ◌≤◌, ◌<◌, ◌==◌, ℕ, zero, suc, Bool, true, false, true≢false, List, [], ◌∷◌, ◌++◌, length, length-set, set, sym, refl, ap, ◌∙◌, subst, inl, inr, ⊎_elim, append_assoc, append-nil, length-append, if◌then◌else◌, eq-eqb, ne_eqb, arith}
use Rattle.std.specs.Prelude.{◌⊎◌}
use mathlib.Core.Option.{some, some-ne-none, some-injective}
use lib.ListN.{get_elem?}
use Rattle.crossbeam_queue.specs.Fifo.{Pushes, Pops, Forks, Learns}
use Rattle.crossbeam_queue.proofs.Lists.{at_set}
use Rattle.conc_types.specs.declared.event.RequestId.{RequestId}
use Rattle.conc_pool_lanes.specs.declared.rule.Log.{Log}
use Rattle.conc_pool_lanes.specs.Rule.{AreBelow, IsInOrder, putter, taken_by, taker}

-- ---- who took what

below-more : (n m : ℕ) (ports : List ℕ) → n ≤ m → AreBelow n ports → AreBelow m ports
unfolding AreBelow
below-more n m [] le h = tt
below-more n m (port ∷ ports) le h = (omega (arith, le, h.0), below-more n m ports le h.1)

below-push : (n port : ℕ) (ports : List ℕ) → port < n → AreBelow n ports → AreBelow n (ports ++ port ∷ [])
unfolding AreBelow
below-push n port [] lt h = (lt, tt)
below-push n port (p ∷ ports) lt h = (h.0, below-push n port ports lt h.1)

-- a number that is above all of them took nothing
none-taken : (n : ℕ) (taken : List RequestId) (takers : List ℕ) → AreBelow n takers → taken_by n taken takers ≡ []
unfolding taken_by AreBelow
none-taken n [] takers h = refl
none-taken n (r ∷ taken) [] h = refl
none-taken n (r ∷ taken) (by ∷ takers) h =
    let rest = taken_by n taken takers in
    ap (λ (b : Bool). if b then r ∷ rest else rest) (ne_eqb by n (λ e. absurd (omega (arith, h.0, e)))) ∙ none-taken n taken takers h.1

-- one request more: this pass took it, or another one
taken-more : (port by : ℕ) (taken : List RequestId) (takers : List ℕ) (r : RequestId) → length takers ≡ length taken
    → taken_by port (taken ++ r ∷ []) (takers ++ by ∷ []) ≡ taken_by port taken takers ++ (if by == port then r ∷ [] else [])
unfolding taken_by
taken-more port by [] [] r same = by_test (by == port)
  where
    by_test : (b : Bool) → (if b then r ∷ [] else []) ≡ [] ++ (if b then r ∷ [] else [])
    by_test b = refl
taken-more port by [] (t ∷ takers) r same = absurd (omega (arith, same))
taken-more port by (x ∷ taken) [] r same = absurd (omega (arith, same))
taken-more port by (x ∷ taken) (t ∷ takers) r same =
    split (t == port) (taken-more port by taken takers r (omega (arith, same)))
  where
    rest : List RequestId
    rest = taken_by port taken takers

    more : List RequestId
    more = taken_by port (taken ++ r ∷ []) (takers ++ by ∷ [])

    last : List RequestId
    last = if by == port then r ∷ [] else []

    split : (b : Bool) → more ≡ rest ++ last → (if b then x ∷ more else more) ≡ (if b then x ∷ rest else rest) ++ last
    split true e = ap (λ l. x ∷ l) e
    split false e = e

-- ---- views

-- at the end of a list stands the last one
at_end : {A : Type 0} (l : List A) (a b : A) (j : ℕ) → get_elem? (l ++ a ∷ []) j ≡ some b → (get_elem? l j ≡ some b) ⊎ ((j ≡ length l) × (a ≡ b))
at_end [] a b zero e = inr (refl, some-injective a b e)
at_end [] a b (suc j) e = absurd (some-ne-none b (sym e))
at_end (x ∷ l) a b zero e = inl e
at_end (x ∷ l) a b (suc j) e = ⊎_elim (λ h. inl h) (λ h. inr (ap suc h.0, h.1)) (at_end l a b j e)

-- there is a view only at a number below their count
at_below : {A : Type 0} (l : List A) (j : ℕ) (a : A) → get_elem? l j ≡ some a → j < length l
at_below [] j a e = absurd (some-ne-none a (sym e))
at_below (x ∷ l) zero a e = omega arith
at_below (x ∷ l) (suc j) a e = let h = at_below l j a e in omega (arith, h)

all_set : (F : ℕ → Log → Type 0) (views : List Log) (port : ℕ) (w : Log) → F port w
    → ((j : ℕ) (u : Log) → j ≢ port → get_elem? views j ≡ some u → F j u) → (j : ℕ) (u : Log) → get_elem? (set views port w) j ≡ some u → F j u
all_set F views port w mine others j u e =
    ⊎_elim (λ (x : (j ≡ port) × (w ≡ u)). subst (λ (y : ℕ × Log). F y.0 y.1) (λ i. (sym x.0 i, x.1 i)) mine)
    (λ (x : (j ≢ port) × (get_elem? views j ≡ some u)). others j u x.0 x.1) (at_set views port j w u e)

-- ---- the moves

pub begins : IsInOrder [] (putter [] ∷ [])
unfolding taken_by AreBelow
begins = record {
  writer = 0;
  taken = [];
  takers = [];
  each_once = refl;
  known = tt;
  put = first;
  took = no_taker;
}
  where
    first : (port : ℕ) (v : Log) → get_elem? (putter [] ∷ []) port ≡ some v → v.puts ≡ true → (port ≡ 0) × (v.requests ≡ [])
    first zero v e may = (refl, ap (λ (u : Log). u.requests) (sym (some-injective (putter []) v e)))
    first (suc port) v e may = absurd (some-ne-none v (sym e))

    no_taker : (port : ℕ) (v : Log) → get_elem? (putter [] ∷ []) port ≡ some v → v.puts ≡ false → v.requests ≡ taken_by port [] []
    no_taker zero v e not = absurd (true≢false (ap (λ (u : Log). u.puts) (some-injective (putter []) v e) ∙ not))
    no_taker (suc port) v e not = absurd (some-ne-none v (sym e))

pub puts : (n port : ℕ) (v : Log) (x : RequestId) → v.puts ≡ true → Pushes IsInOrder n port v x (λ w. w ≡ putter (v.requests ++ x ∷ []))
puts n port v x may items views few h at = (
  putter (v.requests ++ x ∷ []),
  record {
    writer = h.writer;
    taken = h.taken;
    takers = h.takers;
    each_once = h.each_once;
    known = subst (λ k. AreBelow k h.takers) (sym (length-set views port _)) h.known;
    put = all_set (λ j u. u.puts ≡ true → (j ≡ h.writer) × (u.requests ≡ h.taken ++ (items ++ x ∷ []))) views port (putter (v.requests ++ x ∷ []))
        (λ _. ((h.put port v at may).0, ap (λ l. l ++ x ∷ []) (h.put port v at may).1 ∙ append_assoc h.taken items (x ∷ [])))
        (λ j u other e p. absurd (other ((h.put j u e p).0 ∙ sym (h.put port v at may).0)));
    took = all_set (λ j u. u.puts ≡ false → u.requests ≡ taken_by j h.taken h.takers) views port (putter (v.requests ++ x ∷ []))
        (λ not. absurd (true≢false not)) (λ j u other e. h.took j u e);
  },
  refl,
)

pub learns : (port : ℕ) (v : Log) → v.puts ≡ true → Learns IsInOrder port v (λ items. length items ≤ length v.requests)
learns port v may items views h at =
    let m = h.put port v at may in omega (arith, ap (λ (l : List RequestId). length l) m.1, length-append h.taken items)

pub takes : (port : ℕ) (v : Log) → v.puts ≡ false → Pops IsInOrder port v (λ x w. w ≡ taker (v.requests ++ x ∷ []))
takes port v not x items views h at = (
  taker (v.requests ++ x ∷ []),
  record {
    writer = h.writer;
    taken = h.taken ++ x ∷ [];
    takers = h.takers ++ port ∷ [];
    each_once = omega (arith, h.each_once, length-append h.takers (port ∷ []), length-append h.taken (x ∷ []));
    known = subst (λ k. AreBelow k (h.takers ++ port ∷ [])) (sym (length-set views port _)) (below-push (length views) port h.takers (at_below views port v at) h.known);
    put = all_set (λ j u. u.puts ≡ true → (j ≡ h.writer) × (u.requests ≡ (h.taken ++ x ∷ []) ++ items)) views port (taker (v.requests ++ x ∷ []))
        (λ may. absurd (true≢false (sym may)))
        (λ j u other e p. ((h.put j u e p).0, (h.put j u e p).1 ∙ sym (append_assoc h.taken (x ∷ []) items)));
    took = all_set (λ j u. u.puts ≡ false → u.requests ≡ taken_by j (h.taken ++ x ∷ []) (h.takers ++ port ∷ [])) views port (taker (v.requests ++ x ∷ []))
        (λ _. ap (λ l. l ++ x ∷ []) (h.took port v at not)
        ∙ sym (taken-more port port h.taken h.takers x h.each_once ∙ ap (λ (b : Bool). taken_by port h.taken h.takers ++ (if b then x ∷ [] else [])) (eq-eqb port port refl)))
        (λ j u other e p. h.took j u e p
        ∙ sym (taken-more j port h.taken h.takers x h.each_once
        ∙ ap (λ (b : Bool). taken_by j h.taken h.takers ++ (if b then x ∷ [] else [])) (ne_eqb port j (λ s. other (sym s)))
        ∙ append-nil (taken_by j h.taken h.takers)));
  },
  refl,
)

pub forks : (port : ℕ) (v : Log) → Forks IsInOrder port v v (taker [])
forks port v items views h at = record {
  writer = h.writer;
  taken = h.taken;
  takers = h.takers;
  each_once = h.each_once;
  known = below-more (length views) _ h.takers (omega (arith, length-set views port v, length-append (set views port v) (taker [] ∷ []))) h.known;
  put = λ j u e p. ⊎_elim
      (λ was. all_set (λ i y. y.puts ≡ true → (i ≡ h.writer) × (y.requests ≡ h.taken ++ items)) views port v (h.put port v at) (λ i y _ f. h.put i y f) j u was p)
      (λ is. absurd (true≢false (sym p ∙ ap (λ (y : Log). y.puts) (sym is.1)))) (at_end (set views port v) (taker []) u j e);
  took = λ j u e p. ⊎_elim
      (λ was. all_set (λ i y. y.puts ≡ false → y.requests ≡ taken_by i h.taken h.takers) views port v (h.took port v at) (λ i y _ f. h.took i y f) j u was p)
      (λ is. ap (λ (y : Log). y.requests) (sym is.1)
      ∙ sym (ap (λ k. taken_by k h.taken h.takers) (is.0 ∙ length-set views port v) ∙ none-taken (length views) h.taken h.takers h.known))
      (at_end (set views port v) (taker []) u j e);
}
