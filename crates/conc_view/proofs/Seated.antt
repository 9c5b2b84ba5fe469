-- Each step on the shared number keeps its rule.
use Rattle.std.proofs.Common.{◌≡◌, ℕ, zero, suc, ◌≤◌, ◌<◌, ◌≢◌, true, false, List, [], ◌∷◌, ◌++◌, length, get_or, set, refl, sym, ◌∙◌, subst, arith, length-set, get_or-set_other, get_or-set_same}
use mathlib.Core.Logic.{dite}
use mathlib.Core.Option.{none, some, some-ne-none, some-injective}
use native.Mathlib.Decide.{ℕ_discrete}
use lib.ListN.{get_elem?}
use Rattle.atomic_table.specs.Table.{Allows, Joins, keeps, Me, opening, Splits, State, step, stepped}
use Rattle.conc_view.specs.declared.marks.Known.{Known}
use Rattle.conc_view.specs.Bounds.{bounded, IsBounded, IsSo, known_at, nothing, Raised, raiser, Read}

-- the view of a seat
at_known : (views : List Known) (j : ℕ) (v : Known) → get_elem? views j ≡ some v → (j < length views) × (known_at views j ≡ v)
at_known [] j v e = absurd (some-ne-none v (sym e))
at_known (x ∷ xs) zero v e = (omega arith, some-injective x v e)
at_known (x ∷ xs) (suc j) v e = let t = at_known xs j v e in let near = t.0 in (omega arith, t.1)

-- a fact on all views, where one is another now
with_view : (P : ℕ → Known → Type 0) (views : List Known) (id : ℕ) (w : Known) → id < length views → P id w
    → ((j : ℕ) → j ≢ id → P j (known_at views j)) → (j : ℕ) → P j (known_at (set views id w) j)
with_view P views id w inside now others j = dite (ℕ_discrete j id)
    (λ (is : j ≡ id). subst (λ (k : ℕ). P k (known_at (set views id w) k)) (sym is) (subst (P id) (sym (get_or-set_same views id w nothing inside)) now))
    (λ other. subst (P j) (sym (get_or-set_other views id j w nothing other)) (others j other))

-- a fact on all views, where there is one more
one_more : (P : ℕ → Known → Type 0) (views : List Known) (w : Known) → ((j : ℕ) → P j w) → ((j : ℕ) → P j (known_at views j)) → (j : ℕ) → P j (known_at (views ++ w ∷ []) j)
one_more P [] w now all zero = now zero
one_more P [] w now all (suc j) = all (suc j)
one_more P (x ∷ xs) w now all zero = all zero
one_more P (x ∷ xs) w now all (suc j) = one_more (λ k. P (suc k)) xs w (λ k. now (suc k)) (λ k. all (suc k)) j

-- the one word is now this number
word_is : (words : List ℕ) (n : ℕ) → length words ≡ 1 → get_or (set words 0 n) 0 0 ≡ n
word_is words n one = get_or-set_same words 0 n 0 (omega arith)

module _ (S : Type 0) where
  -- one seat's step
  after_step : (s : State S Known) (k : IsBounded s) (id n : ℕ) (c : List (ℕ × S)) (v w : Known) → get_elem? s.views id ≡ some v
      → IsSo n k.one id w → ((j : ℕ) → j ≢ id → IsSo n k.one j (known_at s.views j)) → IsBounded (stepped s 0 n id c w keeps)
  after_step s k id n c v w at now others = record {
    one = k.one;
    word = length-set s.words 0 n ∙ k.word;
    each = subst (λ (m : ℕ). (j : ℕ) → IsSo m k.one j (known_at (set s.views id w) j)) (sym (word_is s.words n k.word))
        (with_view (λ j u. IsSo n k.one j u) s.views id w (at_known s.views id v at).0 now others);
  }

  -- what the rule says of a seat
  own : (s : State S Known) (k : IsBounded s) (id : ℕ) (v : Known) → get_elem? s.views id ≡ some v → IsSo (get_or s.words 0 0) k.one id v
  own s k id v at = subst (IsSo (get_or s.words 0 0) k.one id) (at_known s.views id v at).1 (k.each id)

  -- the seat that raises the number may raise it
  pub raises : (slots id : ℕ) (me : Me S Known) (n : ℕ) → me.0.raises ≡ true → me.0.number ≤ n
      → Allows IsBounded slots id me 0 (λ _. n) (λ _. Raised (step slots 0 n 0 none) me n)
  raises slots id me n own_raises up s k _ at _ =
      let mine = own s k id me.0 at in
      let here = mine.1 own_raises in
      let least = mine.0 in
      let number : me.0.number ≡ get_or s.words 0 0 = here.1 in (
        raiser n,
        keeps,
        tt,
        after_step s k id n me.1 me.0 (raiser n) at (omega arith, λ _. (here.0, refl))
            (λ j other. let so = k.each j in let low = so.0 in (omega arith, λ r. absurd (other ((so.1 r).0 ∙ sym here.0)))),
        (refl, refl),
      )

  -- any seat may read it
  pub reads : (slots id : ℕ) (me : Me S Known) → Allows IsBounded slots id me 0 (λ n. n) (Read (step slots 0 0 0 none) me)
  reads slots id me s k _ at _ =
      let n : ℕ = get_or s.words 0 0 in
      let mine = own s k id me.0 at in (
        record me.0 { least = n },
        keeps,
        tt,
        after_step s k id n me.1 me.0 (record me.0 { least = n }) at (omega arith, mine.1) (λ j _. k.each j),
        (refl, refl, mine.0, λ r. (mine.1 r).1),
      )

  -- any seat may be cut in two, where the new one has the same bound
  pub seats : (id : ℕ) (v : Known) → Splits (IsBounded {S = S}) id v v (bounded v.least)
  seats id v s k at =
      let n : ℕ = get_or s.words 0 0 in
      let mine = own s k id v at in
      let least = mine.0 in
      record {
        one = k.one;
        word = k.word;
        each = one_more (λ j u. IsSo n k.one j u) (set s.views id v) (bounded v.least)
            (λ j. (omega arith, λ (r : false ≡ true). absurd (cc r)))
            (with_view (λ j u. IsSo n k.one j u) s.views id v (at_known s.views id v at).0 mine (λ j _. k.each j));
      }

  -- a seat may take over the bound of another
  pub hears : (id : ℕ) (v : Known) (other : ℕ) (w : Known) → Joins (IsBounded {S = S}) id v other w (record v { least = w.least }) nothing
  hears id v other w s k at apart there =
      let n : ℕ = get_or s.words 0 0 in
      let both : Known = record v { least = w.least } in
      let inside = (at_known s.views id v at).0 in
      let mine = own s k id v at in
      let found = at_known (set s.views id both) other w there in
      let was : known_at s.views other ≡ w = sym (get_or-set_other s.views id other both nothing apart) ∙ found.1 in
      let heard : IsSo n k.one other w = subst (IsSo n k.one other) was (k.each other) in
      record {
        one = k.one;
        word = k.word;
        each = with_view (λ j u. IsSo n k.one j u) (set s.views id both) other nothing found.0 (omega arith, λ (r : false ≡ true). absurd (cc r))
            (λ j _. with_view (λ i u. IsSo n k.one i u) s.views id both inside (heard.0, mine.1) (λ i _. k.each i) j);
      }

  -- at the start the number is 0, and the first seat raises it
  pub opens : IsBounded (opening (0 ∷ []) (let none : List S = [] in none) (raiser 0))
  opens = record {
    one = 0;
    word = refl;
    each = λ j. at j;
  } where
    at : (j : ℕ) → IsSo 0 0 j (known_at (raiser 0 ∷ []) j)
    at zero = (omega arith, λ _. (refl, refl))
    at (suc j) = (omega arith, λ (r : false ≡ true). absurd (cc r))
