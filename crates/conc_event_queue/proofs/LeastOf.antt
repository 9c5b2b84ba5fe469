-- The least key of the elements that pass, against what it means.
use Rattle.std.proofs.Common.{◌≡◌, ℕ, ◌≤◌, Bool, true, false, List, [], ◌∷◌, map, Option, None, Some, refl, sym, ◌∙◌, ap, inl, inr, arith}
use Rattle.std.specs.Bool.{then_some}
use Rattle.std.proofs.lemmas.Bool.{both_ways, cases_lt, le-ltb, lt-ltb}
use Rattle.conc_base_law.specs.Words.{Has}
use Rattle.conc_event_queue.specs.Least.{least, lesser}

-- x passes, its key is k, and no other one that passes has a lesser key
pub record HasLeast {T : Type 0} (test : T → Bool) (key : T → ℕ) (xs : List T) (k : ℕ) (x : T) : Type 0 where
  pub element : Has xs x
  pub passes : test x ≡ true
  pub own : key x ≡ k
  pub first : (y : T) → Has xs y → test y ≡ true → k ≤ key y

-- where there is no least key, no element passes
pub least-none : {T : Type 0} (test : T → Bool) (key : T → ℕ) (xs : List T) → least (map (λ x. then_some (test x) (key x)) xs) ≡ None
    → (y : T) → Has xs y → test y ≡ false
unfolding least
least-none test key [] h y has = absurd has
least-none {T} test key (x ∷ xs) h y has = by (test x) refl (least (map (λ z. then_some (test z) (key z)) xs)) (least-none test key xs) h where
  by : (b : Bool) → test x ≡ b → (o : Option ℕ) → (o ≡ None → (y : T) → Has xs y → test y ≡ false) → lesser (then_some b (key x)) o ≡ None → test y ≡ false
  by true e None rest h = cc
  by true e (Some k) rest h = cc
  by false e o rest h = elim has [ inl same ↦ ap test same ∙ e | inr later ↦ rest h y later ]

-- the least key is that of an element that passes
pub least-some : {T : Type 0} (test : T → Bool) (key : T → ℕ) (xs : List T) (k : ℕ) → least (map (λ x. then_some (test x) (key x)) xs) ≡ Some k
    → (x : T) × HasLeast test key xs k x
unfolding least
least-some test key [] k h = cc
least-some {T} test key (x ∷ xs) k h =
    by (test x) refl (least (map (λ z. then_some (test z) (key z)) xs)) (least-none test key xs) (least-some test key xs) h where
      by : (b : Bool) → test x ≡ b → (o : Option ℕ) → (o ≡ None → (y : T) → Has xs y → test y ≡ false)
          → ((m : ℕ) → o ≡ Some m → (x' : T) × HasLeast test key xs m x') → lesser (then_some b (key x)) o ≡ Some k → (x' : T) × HasLeast test key (x ∷ xs) k x'
      by false e o none some h =
          let r : (x' : T) × HasLeast test key xs k x' = some k h in (
            r.0,
            record {
              element = inr r.1.element;
              passes = r.1.passes;
              own = r.1.own;
              first = λ y has t. elim has [ inl same ↦ absurd (both_ways _ e (ap test (sym same) ∙ t)) | inr later ↦ r.1.first y later t ];
            },
          )
      by true e None none some h =
          let own : key x ≡ k = cc in (
            x,
            record {
              element = inl refl;
              passes = e;
              own = own;
              first = λ y has t. elim has [ inl same ↦ omega (arith, own, ap key same) | inr later ↦ absurd (both_ways _ (none refl y later) t) ];
            },
          )
      by true e (Some m) none some h =
          let r : (x' : T) × HasLeast test key xs m x' = some m refl in
          elim (cases_lt m (key x)) [
            | inl less ↦
                let chosen : Some m ≡ Some k = rw (lt-ltb m (key x) less) at h in
                let own : m ≡ k = cc in (
                  r.0,
                  record {
                    element = inr r.1.element;
                    passes = r.1.passes;
                    own = r.1.own ∙ own;
                    first = λ y has t. elim has [ inl same ↦ omega (arith, own, less, ap key same) | inr later ↦ omega (arith, own, r.1.first y later t) ];
                  },
                )
            | inr more ↦
                let chosen : Some (key x) ≡ Some k = rw (le-ltb m (key x) more) at h in
                let own : key x ≡ k = cc in (
                  x,
                  record {
                    element = inl refl;
                    passes = e;
                    own = own;
                    first = λ y has t. elim has [ inl same ↦ omega (arith, own, ap key same) | inr later ↦ omega (arith, own, more, r.1.first y later t) ];
                  },
                )
          ]
