-- Elements with their numbers, and with their places.
use Rattle.std.proofs.Common.{◌≡◌, ℕ, zero, suc, ◌+◌, List, [], ◌∷◌, Some, sym, ◌∙◌, ap, inl, inr, arith}
use Rattle.std.specs.Prelude.{slice_get}
use Rattle.std.specs.List.{enumerate_from}
use Rattle.conc_types.specs.Words.{numbered}
use Rattle.conc_base_law.specs.Words.{Has}
use Rattle.conc_base_law.proofs.Numbering.{numbered-at}

-- an element with its number stands at the place that the number says
enumerated : {T : Type 0} (n : ℕ) (xs : List T) (x : ℕ × T) → Has (enumerate_from n xs) x
    → (k : ℕ) × (slice_get (enumerate_from n xs) k ≡ Some x) × (x.0 ≡ n + k)
enumerated n [] x h = absurd h
enumerated n (y ∷ ys) x h = elim h [
  | inl same ↦ (zero, ap (λ z. Some z) (sym same), ap (λ z. z.0) same ∙ omega arith)
  | inr later ↦
      let r : (k : ℕ) × (slice_get (enumerate_from (n + 1) ys) k ≡ Some x) × (x.0 ≡ n + 1 + k) = enumerated (n + 1) ys x later in
      (suc r.0, r.1, omega (arith, r.2))
]

-- so it is found by its number
pub enumerated-numbered : {T : Type 0} (xs : List T) (x : ℕ × T) → Has (enumerate_from 1 xs) x → numbered (enumerate_from 1 xs) x.0 ≡ Some x
enumerated-numbered xs x h =
    let p : (k : ℕ) × (slice_get (enumerate_from 1 xs) k ≡ Some x) × (x.0 ≡ 1 + k) = enumerated 1 xs x h in
    numbered-at (enumerate_from 1 xs) x.0 p.0 p.2 ∙ p.1

-- an element with its place stands there
pub enumerate-get : {T : Type 0} (n : ℕ) (xs : List T) (k : ℕ) (x : T) → slice_get xs k ≡ Some x
    → (m : ℕ) × (m ≡ n + k) × (slice_get (enumerate_from n xs) k ≡ Some (m, x))
enumerate-get n [] k x h = cc
enumerate-get n (y ∷ ys) zero x h = let e : y ≡ x = cc in (n, omega arith, ap (λ z. Some (n, z)) e)
enumerate-get n (y ∷ ys) (suc k) x h =
    let p : (m : ℕ) × (m ≡ n + 1 + k) × (slice_get (enumerate_from (n + 1) ys) k ≡ Some (m, x)) = enumerate-get (n + 1) ys k x h in
    (p.0, omega (arith, p.1), p.2)

-- what a number finds stands at the place before it
pub numbered-get : {T : Type 0} (xs : List T) (n : ℕ) (x : T) → numbered xs n ≡ Some x → (k : ℕ) × (n ≡ 1 + k) × (slice_get xs k ≡ Some x)
numbered-get xs zero x h = cc
numbered-get xs (suc k) x h = (k, omega arith, sym (numbered-at xs (suc k) k (omega arith)) ∙ h)
