-- Sums over the numbers below a count.
use Rattle.std.proofs.Common.{◌≡◌, ℕ, zero, suc, ◌+◌, ◌<◌, ◌≢◌, refl, ap, arith}
use mathlib.Core.Logic.{dite}
use native.Mathlib.Decide.{ℕ_discrete}
use Rattle.conc_run_progress.specs.Measure.{sum_below}

-- two functions that agree below the count have one sum
pub sum-same : (count : ℕ) (f g : ℕ → ℕ) → ((i : ℕ) → i < count → f i ≡ g i) → sum_below count f ≡ sum_below count g
sum-same zero f g same = refl
sum-same (suc count) f g same =
    let before : sum_below count f ≡ sum_below count g = sum-same count f g (λ i near. same i (omega (arith, near))) in
    let last : f count ≡ g count = same count (omega arith) in
    let all : sum_below count f + f count ≡ sum_below count g + g count = omega (arith, before, last) in
    all

-- the sums of two functions that agree but at k differ as the functions do there
pub sum-one : (count : ℕ) (f g : ℕ → ℕ) (k : ℕ) → k < count → ((i : ℕ) → i ≢ k → f i ≡ g i) → sum_below count f + g k ≡ sum_below count g + f k
sum-one zero f g k near same = absurd (omega (arith, near))
sum-one (suc count) f g k near same = dite (ℕ_discrete count k)
    (λ here.
    let before : sum_below count f ≡ sum_below count g = sum-same count f g (λ i below. same i (λ e. omega (arith, e, below, here))) in
    let first : f count ≡ f k = ap f here in
    let second : g count ≡ g k = ap g here in
    let all : sum_below count f + f count + g k ≡ sum_below count g + g count + f k = omega (arith, before, first, second) in
    all)
    (λ other.
    let before : sum_below count f + g k ≡ sum_below count g + f k = sum-one count f g k (omega (arith, near, other)) same in
    let last : f count ≡ g count = same count other in
    let all : sum_below count f + f count + g k ≡ sum_below count g + g count + f k = omega (arith, before, last) in
    all)

-- the same, where the sum and what is added to it are called otherwise
pub balance : (a a' b o o' n n' : ℕ) → a + o ≡ b + n → a' ≡ a → o ≡ o' → n ≡ n' → a' + o' ≡ b + n'
balance a a' b o o' n n' sum same old new = omega (arith, sum, same, old, new)
