-- Slots without a key.
use Rattle.std.proofs.Common.{◌≡◌, ℕ, zero, suc, ◌+◌, ◌*◌, ◌++◌, length, drop, [], ◌∷◌, None, refl, ap, arith}
use Rattle.conc_event_queue.specs.Least.{vacant}
use Rattle.conc_event_queue.specs.Tournament.{IsTournament, node}

-- one more slot
pub vacant_push : (n : ℕ) → vacant n ++ None ∷ [] ≡ vacant (suc n)
unfolding vacant
vacant_push zero = refl
vacant_push (suc n) = ap (λ l. None ∷ l) (vacant_push n)

-- how many there are
length-vacant : (n : ℕ) → length (vacant n) ≡ n
unfolding vacant
length-vacant zero = refl
length-vacant (suc n) = ap (λ m. suc m) (length-vacant n)

-- none has a key
node-vacant : (n i : ℕ) → node (vacant n) i ≡ None
unfolding vacant
node-vacant zero i = refl
node-vacant (suc n) zero = refl
node-vacant (suc n) (suc i) = node-vacant n i

-- the last ones
drop-vacant : (n m k : ℕ) → m ≡ n + k → drop n (vacant m) ≡ vacant k
unfolding vacant
drop-vacant zero m k e = let same : m ≡ k = omega arith in ap vacant same
drop-vacant (suc n) zero k e = absurd (omega arith)
drop-vacant (suc n) (suc m) k e = drop-vacant n m k (omega arith)

-- the slots among them
pub vacant_slots : (slots : ℕ) → drop slots (vacant (slots * 2)) ≡ vacant slots
vacant_slots slots = drop-vacant slots (slots * 2) slots (omega arith)

-- nodes without a key are a tournament
pub vacant_tournament : (slots : ℕ) → IsTournament slots (vacant (slots * 2))
vacant_tournament slots = record {
  size = length-vacant (slots * 2);
  inner = λ i pos within.
      let own : node (vacant (slots * 2)) i ≡ None = node-vacant (slots * 2) i in
      let left : node (vacant (slots * 2)) (i * 2) ≡ None = node-vacant (slots * 2) (i * 2) in
      let right : node (vacant (slots * 2)) (i * 2 + 1) ≡ None = node-vacant (slots * 2) (i * 2 + 1) in
      rw (own, left, right);
}
