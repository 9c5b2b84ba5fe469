-- The first word of a line.
use Rattle.std.proofs.Common.{◌≡◌, refl, sym, ap, ℕ, Bool, cond, List, length, take, true, false, ◌≤◌}
use Rattle.std.specs.Prelude.{None, Some, nat_lt, position}
use Rattle.std.specs.List.{before_first, position_or_len}
use Rattle.std.proofs.lemmas.Bool.{ltb-false}
use Rattle.std.proofs.lemmas.List.{take_all}
use Rattle.std.proofs.lemmas.Option.{cond_some}

pub word_some : {X : Type 0} (p : X → Bool) (xs : List X) (k : ℕ) → Some k ≡ position p xs → take k xs ≡ before_first p xs
word_some p xs k e =
    let q = cond_some (nat_lt (position_or_len p xs) (length xs)) (position_or_len p xs) k (sym e) in ap (λ (n : ℕ). take n xs) (sym q.1)

past_end : (n most : ℕ) → None ≡ cond (nat_lt n most) (Some n) None → most ≤ n
past_end n most e = elim (nat_lt n most) as (λ b. nat_lt n most ≡ b → None ≡ cond b (Some n) None → most ≤ n) [ true ↦ (λ h k. absurd cc) | false ↦ (λ h k. ltb-false n most h) ] refl e

pub word_none : {X : Type 0} (p : X → Bool) (xs : List X) → None ≡ position p xs → xs ≡ before_first p xs
word_none p xs e = sym (take_all (position_or_len p xs) xs (past_end (position_or_len p xs) (length xs) e))
