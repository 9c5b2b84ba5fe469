-- Bytes that are written into a list, from a place within it on.
use Rattle.std.proofs.Common.{◌≡◌, ℕ, ◌+◌, ◌≤◌, List, ◌++◌, length, take, drop, ap, ◌∙◌, arith}
use Rattle.std.proofs.lemmas.List.{append_assoc, drop_at, length-append, length-take-le, take_at}

-- what stands before them stays
pub take-written : (at : ℕ) (bytes old rest : List ℕ) → at ≤ length old → take at (take at old ++ bytes ++ rest) ≡ take at old
take-written at bytes old rest h =
    ap (λ xs. take at xs) (append_assoc (take at old) bytes rest) ∙ take_at (take at old) (bytes ++ rest) at (length-take-le at old h)

-- they are there
pub part-written : (at : ℕ) (bytes old rest : List ℕ) → at ≤ length old → take (length bytes) (drop at (take at old ++ bytes ++ rest)) ≡ bytes
part-written at bytes old rest h =
    ap (λ xs. take (length bytes) (drop at xs)) (append_assoc (take at old) bytes rest)
    ∙ ap (λ xs. take (length bytes) xs) (drop_at (take at old) (bytes ++ rest) at (length-take-le at old h))
    ∙ take_at bytes rest (length bytes) (omega arith)

-- and the rest stands behind them
pub drop-written : (at : ℕ) (bytes old rest : List ℕ) → at ≤ length old → drop (at + length bytes) (take at old ++ bytes ++ rest) ≡ rest
drop-written at bytes old rest h =
    drop_at (take at old ++ bytes) rest (at + length bytes) (omega (arith, length-append (take at old) bytes, length-take-le at old h))
