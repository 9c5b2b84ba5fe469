-- The first line of a text.
use Rattle.std.proofs.Common.{◌≡◌, refl, ap, ℕ, suc, false, List, [], ◌∷◌, ◌++◌, arith}
use Rattle.std.specs.Prelude.{◌==◌, Option, None, Some}
use Rattle.std.specs.List.{All}
use Rattle.std.specs.Option.{IfNone, IfSome, MatchOption}
use denote.Ref.{Bor}
use Rattle.conc_history_lines.specs.History.{onto_first, whole_lines}

later : (x : ℕ) (xs : List ℕ) → All (λ byte. (byte == 10) ≡ false) (x ∷ xs) → All (λ byte. (byte == 10) ≡ false) xs
later x xs h = λ k d l. h (suc k) d (omega arith)

here : (x : ℕ) (xs : List ℕ) → All (λ byte. (byte == 10) ≡ false) (x ∷ xs) → (x == 10) ≡ false
here x xs h = h 0 0 (omega arith)

-- a line before its LF is the first line
pub lines_before : (line rest : List ℕ) → All (λ byte. (byte == 10) ≡ false) line → whole_lines (line ++ 10 ∷ rest) ≡ line ∷ whole_lines rest
lines_before [] rest h = refl
lines_before (x ∷ line) rest h = rw (here x line h) (ap (onto_first x) (lines_before line rest (later x line h)))

-- a text without LF has no line
pub lines_none : (bytes : List ℕ) → All (λ byte. (byte == 10) ≡ false) bytes → whole_lines bytes ≡ []
lines_none [] h = refl
lines_none (x ∷ bytes) h = rw (here x bytes h) (ap (onto_first x) (lines_none bytes (later x bytes h)))

-- the same of the two parts of a text
pub first_line : (bytes : List ℕ) (r : Option (Bor (List ℕ) × Bor (List ℕ)))
    → IfNone r (All (λ other. (other == 10) ≡ false) bytes) → IfSome r (λ p. bytes ≡ p.0.now ++ 10 ∷ p.1.now) → IfSome r (λ p. All (λ other. (other == 10) ≡ false) p.0.now)
    → MatchOption r (whole_lines bytes ≡ []) (λ p. whole_lines bytes ≡ p.0.now ∷ whole_lines p.1.now)
first_line bytes None lacks parts first = lines_none bytes lacks
first_line bytes (Some p) lacks parts first = rw parts (lines_before p.0.now p.1.now first)
