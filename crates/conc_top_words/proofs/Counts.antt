-- Commands that are given too few words or too many.
use Rattle.std.proofs.Common.{◌≡◌, ◌≢◌, ℕ, List, [], ◌∷◌, length, map, None, refl}
use Rattle.conc_top_words.specs.Words.{check_of, make_of, output_of}

module _ {S : Type 0} (f : S → List ℕ) where
  pub check-none : (words : List S) → length words ≢ 4 → None ≡ check_of (map f words)
  check-none [] other = refl
  check-none (a ∷ []) other = refl
  check-none (a ∷ b ∷ []) other = refl
  check-none (a ∷ b ∷ c ∷ []) other = refl
  check-none (a ∷ b ∷ c ∷ d ∷ []) other = absurd (other refl)
  check-none (a ∷ b ∷ c ∷ d ∷ e ∷ words) other = refl

  pub output-none : (words : List S) → length words ≢ 3 → None ≡ output_of (map f words)
  output-none [] other = refl
  output-none (a ∷ []) other = refl
  output-none (a ∷ b ∷ []) other = refl
  output-none (a ∷ b ∷ c ∷ []) other = absurd (other refl)
  output-none (a ∷ b ∷ c ∷ d ∷ words) other = refl

  pub make-none : (words : List S) → length words ≢ 2 → None ≡ make_of (map f words)
  make-none [] other = refl
  make-none (a ∷ []) other = refl
  make-none (a ∷ b ∷ []) other = absurd (other refl)
  make-none (a ∷ b ∷ c ∷ words) other = refl
