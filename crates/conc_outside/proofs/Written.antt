-- What a sink took in turn.
use Rattle.std.proofs.Common.{◌≡◌, ℕ, ◌-◌, List, ◌++◌, length, take, drop, Option, None, Some, sym, subst, ◌∙◌, ap, append_assoc}
use Rattle.std.proofs.lemmas.List.{take-append-drop, take_rest}
use Rattle.std.proofs.Math.Seq.{take-append_seam}
use Rattle.conc_outside.specs.Taken.{Took, TookPrefix}

-- what it took first and what it took next
pub took_more : (old mid new : Option (List ℕ)) (first next : List ℕ) → Took old mid first → Took mid new next → Took old new (first ++ next)
took_more None mid new first next p q = rw p at q
took_more (Some taken) mid new first next p q = simp (← append_assoc) (rw p at q)

-- it took what is written of the bytes, and a failure left it at that
pub took_prefix :
    (old mid new : Option (List ℕ)) (written rest bytes : List ℕ) →
    written ++ rest ≡ bytes → Took old mid written → new ≡ mid → TookPrefix old new bytes
took_prefix old mid new written rest bytes whole took kept =
    let front : take (length written) bytes ≡ written = ap (λ b. take (length written) b) (sym whole) ∙ take-append_seam written rest in
    (length written, subst (λ (b : List ℕ). Took old new b) (sym front) (kept ∙ took))

-- one piece more is written
pub written_more :
    (written rest bytes : List ℕ) (n : ℕ) →
    written ++ rest ≡ bytes → (written ++ take n rest) ++ take (length rest - n) (drop n rest) ≡ bytes
written_more written rest bytes n whole = rw take_rest (rw append_assoc (rw take-append-drop whole))
