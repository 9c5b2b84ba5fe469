-- Lines that are appended one after the other.
use Rattle.std.proofs.Common.{◌≡◌, ℕ, List, [], ◌∷◌, ◌++◌, append_assoc, arith}
use Rattle.std.specs.List.{concat}
use Rattle.std.proofs.lemmas.List.{append-nil}

pub five-joined : (start a b c d e one two three four five : List ℕ)
    → one ≡ start ++ a → two ≡ one ++ b → three ≡ two ++ c → four ≡ three ++ d → five ≡ four ++ e
    → five ≡ start ++ concat (a ∷ b ∷ c ∷ d ∷ e ∷ [])
five-joined start a b c d e one two three four five is_one is_two is_three is_four is_five =
    grind (arith, append_assoc, append-nil, is_one, is_two, is_three, is_four, is_five)
