-- The recursion over lines finds the first that is wrong, and none only where all are values.
use Rattle.std.proofs.Common.{◌≡◌, ℕ, ◌+◌, List, [], ◌∷◌, map, Option, None, Some, Result, Ok, Err, IfSome, IsNone, refl, ap, arith}
use Rattle.std.proofs.lemmas.Bool.{true≢false}
use Rattle.conc_types.specs.declared.kind.RefusalKind.{RefusalKind}
use Rattle.conc_data_fields.specs.Arrays.{first_wrong, goods}
use Rattle.conc_data_fields.specs.Faults.{IsFirstWrong}

one_later : {A : Type 0} (line : ℕ) (a : A) (rest : List (Result A RefusalKind)) (wrong : ℕ × RefusalKind) → IsFirstWrong (line + 1) rest wrong → IsFirstWrong line (Ok a ∷ rest) wrong
one_later line a rest wrong w =
    let at = w.numbered in
    record { before = a ∷ w.before; after = w.after; stands = ap (λ later. Ok a ∷ later) w.stands; numbered = omega arith }

all_later : {A : Type 0} (line : ℕ) (a : A) (rest : List (Result A RefusalKind)) (found : Option (ℕ × RefusalKind)) → IfSome found (IsFirstWrong (line + 1) rest) → IfSome found (IsFirstWrong line (Ok a ∷ rest))
all_later line a rest None h = h
all_later line a rest (Some wrong) h = one_later line a rest wrong h

pub first_wrong-some : {A : Type 0} (line : ℕ) (all : List (Result A RefusalKind)) → IfSome (first_wrong line all) (IsFirstWrong line all)
unfolding first_wrong
first_wrong-some line [] = tt
first_wrong-some line (Ok a ∷ rest) = all_later line a rest (first_wrong (line + 1) rest) (first_wrong-some (line + 1) rest)
first_wrong-some line (Err k ∷ rest) = record { before = []; after = rest; stands = refl; numbered = omega arith }

pub first_wrong-none : {A : Type 0} (line : ℕ) (all : List (Result A RefusalKind)) → IsNone (first_wrong line all) → all ≡ map Ok (goods all)
unfolding first_wrong goods
first_wrong-none line [] h = refl
first_wrong-none line (Ok a ∷ rest) h = ap (λ later. Ok a ∷ later) (first_wrong-none (line + 1) rest h)
first_wrong-none line (Err k ∷ rest) h = absurd (true≢false h)
