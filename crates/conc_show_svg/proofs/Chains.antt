-- Texts that are written piece by piece.
use Rattle.std.proofs.Common.{◌≡◌, ◌∙◌, ℕ, List, ◌++◌, ap, append_assoc}

joined_five : (start a b c d e : List ℕ) → ((start ++ a ++ b) ++ c ++ d) ++ e ≡ start ++ (a ++ b ++ c ++ d ++ e)
joined_five start a b c d e = simp append_assoc

pub two_two_one : (start a b c d e o p q : List ℕ) → o ≡ start ++ a ++ b → p ≡ o ++ c ++ d → q ≡ p ++ e → q ≡ start ++ (a ++ b ++ c ++ d ++ e)
two_two_one start a b c d e o p q is_o is_p is_q =
    is_q ∙ ap (λ (xs : List ℕ). xs ++ e) (is_p ∙ ap (λ (xs : List ℕ). xs ++ c ++ d) is_o) ∙ joined_five start a b c d e

joined_four : (start a b c d : List ℕ) → ((start ++ a) ++ b ++ c) ++ d ≡ start ++ (a ++ b ++ c ++ d)
joined_four start a b c d = simp append_assoc

pub one_two_one : (start a b c d o p q : List ℕ) → o ≡ start ++ a → p ≡ o ++ b ++ c → q ≡ p ++ d → q ≡ start ++ (a ++ b ++ c ++ d)
one_two_one start a b c d o p q is_o is_p is_q =
    is_q ∙ ap (λ (xs : List ℕ). xs ++ d) (is_p ∙ ap (λ (xs : List ℕ). xs ++ b ++ c) is_o) ∙ joined_four start a b c d

joined_ones : (start a b c d : List ℕ) → (((start ++ a) ++ b) ++ c) ++ d ≡ start ++ (a ++ b ++ c ++ d)
joined_ones start a b c d = simp append_assoc

pub four_ones : (start a b c d o p q r : List ℕ) → o ≡ start ++ a → p ≡ o ++ b → q ≡ p ++ c → r ≡ q ++ d → r ≡ start ++ (a ++ b ++ c ++ d)
four_ones start a b c d o p q r is_o is_p is_q is_r =
    is_r ∙ ap (λ (xs : List ℕ). xs ++ d) (is_q ∙ ap (λ (xs : List ℕ). xs ++ c) (is_p ∙ ap (λ (xs : List ℕ). xs ++ b) is_o)) ∙ joined_ones start a b c d

joined_three : (start a b c : List ℕ) → ((start ++ a) ++ b) ++ c ≡ start ++ (a ++ b ++ c)
joined_three start a b c = simp append_assoc

pub three_ones : (start a b c o p q : List ℕ) → o ≡ start ++ a → p ≡ o ++ b → q ≡ p ++ c → q ≡ start ++ (a ++ b ++ c)
three_ones start a b c o p q is_o is_p is_q =
    is_q ∙ ap (λ (xs : List ℕ). xs ++ c) (is_p ∙ ap (λ (xs : List ℕ). xs ++ b) is_o) ∙ joined_three start a b c

pub five_ones : (start a b c d e o p q r s : List ℕ) → o ≡ start ++ a → p ≡ o ++ b → q ≡ p ++ c → r ≡ q ++ d → s ≡ r ++ e
    → s ≡ start ++ (a ++ b ++ c ++ d ++ e)
five_ones start a b c d e o p q r s is_o is_p is_q is_r is_s =
    is_s ∙ ap (λ (xs : List ℕ). xs ++ e) (four_ones start a b c d o p q r is_o is_p is_q is_r) ∙ append_assoc start (a ++ b ++ c ++ d) e

pub six_ones : (start a b c d e f o p q r s t : List ℕ) → o ≡ start ++ a → p ≡ o ++ b → q ≡ p ++ c → r ≡ q ++ d → s ≡ r ++ e → t ≡ s ++ f
    → t ≡ start ++ (a ++ b ++ c ++ d ++ e ++ f)
six_ones start a b c d e f o p q r s t is_o is_p is_q is_r is_s is_t =
    is_t ∙ ap (λ (xs : List ℕ). xs ++ f) (five_ones start a b c d e o p q r s is_o is_p is_q is_r is_s) ∙ append_assoc start (a ++ b ++ c ++ d ++ e) f
