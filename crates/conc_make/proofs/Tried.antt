-- What holds of each word that a draw can give, tried word by word.
use Rattle.std.proofs.Common.{◌≡◌, ◌≤◌, ◌<◌, ◌+◌, ℕ, zero, suc, Bool, true, ◌&&◌, List, ◌∷◌, Option, Some, None, ap, arith, inl, inr, length, refl, subst}
use Rattle.std.specs.Prelude.{◌==◌, nat_le}
use Rattle.std.specs.Fmt.{decimal, digits}
use Rattle.std.specs.List.{list_all, range_with_len}
use Rattle.std.specs.Str.{chars, is_utf8}
use Rattle.std.proofs.Math.Nat.{mod-lt}
use Rattle.std.proofs.lemmas.Bool.{and_parts, cases_Bool, eqb-true, leb-true}
use Rattle.std.proofs.lemmas.Bool.Decides.{nat_tests}
use lib.Utf8.{encode}
use Rattle.conc_types.specs.Texts.{is_name}
use Rattle.conc_types.specs.Words.{some_and}
use Rattle.conc_script.specs.Script.{priority_of}
use Rattle.conc_make.specs.Draws.{drawn}
use Rattle.conc_make.specs.Files.{item_word}
use Rattle.conc_make.proofs.ReadBack.{is_plain}

pub drawn-below : (n x : ℕ) → 0 < n → drawn n x < n
unfolding drawn
drawn-below n x some = mod-lt _ some

-- what was tried of each number is so of one
pub tried : (test : ℕ → Bool) (a n i : ℕ) → list_all test (range_with_len a n) ≡ true → a ≤ i → i < a + n → test i ≡ true
tried test a zero i all low high = absurd (omega arith)
tried test a (suc n) i all low high = elim (cases_Bool (a == i)) [
  | inl same ↦ subst (λ k. test k ≡ true) (eqb-true a i same) (and_parts _ _ all).0
  | inr other ↦ tried test (a + 1) n i (and_parts _ _ all).1 (grind (arith, nat_tests)) (omega arith)
]

-- the word has no mark of the format, is UTF-8 and is short
abbrev pub is_word : ℕ → List ℕ → Bool
is_word most word = is_plain word && (is_utf8 word && nat_le (length word) most)

pub record IsWord (most : ℕ) (word : List ℕ) : Type 0 where
  pub plain : is_plain word ≡ true
  pub utf8 : is_utf8 word ≡ true
  pub short : length word ≤ most

word_so : (most : ℕ) (word : List ℕ) → is_word most word ≡ true → IsWord most word
word_so most word e =
    let p = and_parts _ _ e in
    let q = and_parts _ _ p.1 in
    record { plain = p.0; utf8 = q.0; short = leb-true _ _ q.1 }

-- ---- the words

all-values : list_all (λ n. is_word 3 (decimal n)) (range_with_len 0 1000) ≡ true
unfolding digits is_utf8 chars encode
all-values = refl

pub value-word : (n : ℕ) → n < 1000 → IsWord 3 (decimal n)
value-word n below = word_so 3 (decimal n) (tried (λ k. is_word 3 (decimal k)) 0 1000 n all-values (omega arith) (omega arith))

all-items : list_all (λ n. is_word 2 (item_word n)) (range_with_len 0 9) ≡ true
unfolding digits is_utf8 chars encode
all-items = refl

pub item-is_word : (n : ℕ) → n < 9 → IsWord 2 (item_word n)
item-is_word n below = word_so 2 (item_word n) (tried (λ k. is_word 2 (item_word k)) 0 9 n all-items (omega arith) (omega arith))

-- a letter with a number: that of a row's key, of a user or of a domain
abbrev lettered : ℕ → ℕ → Bool
lettered letter n = is_word 2 (letter ∷ decimal n) && is_name (letter ∷ decimal n)

all-lettered : (list_all (lettered 107) (range_with_len 0 5) ≡ true) × ((list_all (lettered 117) (range_with_len 0 3) ≡ true) × (list_all (lettered 100) (range_with_len 0 4) ≡ true))
unfolding digits is_utf8 chars encode
all-lettered = (refl, (refl, refl))

pub record IsLettered (text : List ℕ) : Type 0 where
  pub word : IsWord 2 text
  pub name : is_name text ≡ true

lettered_so : (letter n : ℕ) → lettered letter n ≡ true → IsLettered (letter ∷ decimal n)
lettered_so letter n e = let p = and_parts _ _ e in record { word = word_so 2 _ p.0; name = p.1 }

pub key-word : (n : ℕ) → n < 5 → IsLettered (107 ∷ decimal n)
key-word n below = lettered_so 107 n (tried (lettered 107) 0 5 n all-lettered.0 (omega arith) (omega arith))

pub user-word : (n : ℕ) → n < 3 → IsLettered (117 ∷ decimal n)
user-word n below = lettered_so 117 n (tried (lettered 117) 0 3 n all-lettered.1.0 (omega arith) (omega arith))

pub domain-word : (n : ℕ) → n < 4 → IsLettered (100 ∷ decimal n)
domain-word n below = lettered_so 100 n (tried (lettered 100) 0 4 n all-lettered.1.1 (omega arith) (omega arith))

-- a priority
abbrev ranked : ℕ → Bool
ranked n = is_word 2 (decimal (1 + n)) && some_and (λ p. p == 1 + n) (priority_of (decimal (1 + n)))

all-ranked : list_all ranked (range_with_len 0 99) ≡ true
unfolding digits is_utf8 chars encode priority_of
all-ranked = refl

some_so : (o : Option ℕ) (v : ℕ) → some_and (λ p. p == v) o ≡ true → o ≡ Some v
some_so None v e = absurd (cc e)
some_so (Some w) v e = ap (λ k. Some k) (eqb-true w v e)

pub priority-word : (n : ℕ) → n < 99 → IsWord 2 (decimal (1 + n)) × (priority_of (decimal (1 + n)) ≡ Some (1 + n))
priority-word n below =
    let p = and_parts _ _ (tried ranked 0 99 n all-ranked (omega arith) (omega arith)) in
    (word_so 2 _ p.0, some_so _ _ p.1)
