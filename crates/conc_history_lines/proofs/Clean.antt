-- Words without a blank or an end of a line.
use Rattle.std.proofs.Common.{◌≡◌, refl, ◌∙◌, ap, ◌<◌, ◌≤◌, ◌+◌, ◌%◌, ℕ, Bool, true, false, ◌==◌, List, [], ◌∷◌, ◌++◌, arith}
use Rattle.std.specs.Prelude.{nat_lt}
use Rattle.std.specs.Fmt.{decimal}
use Rattle.std.specs.List.{All, list_all}
use Rattle.std.specs.Str.Parse.{AllDigits}
use Rattle.std.proofs.lemmas.Bool.{and_from, and_parts, lt-ltb, ltb-true, ne_eqb}
use Rattle.std.proofs.lemmas.Fmt.{decimal_is_IsNumeral}
use Rattle.std.proofs.lemmas.List.Elements.{All-append, All-cons, All-nil}
use Rattle.std.proofs.lemmas.Str.Parse.{digit_from_value}
use Rattle.conc_types.specs.declared.event.Moment.{Moment}
use Rattle.conc_types.specs.declared.event.Outcome.{Outcome}
use Rattle.conc_types.specs.declared.event.Outcome.TheVariants as outcome
use Rattle.conc_base_law.specs.Calendar.{Civil, civil_text}
use Rattle.conc_base_law.specs.Moments.{moment_text}
use Rattle.conc_base_law.specs.Text.{outcome_word, spaced}
use Rattle.conc_time.proofs.Dates.{has_civil, text_of}
use Rattle.conc_history_lines.specs.EventLines.{words_of}
use Rattle.conc_history_lines.proofs.Splits.{split_at, split_none}

abbrev pub is_clean : List ℕ → Bool
is_clean word = list_all (λ byte. nat_lt 32 byte) word

-- no byte up to the blank stands in a clean word
pub no_byte : (c : ℕ) (word : List ℕ) → c ≤ 32 → is_clean word ≡ true → All (λ byte. (byte == c) ≡ false) word
no_byte c [] low h = All-nil (λ (byte : ℕ). (byte == c) ≡ false)
no_byte c (x ∷ word) low h =
    let p = and_parts (nat_lt 32 x) (is_clean word) h in
    let above : 32 < x = ltb-true 32 x p.0 in
    All-cons (λ (byte : ℕ). (byte == c) ≡ false) x word (ne_eqb x c (λ e. omega arith)) (no_byte c word low p.1)

-- ---- lines of clean words

pub words_back : (word : List ℕ) (words : List (List ℕ)) → list_all is_clean (word ∷ words) ≡ true → words_of (spaced (word ∷ words)) ≡ word ∷ words
words_back word [] h = split_none 32 word (no_byte 32 word (omega arith) (and_parts (is_clean word) true h).0)
words_back word (next ∷ words) h =
    let p = and_parts (is_clean word) (list_all is_clean (next ∷ words)) h in
    split_at 32 (word ++ 32 ∷ spaced (next ∷ words)) word (spaced (next ∷ words)) refl (no_byte 32 word (omega arith) p.0)
    ∙ ap (λ (rest : List (List ℕ)). word ∷ rest) (words_back next words p.1)

pub no_feed : (words : List (List ℕ)) → list_all is_clean words ≡ true → All (λ byte. (byte == 10) ≡ false) (spaced words)
no_feed [] h = All-nil (λ (byte : ℕ). (byte == 10) ≡ false)
no_feed (word ∷ []) h = no_byte 10 word (omega arith) (and_parts (is_clean word) true h).0
no_feed (word ∷ next ∷ words) h =
    let p = and_parts (is_clean word) (list_all is_clean (next ∷ words)) h in
    All-append (λ (byte : ℕ). (byte == 10) ≡ false) word (32 ∷ spaced (next ∷ words)) (no_byte 10 word (omega arith) p.0)
    (All-cons (λ (byte : ℕ). (byte == 10) ≡ false) 32 (spaced (next ∷ words)) refl (no_feed (next ∷ words) p.1))

-- ---- words that are clean

pub clean_append : (a b : List ℕ) → is_clean a ≡ true → is_clean b ≡ true → is_clean (a ++ b) ≡ true
clean_append [] b h k = k
clean_append (x ∷ a) b h k =
    let p = and_parts (nat_lt 32 x) (is_clean a) h in
    and_from (nat_lt 32 x) (is_clean (a ++ b)) p.0 (clean_append a b p.1 k)

clean_digits : (ds : List ℕ) → AllDigits 10 ds → is_clean ds ≡ true
clean_digits [] h = refl
clean_digits (d ∷ ds) h =
    let k = digit_from_value d h.0 in
    and_from (nat_lt 32 d) (is_clean ds) (lt-ltb 32 d (omega arith)) (clean_digits ds h.1)

pub clean_decimal : (n : ℕ) → n < 18446744073709551616 → is_clean (decimal n) ≡ true
clean_decimal n h = clean_digits (decimal n) (decimal_is_IsNumeral n h).0.1

no_dot_digits : (ds : List ℕ) → AllDigits 10 ds → All (λ byte. (byte == 46) ≡ false) ds
no_dot_digits [] h = All-nil (λ (byte : ℕ). (byte == 46) ≡ false)
no_dot_digits (d ∷ ds) h =
    let k = digit_from_value d h.0 in
    All-cons (λ (byte : ℕ). (byte == 46) ≡ false) d ds (ne_eqb d 46 (λ e. omega arith)) (no_dot_digits ds h.1)

pub no_dot : (n : ℕ) → n < 18446744073709551616 → All (λ byte. (byte == 46) ≡ false) (decimal n)
no_dot n h = no_dot_digits (decimal n) (decimal_is_IsNumeral n h).0.1

digit_clean : (n : ℕ) → nat_lt 32 (48 + n % 10) ≡ true
digit_clean n = lt-ltb 32 (48 + n % 10) (omega arith)

clean_civil : (c : Civil) → is_clean (civil_text c) ≡ true
unfolding civil_text
clean_civil c = simp digit_clean

pub clean_moment : (t : Moment) → is_clean (moment_text t) ≡ true
clean_moment t =
    let c = has_civil t in
    ap is_clean (text_of t c.civil c.valid c.at) ∙ clean_civil c.civil

pub clean_outcome : (o : Outcome) → is_clean (outcome_word o) ≡ true
clean_outcome outcome.Normal = refl
clean_outcome outcome.Warning = refl
clean_outcome outcome.Error = refl
clean_outcome outcome.Terminated = refl
clean_outcome outcome.Cancelled = refl
