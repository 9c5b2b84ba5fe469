-- Lines, in the parts in which they are written.
use Rattle.std.proofs.Common.{◌≡◌, ◌∙◌, List, ℕ, [], ◌∷◌, ◌++◌, append_assoc, ap, arith, codes, sym}
use Rattle.conc_make.specs.Files.{line, moment_word}

pub row-parts : (key value : List ℕ) → line ((107 ∷ key) ∷ value ∷ []) ≡ 107 ∷ (key ++ 44 ∷ (value ++ 10 ∷ []))
row-parts key value = grind (arith, append_assoc)

-- a row of the table
pub row-line : (key value start one two three : List ℕ)
    → one ≡ start ++ (codes "k" ++ key)
    → two ≡ one ++ (codes "," ++ value)
    → three ≡ two ++ codes "\n"
    → three ≡ start ++ line ((codes "k" ++ key) ∷ value ∷ [])
row-line key value start one two three is_one is_two is_three =
    let all : three ≡ start ++ 107 ∷ (key ++ 44 ∷ (value ++ 10 ∷ [])) = grind (arith, append_assoc, is_one, is_two, is_three) in
    all ∙ ap (λ l. start ++ l) (sym (row-parts key value))

pub submission-parts : (moment word item user priority domain : List ℕ)
    → line (moment ∷ word ∷ item ∷ (117 ∷ user) ∷ priority ∷ [] ∷ (100 ∷ domain) ∷ [] ∷ [])
    ≡ moment ++ 44 ∷ (word ++ 44 ∷ (item ++ 44 ∷ 117 ∷ (user ++ 44 ∷ (priority ++ 44 ∷ 44 ∷ 100 ∷ (domain ++ 44 ∷ 10 ∷ [])))))
submission-parts moment word item user priority domain = grind (arith, append_assoc)

parts-joined : (head item user priority domain start one two three four five six : List ℕ)
    → one ≡ start ++ head
    → two ≡ one ++ item
    → three ≡ two ++ (44 ∷ 117 ∷ user)
    → four ≡ three ++ (44 ∷ priority)
    → five ≡ four ++ (44 ∷ 44 ∷ 100 ∷ domain)
    → six ≡ five ++ (44 ∷ 10 ∷ [])
    → six ≡ start ++ (head ++ (item ++ 44 ∷ 117 ∷ (user ++ 44 ∷ (priority ++ 44 ∷ 44 ∷ 100 ∷ (domain ++ 44 ∷ 10 ∷ [])))))
parts-joined head item user priority domain start one two three four five six is_one is_two is_three is_four is_five is_six =
    grind (arith, append_assoc, is_one, is_two, is_three, is_four, is_five, is_six)

-- a submission
pub submission-line : (item user priority domain start one two three four five six : List ℕ)
    → one ≡ start ++ codes "2025-01-01T00:00:00,submit,"
    → two ≡ one ++ item
    → three ≡ two ++ (codes ",u" ++ user)
    → four ≡ three ++ (codes "," ++ priority)
    → five ≡ four ++ (codes ",,d" ++ domain)
    → six ≡ five ++ codes ",\n"
    → six ≡ start ++ line (moment_word ∷ codes "submit" ∷ item ∷ (codes "u" ++ user) ∷ priority ∷ [] ∷ (codes "d" ++ domain) ∷ [] ∷ [])
submission-line item user priority domain start one two three four five six is_one is_two is_three is_four is_five is_six =
    parts-joined (codes "2025-01-01T00:00:00,submit,") item user priority domain start one two three four five six is_one is_two is_three is_four is_five is_six
    ∙ ap (λ l. start ++ l) (sym (submission-parts moment_word (codes "submit") item user priority domain))
