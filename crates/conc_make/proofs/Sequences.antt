-- Records that are made one after the other, of the numbers that follow a number.
use Rattle.std.proofs.Common.{◌≡◌, ◌∙◌, ◌≤◌, ℕ, zero, suc, ◌+◌, ◌*◌, List, [], ◌∷◌, ◌++◌, append_assoc, ap, arith, map, subst, sym}
use Rattle.std.specs.List.{concat}
use Rattle.std.proofs.lemmas.List.{append-nil, map-append}
use Rattle.std.proofs.lemmas.List.Folds.{concat-append}
use Rattle.std.proofs.lemmas.List.FromFn.{map-range_with_len_more}
use Rattle.conc_make.specs.Draws.{after, next}
use Rattle.conc_make.specs.Files.{line, made, text_of}

pub after-add : (m n x : ℕ) → after m (after n x) ≡ after (m + n) x
unfolding after
after-add zero n x =
    let same : n ≡ 0 + n = omega arith in
    ap (λ k. after k x) same
after-add (suc m) n x =
    let same : suc (m + n) ≡ suc m + n = omega arith in
    ap next (after-add m n x) ∙ ap (λ k. after k x) same

-- the numbers go on by so many draws at a time
pub after-more : (draws n x before now : ℕ) → before ≡ after (draws * n) x → now ≡ after draws before → now ≡ after (draws * (n + 1)) x
after-more draws n x before now was is =
    let same : draws + draws * n ≡ draws * (n + 1) = omega arith in
    is ∙ ap (after draws) was ∙ after-add draws (draws * n) x ∙ ap (λ k. after k x) same

made-more : (record_at : ℕ → List (List ℕ)) (draws n x : ℕ)
    → made record_at draws (n + 1) x ≡ made record_at draws n x ++ record_at (after (draws * n) x) ∷ []
unfolding made
made-more record_at draws n x = map-range_with_len_more (λ i. record_at (after (draws * i) x)) 0 n n (omega arith)

pub text_of-more : (records : List (List (List ℕ))) (one : List (List ℕ)) → text_of (records ++ one ∷ []) ≡ text_of records ++ line one
unfolding text_of
text_of-more records one =
    ap concat (map-append line records (one ∷ []))
    ∙ concat-append (map line records) (line one ∷ [])
    ∙ ap (λ ys. concat (map line records) ++ ys) (append-nil (line one))

-- one more record of a text with a header
pub put-more : (head : List (List ℕ)) (record_at : ℕ → List (List ℕ)) (draws n x number : ℕ) (start before now : List ℕ)
    → number ≡ after (draws * n) x
    → before ≡ start ++ text_of (head ∷ made record_at draws n x)
    → now ≡ before ++ line (record_at number)
    → now ≡ start ++ text_of (head ∷ made record_at draws (n + 1) x)
put-more head record_at draws n x number start before now was so_far is =
    let more : text_of (head ∷ made record_at draws (n + 1) x) ≡ text_of (head ∷ made record_at draws n x) ++ line (record_at number) =
    ap (λ rs. text_of (head ∷ rs)) (made-more record_at draws n x)
    ∙ text_of-more (head ∷ made record_at draws n x) (record_at (after (draws * n) x))
    ∙ ap (λ k. text_of (head ∷ made record_at draws n x) ++ line (record_at k)) (sym was) in
    is ∙ ap (λ ys. ys ++ line (record_at number)) so_far
    ∙ append_assoc start (text_of (head ∷ made record_at draws n x)) (line (record_at number))
    ∙ ap (λ ys. start ++ ys) (sym more)

-- the count that a loop has come to is the one that it goes up to
pub at_end : (P : ℕ → Type 0) (n m : ℕ) → n ≤ m → m ≤ n → P n → P m
at_end P n m up down p =
    let same : n ≡ m = omega arith in
    subst P same p
