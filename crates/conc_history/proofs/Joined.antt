-- Texts joined, one more at a time.
use Rattle.std.proofs.Common.{◌≡◌, ◌∙◌, sym, ap, List, ℕ, ◌+◌, ◌<◌, [], ◌∷◌, ◌++◌, append_assoc, get_or, length, map, take}
use Rattle.std.specs.List.{concat}
use Rattle.std.proofs.lemmas.Grind.{take_at_read}
use Rattle.std.proofs.lemmas.List.{append-nil, map-append}
use Rattle.std.proofs.lemmas.List.Folds.{concat-append}

joined_push : {X : Type 0} (f : X → List ℕ) (xs : List X) (x : X) → concat (map f (xs ++ x ∷ [])) ≡ concat (map f xs) ++ f x
joined_push f xs x =
    ap concat (map-append f xs (x ∷ [])) ∙ (concat-append (map f xs) (f x ∷ []) ∙ ap (λ ys. concat (map f xs) ++ ys) (append-nil (f x)))

-- a loop over xs that appends the text of each
pub joined_more : {X : Type 0} (f : X → List ℕ) (start before after : List ℕ) (xs : List X) (i : ℕ) (x : X)
    → i < length xs
    → x ≡ get_or xs i x
    → before ≡ start ++ concat (map f (take i xs))
    → after ≡ before ++ f x
    → after ≡ start ++ concat (map f (take (i + 1) xs))
joined_more f start before after xs i x lt is so_far now =
    let cut = (take_at_read xs i x lt).1 in
    let all = ap (λ ys. concat (map f ys)) cut ∙ joined_push f (take i xs) (get_or xs i x) ∙ ap (λ y. concat (map f (take i xs)) ++ f y) (sym is) in
    now ∙ ap (λ ys. ys ++ f x) so_far ∙ append_assoc start (concat (map f (take i xs))) (f x) ∙ ap (λ ys. start ++ ys) (sym all)
