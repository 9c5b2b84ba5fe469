-- Lines, one more at a time.
use Rattle.std.proofs.Common.{◌≡◌, ◌<◌, ◌+◌, ◌++◌, ◌∷◌, [], ℕ, List, length, get_or, map, take, sym, ◌∙◌, ap, arith, append_assoc}
use Rattle.std.proofs.lemmas.Grind.{flat_map-append}
use Rattle.std.proofs.lemmas.List.{append-nil, length-map, length-take-le, map-append, take_more}
use Rattle.conc_view.specs.declared.watcher.Snapshot.{Snapshot}
use Rattle.conc_run_watch.specs.Lines.{line_of, lines_of, watch_text}

lines_push : (watcher : ℕ) (kept : List Snapshot) (s : Snapshot) → lines_of watcher (kept ++ s ∷ []) ≡ lines_of watcher kept ++ line_of watcher s
lines_push watcher kept s =
    flat_map-append (line_of watcher) kept (s ∷ []) ∙ ap (λ (bytes : List ℕ). lines_of watcher kept ++ bytes) (append-nil (line_of watcher s))

-- a loop over what one watcher kept
pub lines_more : (watcher : ℕ) (start before after : List ℕ) (kept : List Snapshot) (i : ℕ) (d : Snapshot) → i < length kept
    → before ≡ start ++ lines_of watcher (take i kept) → after ≡ before ++ line_of watcher (get_or kept i d) → after ≡ start ++ lines_of watcher (take (i + 1) kept)
lines_more watcher start before after kept i d inside so_far now =
    let s = get_or kept i d in
    let all : lines_of watcher (take (i + 1) kept) ≡ lines_of watcher (take i kept) ++ line_of watcher s =
    ap (lines_of watcher) (take_more kept i d inside) ∙ lines_push watcher (take i kept) s in
    now ∙ ap (λ (bytes : List ℕ). bytes ++ line_of watcher s) so_far ∙ append_assoc start (lines_of watcher (take i kept)) (line_of watcher s)
    ∙ ap (λ (bytes : List ℕ). start ++ bytes) (sym all)

text_push : (first : ℕ) (all : List (List Snapshot)) (kept : List Snapshot)
    → watch_text first (all ++ kept ∷ []) ≡ watch_text first all ++ lines_of (first + length all) kept
text_push first [] kept =
    let number : first ≡ first + 0 = omega arith in append-nil (lines_of first kept) ∙ ap (λ (n : ℕ). lines_of n kept) number
text_push first (x ∷ xs) kept =
    let number : first + 1 + length xs ≡ first + length (x ∷ xs) = omega arith in
    ap (λ (bytes : List ℕ). lines_of first x ++ bytes) (text_push (first + 1) xs kept)
    ∙ sym (append_assoc (lines_of first x) (watch_text (first + 1) xs) (lines_of (first + 1 + length xs) kept))
    ∙ ap (λ (n : ℕ). (lines_of first x ++ watch_text (first + 1) xs) ++ lines_of n kept) number

-- a loop over what the watchers kept
pub text_more : {X : Type 0} (f : X → List Snapshot) (start before after : List ℕ) (all : List X) (i : ℕ) (d : X) (shown : List Snapshot) → i < length all
    → shown ≡ f (get_or all i d) → before ≡ start ++ watch_text 1 (map f (take i all)) → after ≡ before ++ lines_of (i + 1) shown
    → after ≡ start ++ watch_text 1 (map f (take (i + 1) all))
text_more {X} f start before after all i d shown inside is so_far now =
    let done = map f (take i all) in
    let number : 1 + length done ≡ i + 1 = omega (arith, length-map (take i all) f, length-take-le i all (omega (arith, inside))) in
    let more : watch_text 1 (map f (take (i + 1) all)) ≡ watch_text 1 done ++ lines_of (i + 1) shown =
    ap (λ (xs : List X). watch_text 1 (map f xs)) (take_more all i d inside) ∙ ap (watch_text 1) (map-append f (take i all) (get_or all i d ∷ []))
    ∙ text_push 1 done (f (get_or all i d)) ∙ ap (λ (n : ℕ). watch_text 1 done ++ lines_of n (f (get_or all i d))) number
    ∙ ap (λ (kept : List Snapshot). watch_text 1 done ++ lines_of (i + 1) kept) (sym is) in
    now ∙ ap (λ (bytes : List ℕ). bytes ++ lines_of (i + 1) shown) so_far ∙ append_assoc start (watch_text 1 done) (lines_of (i + 1) shown)
    ∙ ap (λ (bytes : List ℕ). start ++ bytes) (sym more)
