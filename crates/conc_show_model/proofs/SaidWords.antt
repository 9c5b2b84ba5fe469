-- What words say, one by one.
use Rattle.std.proofs.Common.{◌≡◌, refl, sym, ◌∙◌, ap, ℕ, true, false, List, [], ◌∷◌, map}
use Rattle.std.specs.Prelude.{Option, None, Some, is_some}
use Rattle.conc_show_model.specs.Grammar.{Meant, after_word, said_from}

step : (m next : Meant) (word : List ℕ) (words : List (List ℕ)) → Some next ≡ after_word m word → said_from m (word ∷ words) ≡ said_from next words
unfolding said_from
step m next word words h = rw (← h) refl

wrong : (m : Meant) (word : List ℕ) (words : List (List ℕ)) → None ≡ after_word m word → said_from m (word ∷ words) ≡ None
unfolding said_from
wrong m word words h = rw (← h) refl

-- one more word is read
pub said_more : {X : Type 0} (f : X → List ℕ) (all : Option Meant) (m next : Meant) (rest behind : List X) (w : X) (bytes : List ℕ) → all ≡ said_from m (map f rest)
    → rest ≡ w ∷ behind → bytes ≡ f w → Some next ≡ after_word m bytes → all ≡ said_from next (map f behind)
said_more {X} f all m next rest behind w bytes so_far first is said =
    so_far ∙ (ap (λ (xs : List X). said_from m (map f xs)) first ∙ step m next (f w) (map f behind) (said ∙ ap (after_word m) is))

-- one is wrong
pub said_wrong : {X : Type 0} (f : X → List ℕ) (all : Option Meant) (m : Meant) (rest behind : List X) (w : X) (bytes : List ℕ) → all ≡ said_from m (map f rest)
    → rest ≡ w ∷ behind → bytes ≡ f w → None ≡ after_word m bytes → None ≡ all
said_wrong {X} f all m rest behind w bytes so_far first is said =
    sym (so_far ∙ (ap (λ (xs : List X). said_from m (map f xs)) first ∙ wrong m (f w) (map f behind) (said ∙ ap (after_word m) is)))

-- all are read, and an option waits, or none does
pub said_waits : {X : Type 0} (f : X → List ℕ) (all : Option Meant) (m : Meant) (rest : List X) → all ≡ said_from m (map f rest) → rest ≡ [] → true ≡ is_some m.waits → None ≡ all
unfolding said_from
said_waits {X} f all m rest so_far end waits = sym (so_far ∙ (ap (λ (xs : List X). said_from m (map f xs)) end ∙ rw (← waits) refl))

pub said_all : {X : Type 0} (f : X → List ℕ) (all : Option Meant) (m : Meant) (rest : List X) → all ≡ said_from m (map f rest) → rest ≡ [] → false ≡ is_some m.waits → Some m ≡ all
unfolding said_from
said_all {X} f all m rest so_far end waits = sym (so_far ∙ (ap (λ (xs : List X). said_from m (map f xs)) end ∙ rw (← waits) refl))
