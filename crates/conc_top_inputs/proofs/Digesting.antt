-- The digest of the tables that were read.
use Rattle.std.proofs.Common.{◌≡◌, ◌<◌, ◌+◌, ℕ, List, [], ◌∷◌, ◌++◌, Option, length, take, get_or, refl, sym, ◌∙◌, ap, subst, arith, append_assoc}
use Rattle.std.specs.List.{zip}
use Rattle.std.proofs.lemmas.List.{append-nil, take_more}
use Rattle.std.proofs.lemmas.Slice.Zip.{AllZip-long}
use Rattle.conc_types.specs.declared.table.Table.{Table}
use Rattle.conc_data_digests.specs.Taken.{HasTaken}
use Rattle.conc_data_digests.specs.declared.input.InputDigest.{InputDigest}
use Rattle.conc_outside.specs.Files.{Files, Gives}
use Rattle.conc_top_inputs.specs.Given.{HasTables}

-- a digest that took in these tables beside those before
abbrev pub TookTables : InputDigest → InputDigest → List (List ℕ) → List (List ℕ) → Type 0
TookTables old new names contents =
    (setup script : List ℕ) (before : List (List ℕ × List ℕ)) → HasTaken old setup script before
    → HasTaken new setup script (before ++ zip names contents)

zip-push : {A B : Type 0} (ks : List A) (vs : List B) (k : A) (v : B) → length vs ≡ length ks → zip (ks ++ k ∷ []) (vs ++ v ∷ []) ≡ zip ks vs ++ (k, v) ∷ []
zip-push [] [] k v same = refl
zip-push [] (w ∷ vs) k v same = absurd (omega (arith, same))
zip-push (j ∷ ks) [] k v same = absurd (omega (arith, same))
zip-push (j ∷ ks) (w ∷ vs) k v same = ap (λ l. (j, w) ∷ l) (zip-push ks vs k v (omega (arith, same)))

-- none
pub took-none : (old : InputDigest) → TookTables old old [] []
took-none old setup script before taken = subst (HasTaken old setup script) (sym (append-nil before)) taken

-- one more
pub took-more : (old mid new : InputDigest) (exposed : Option Files) (names : List (List ℕ)) (i : ℕ) (name bytes : List ℕ) (tables : List Table) (has : HasTables exposed (take i names) tables)
    → i < length names → name ≡ get_or names i name → TookTables old mid (take i names) has.contents
    → ((setup script : List ℕ) (before : List (List ℕ × List ℕ)) → HasTaken mid setup script before → HasTaken new setup script (before ++ (name, bytes) ∷ []))
    → TookTables old new (take (i + 1) names) (has.contents ++ bytes ∷ [])
took-more old mid new exposed names i name bytes tables has below here so_far adds setup script before taken =
    let long : length has.contents ≡ length (take i names) = AllZip-long (Gives exposed) (take i names) has.contents has.given in
    let named : take i names ++ name ∷ [] ≡ take (i + 1) names = ap (λ z. take i names ++ z ∷ []) here ∙ sym (take_more names i name below) in
    let zipped : zip (take (i + 1) names) (has.contents ++ bytes ∷ []) ≡ zip (take i names) has.contents ++ (name, bytes) ∷ []
    = ap (λ l. zip l (has.contents ++ bytes ∷ [])) (sym named) ∙ zip-push (take i names) has.contents name bytes long in
    let all : before ++ zip (take (i + 1) names) (has.contents ++ bytes ∷ []) ≡ (before ++ zip (take i names) has.contents) ++ (name, bytes) ∷ []
    = ap (λ l. before ++ l) zipped ∙ sym (append_assoc before (zip (take i names) has.contents) ((name, bytes) ∷ [])) in
    subst (HasTaken new setup script) (sym all) (adds setup script (before ++ zip (take i names) has.contents) (so_far setup script before taken))
