-- What is read of files that stand in memory.
use Rattle.std.proofs.Common.{◌≡◌, ℕ, min, true, false, List, [], ◌∷◌, length, take, cond, Option, Some, Vec, refl, sym, ap, ◌∙◌}
use Rattle.std.proofs.lemmas.List.{take_min}
use Rattle.std.specs.List.{find}
use Rattle.std.specs.Option.{option_map}
use Rattle.std.specs.Str.{bytes_eq}
use Rattle.std.specs.declared.alloc.Global.{Global}
use Rattle.conc_outside.specs.Files.{file_named, front_of}
use Rattle.conc_outside.specs.Exposed.{exposed}

-- the file with a name is that of the first row with this name
pub file_named-exposed :
    (files : List (List ℕ × Vec ℕ Global)) (name : List ℕ) →
    file_named (exposed files) name ≡ option_map (λ f. f.1.items) (find (λ f. bytes_eq f.0 name) files)
file_named-exposed [] name = refl
file_named-exposed (file ∷ files) name =
    elim (bytes_eq file.0 name) as (λ same.
    option_map (λ f. f.1) (cond same (Some (file.0, file.1.items)) (find (λ f. bytes_eq f.0 name) (exposed files)))
    ≡ option_map (λ f. f.1.items) (cond same (Some file) (find (λ f. bytes_eq f.0 name) files)))
    [ true ↦ refl | false ↦ file_named-exposed files name ]

-- the file with a name, by the row that was found
pub file_named-row :
    (files : List (List ℕ × Vec ℕ Global)) (name : List ℕ) (row : Option (List ℕ × Vec ℕ Global)) →
    row ≡ find (λ f. bytes_eq f.0 name) files → option_map (λ f. f.1.items) row ≡ file_named (exposed files) name
file_named-row files name row found = ap (λ r. option_map (λ f. f.1.items) r) found ∙ sym (file_named-exposed files name)

-- what is read of a file
pub front_of-file :
    (file : Option (List ℕ)) (bytes items : List ℕ) (n : ℕ) →
    Some bytes ≡ file → n ≡ min 67108865 (length bytes) → items ≡ take n bytes → option_map front_of file ≡ Some items
front_of-file file bytes items n found most read =
    ap (λ f. option_map front_of f) (sym found) ∙ ap (λ b. Some b) (sym (read ∙ ap (λ m. take m bytes) most ∙ take_min 67108865 bytes))
