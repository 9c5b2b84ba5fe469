-- The commands that a script's bytes spell are one list.
use Rattle.std.proofs.Common.{◌≡◌, ◌∙◌, ℕ, List, [], ◌∷◌, Some, map, refl, sym}
use Rattle.conc_types.specs.declared.script.Script.{Script}
use Rattle.conc_types.specs.declared.setup.Setup.{Setup}
use Rattle.conc_script.specs.Script.{SpellsScript}

some-one : {A : Type 0} (xs ys : List A) → map (λ x. Some x) xs ≡ map (λ y. Some y) ys → xs ≡ ys
some-one [] [] e = refl
some-one [] (y ∷ ys) e = absurd (cc e)
some-one (x ∷ xs) [] e = absurd (cc e)
some-one (x ∷ xs) (y ∷ ys) e =
    let later : map (λ z. Some z) xs ≡ map (λ z. Some z) ys = cc e in
    let here : x ≡ y = cc e in
    cc (here, some-one xs ys later)

pub commands-one : (setup : Setup) (bytes : List ℕ) (a b : Script) → SpellsScript setup bytes a → SpellsScript setup bytes b → a.commands ≡ b.commands
commands-one setup bytes a b is is' = some-one a.commands b.commands (sym is.commands ∙ is'.commands)
