-- Fields and their bytes.
use Rattle.std.proofs.Common.{◌≡◌, ℕ, List, ◌∷◌, [], Some, get_or, ap, ◌∙◌}
use Rattle.std.specs.Int.{from_be_bytes, w32, w64}
use Rattle.conc_journal_image.specs.Fields.{fields_of}
use Rattle.conc_journal_image.specs.declared.fields.Fields.{Fields}

-- the bytes of fields, from those of each number
abbrev pub joined : ℕ → ℕ → List ℕ → List ℕ → List ℕ → List ℕ → List ℕ
joined kind outcome a b c d =
    kind ∷ outcome ∷ 0
    ∷ get_or a 0 0 ∷ get_or a 1 0 ∷ get_or a 2 0 ∷ get_or a 3 0
    ∷ get_or b 0 0 ∷ get_or b 1 0 ∷ get_or b 2 0 ∷ get_or b 3 0
    ∷ get_or c 0 0 ∷ get_or c 1 0 ∷ get_or c 2 0 ∷ get_or c 3 0 ∷ get_or c 4 0 ∷ get_or c 5 0 ∷ get_or c 6 0 ∷ get_or c 7 0
    ∷ get_or d 0 0 ∷ get_or d 1 0 ∷ get_or d 2 0 ∷ get_or d 3 0
    ∷ 0 ∷ 0 ∷ 0 ∷ 0 ∷ 0 ∷ 0 ∷ 0 ∷ 0 ∷ []

-- they spell the fields
pub fields_of-joined : (f : Fields) (a b c d : List ℕ) → from_be_bytes w32 a ≡ f.first → from_be_bytes w32 b ≡ f.second → from_be_bytes w64 c ≡ f.wide → from_be_bytes w32 d ≡ f.length
    → fields_of (joined f.kind f.outcome a b c d) ≡ Some f
unfolding fields_of
fields_of-joined f a b c d first second wide long =
    ap (λ n. Some (record { kind = f.kind; outcome = f.outcome; first = n; second = from_be_bytes w32 b; wide = from_be_bytes w64 c; length = from_be_bytes w32 d })) first
    ∙ ap (λ n. Some (record { kind = f.kind; outcome = f.outcome; first = f.first; second = n; wide = from_be_bytes w64 c; length = from_be_bytes w32 d })) second
    ∙ ap (λ n. Some (record { kind = f.kind; outcome = f.outcome; first = f.first; second = f.second; wide = n; length = from_be_bytes w32 d })) wide
    ∙ ap (λ n. Some (record { kind = f.kind; outcome = f.outcome; first = f.first; second = f.second; wide = f.wide; length = n })) long
