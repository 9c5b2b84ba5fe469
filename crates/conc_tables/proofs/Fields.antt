-- The fields of a record as they are taken one after the other.
use Rattle.std.proofs.Common.{◌≡◌, ◌<◌, ◌+◌, ◌++◌, ℕ, zero, suc, List, [], ◌∷◌, get_or, length, take, Option, None, Some, refl, sym, ap, ◌∙◌, append_assoc, arith}
use Rattle.csv.specs.Records.{Row, field_at, fields_of}

abbrev field_or : List ℕ → Option (List ℕ) → List ℕ
field_or d None = d
field_or d (Some x) = x

-- one more field
pub taken-next : (fields : List (List ℕ)) (i : ℕ) (field : List ℕ) → Some field ≡ field_at fields i → take (i + 1) fields ≡ take i fields ++ (field ∷ [])
unfolding field_at
taken-next [] i field e = cc e
taken-next (f ∷ fs) zero field e = ap (λ x. x ∷ []) (sym (ap (field_or f) e))
taken-next (f ∷ fs) (suc i) field e =
    let step : suc i + 1 ≡ suc (i + 1) = omega arith in
    rw step (ap (λ (rest : List (List ℕ)). f ∷ rest) (taken-next fs i field e))

-- all of them
pub taken-all : (fields : List (List ℕ)) (i : ℕ) → None ≡ field_at fields i → take i fields ≡ fields
unfolding field_at
taken-all [] zero e = refl
taken-all [] (suc i) e = refl
taken-all (f ∷ fs) zero e = cc e
taken-all (f ∷ fs) (suc i) e = ap (λ (rest : List (List ℕ)). f ∷ rest) (taken-all fs i e)

-- one more field of a row after what was there
pub pushed : (row seen : Row) (old now new : List (List ℕ)) (i j : ℕ) (field : List ℕ) → seen ≡ row → Some field ≡ field_at (fields_of seen) i → j ≡ i + 1
    → now ≡ old ++ take i (fields_of row) → new ≡ now ++ (field ∷ []) → new ≡ old ++ take j (fields_of row)
pushed row seen old now new i j field same found next before after =
    let found2 = rw same at found in
    rw (next, taken-next (fields_of row) i field found2) (after ∙ rw before (append_assoc old (take i (fields_of row)) (field ∷ [])))

-- no field is left of a row
pub pushed-all : (row seen : Row) (old now : List (List ℕ)) (i : ℕ) → seen ≡ row → None ≡ field_at (fields_of seen) i
    → now ≡ old ++ take i (fields_of row) → now ≡ old ++ fields_of row
pushed-all row seen old now i same none before =
    let none2 = rw same at none in
    before ∙ ap (λ (fields : List (List ℕ)). old ++ fields) (taken-all (fields_of row) i none2)

-- a field by its place
pub field-there : (fields : List (List ℕ)) (i : ℕ) (field d : List ℕ) → Some field ≡ field_at fields i → (i < length fields) × (field ≡ get_or fields i d)
unfolding field_at
field-there [] i field d e = cc e
field-there (f ∷ fs) zero field d e = (omega arith, ap (field_or f) e)
field-there (f ∷ fs) (suc i) field d e =
    let there = field-there fs i field d e in
    (omega (arith, there.0), there.1)

-- the same, where a row is seen that is this one
pub field-seen : (row seen : Row) (i : ℕ) (field d : List ℕ) → seen ≡ row → Some field ≡ field_at (fields_of seen) i → (i < length (fields_of row)) × (field ≡ get_or (fields_of row) i d)
field-seen row seen i field d same found = field-there (fields_of row) i field d (rw same at found)

pub taken-seen : (row seen : Row) (i : ℕ) → seen ≡ row → None ≡ field_at (fields_of seen) i → take i (fields_of row) ≡ fields_of row
taken-seen row seen i same none = taken-all (fields_of row) i (rw same at none)
