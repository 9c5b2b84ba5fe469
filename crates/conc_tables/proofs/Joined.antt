-- A record's text is all its fields where each has a byte and they are as long as the text, and what its fields add to the cells.
use Rattle.std.proofs.Common.{Bool, true, not, ◌==◌, Some, ◌≡◌, ◌<◌, ◌+◌, ◌-◌, ◌++◌, ◌∙◌, ℕ, zero, suc, List, [], ◌∷◌, length, take, drop, refl, sym, ap, arith, append_assoc, length-append}
use Rattle.std.specs.Prelude.{⊤}
use Rattle.std.proofs.lemmas.List.{append-nil, drop-drop, take_all}
use Rattle.csv.specs.Records.{Row, cut_from, field_at, fields_of}
use Rattle.conc_types.proofs.Places.{AreEnds-push, cut-push}
use Rattle.conc_types.specs.Cells.{AreEnds, cut}
use Rattle.conc_types.specs.Pieces.{concat}
use Rattle.conc_tables.proofs.Fields.{taken-next}
use Rattle.conc_tables.specs.Gathered.{ends_behind}

-- each of these has a byte
abbrev pub AreFull : List (List ℕ) → Type 0
AreFull [] = ⊤
AreFull (field ∷ fields) = (0 < length field) × AreFull fields

take-own : (n : ℕ) (xs : List ℕ) → take n xs ≡ take (length (take n xs)) xs
take-own zero [] = refl
take-own zero (x ∷ xs) = refl
take-own (suc n) [] = refl
take-own (suc n) (x ∷ xs) = ap (λ (rest : List ℕ). x ∷ rest) (take-own n xs)

take-two : (n m : ℕ) (xs : List ℕ) → take n xs ++ take m (drop n xs) ≡ take (length (take n xs ++ take m (drop n xs))) xs
take-two zero m [] = take-own m []
take-two zero m (x ∷ xs) = take-own m (x ∷ xs)
take-two (suc n) zero [] = refl
take-two (suc n) (suc m) [] = refl
take-two (suc n) m (x ∷ xs) = ap (λ (rest : List ℕ). x ∷ rest) (take-two n m xs)

-- a string that has a byte ends behind its start
behind : (start end : ℕ) (bytes : List ℕ) → 0 < length (take (end - start) (drop start bytes)) → start < end
behind start end bytes full = by (end - start) refl full
  where
    by : (size : ℕ) → end - start ≡ size → 0 < length (take size (drop start bytes)) → start < end
    by zero e f = absurd (none (drop start bytes) f)
      where
        none : (xs : List ℕ) → 0 < length (take 0 xs) → ⊥
        none [] g = omega (arith, g)
        none (x ∷ xs) g = omega (arith, g)
    by (suc size) e f = omega (arith, e)

-- joined, fields with bytes are as much of the text as they are long
pub full-joined : (start : ℕ) (ends bytes : List ℕ) → AreFull (cut_from start ends bytes)
    → concat (cut_from start ends bytes) ≡ take (length (concat (cut_from start ends bytes))) (drop start bytes)
unfolding cut_from
full-joined start [] bytes full = take-own 0 (drop start bytes)
full-joined start (end ∷ ends) bytes full =
    let later = behind start end bytes full.0 in
    let step : end ≡ start + (end - start) = omega arith in
    let rest : concat (cut_from end ends bytes) ≡ take (length (concat (cut_from end ends bytes))) (drop (end - start) (drop start bytes)) =
    full-joined end ends bytes full.1 ∙ ap (take (length (concat (cut_from end ends bytes)))) (ap (λ n. drop n bytes) step ∙ sym (drop-drop (end - start) start bytes)) in
    rw rest (take-two (end - start) (length (concat (cut_from end ends bytes))) (drop start bytes))

-- fields with bytes that are as long as the text are the text
pub full-text : (ends bytes : List ℕ) → AreFull (cut_from 0 ends bytes) → length (concat (cut_from 0 ends bytes)) ≡ length bytes → concat (cut_from 0 ends bytes) ≡ bytes
full-text ends bytes full long = full-joined 0 ends bytes full ∙ take_all _ bytes (omega (arith, long))

-- what these fields add to cells whose ends are noted before their bytes are there
pub cells-added : (ends bytes : List ℕ) (fields : List (List ℕ)) → AreEnds 0 ends (length bytes)
    → AreEnds 0 (ends ++ ends_behind (length bytes) fields) (length (bytes ++ concat fields))
    × (cut 0 (ends ++ ends_behind (length bytes) fields) (bytes ++ concat fields) ≡ cut 0 ends bytes ++ fields)
cells-added ends bytes [] whole = rw (append-nil ends, append-nil bytes) (whole, sym (append-nil (cut 0 ends bytes)))
cells-added ends bytes (field ∷ fields) whole =
    let size : length (bytes ++ field) ≡ length bytes + length field = length-append bytes field in
    let first = AreEnds-push 0 ends bytes field (length bytes + length field) refl whole in
    let one = cut-push 0 ends bytes field (length bytes + length field) refl whole in
    let (more, all) = cells-added (ends ++ ((length bytes + length field) ∷ [])) (bytes ++ field) fields first in (
      rw (size, append_assoc ends ((length bytes + length field) ∷ []) (ends_behind (length bytes + length field) fields), append_assoc bytes field (concat fields)) at more,
      rw (
        size,
        append_assoc ends ((length bytes + length field) ∷ []) (ends_behind (length bytes + length field) fields),
        append_assoc bytes field (concat fields),
        one,
        append_assoc (cut 0 ends bytes) (field ∷ []) fields,
      ) at all,
    )

-- ---- the fields one by one

-- what is noted of the first fields of a record
pub record Noted (row : Row) (start end : ℕ) (full : Bool) (before ends : List ℕ) (count : ℕ) : Type 0 where
  pub places : ends ≡ before ++ ends_behind start (take count (fields_of row))
  pub last : end ≡ start + length (concat (take count (fields_of row)))
  pub bytes : full ≡ true → AreFull (take count (fields_of row))

concat-end : (fields : List (List ℕ)) (field : List ℕ) → concat (fields ++ (field ∷ [])) ≡ concat fields ++ field
concat-end [] field = append-nil field
concat-end (first ∷ fields) field = ap (λ (rest : List ℕ). first ++ rest) (concat-end fields field) ∙ sym (append_assoc first (concat fields) field)

ends-last : (start : ℕ) (fields : List (List ℕ)) (field : List ℕ) (end : ℕ) → end ≡ start + length (concat fields) + length field
    → ends_behind start (fields ++ (field ∷ [])) ≡ ends_behind start fields ++ (end ∷ [])
ends-last start [] field end e =
    let at : start + length field ≡ end = omega (arith, e) in
    rw at refl
ends-last start (first ∷ fields) field end e =
    let more : end ≡ (start + length first) + length (concat fields) + length field = omega (arith, e, length-append first (concat fields)) in
    ap (λ (rest : List ℕ). (start + length first) ∷ rest) (ends-last (start + length first) fields field end more)

full-last : (fields : List (List ℕ)) (field : List ℕ) → AreFull fields → 0 < length field → AreFull (fields ++ (field ∷ []))
full-last [] field all one = (one, tt)
full-last (first ∷ fields) field all one = (all.0, full-last fields field all.1 one)

-- nothing is noted yet
pub noted-none : (row : Row) (start : ℕ) (ends : List ℕ) → Noted row start start true ends ends 0
noted-none row start ends = record { places = sym (append-nil ends); last = omega arith; bytes = λ e. tt }

-- one more field
pub noted-next : (row : Row) (start end more : ℕ) (full still : Bool) (before ends after : List ℕ) (i j : ℕ) (field : List ℕ)
    → Noted row start end full before ends i → Some field ≡ field_at (fields_of row) i → j ≡ i + 1
    → more ≡ end + length field → after ≡ ends ++ (more ∷ []) → (still ≡ true → (full ≡ true) × (0 < length field))
    → Noted row start more still before after j
noted-next row start end more full still before ends after i j field noted found next size pushed both =
    let taken = taken-next (fields_of row) i field found in
    let long : length (concat (take i (fields_of row) ++ (field ∷ []))) ≡ length (concat (take i (fields_of row))) + length field =
    rw (concat-end (take i (fields_of row)) field) (length-append (concat (take i (fields_of row))) field) in
    let last : more ≡ start + length (concat (take i (fields_of row))) + length field = omega (arith, size, noted.last) in
    record {
      places = rw (next, taken, ends-last start (take i (fields_of row)) field more last) (pushed ∙ rw noted.places (append_assoc before (ends_behind start (take i (fields_of row))) (more ∷ [])));
      last = rw (next, taken) (omega (arith, last, long));
      bytes = rw (next, taken) (λ e. let (was, one) = both e in full-last (take i (fields_of row)) field (noted.bytes was) one);
    }

-- a field that is not empty has a byte
pub has-byte : (size : ℕ) (full empty : Bool) → full ≡ not empty → empty ≡ (size == 0) → full ≡ true → 0 < size
has-byte zero full empty f e t = absurd (cc (sym t ∙ f ∙ ap not e))
has-byte (suc size) full empty f e t = omega arith

-- the bytes of one more field
pub joined-next : (row : Row) (before bytes after : List ℕ) (i j : ℕ) (field : List ℕ) → bytes ≡ before ++ concat (take i (fields_of row))
    → Some field ≡ field_at (fields_of row) i → j ≡ i + 1 → after ≡ bytes ++ field → after ≡ before ++ concat (take j (fields_of row))
joined-next row before bytes after i j field old found next more =
    rw (next, taken-next (fields_of row) i field found, concat-end (take i (fields_of row)) field) (more ∙ rw old (append_assoc before (concat (take i (fields_of row))) field))

-- what a row adds to the cells
pub row-added : (ends bytes : List ℕ) (fields : List (List ℕ)) (start : ℕ) (later more : List ℕ) → AreEnds 0 ends (length bytes) → start ≡ length bytes
    → later ≡ ends ++ ends_behind start fields → more ≡ bytes ++ concat fields
    → AreEnds 0 later (length more) × (cut 0 later more ≡ cut 0 ends bytes ++ fields)
row-added ends bytes fields start later more whole at places text = rw (places, text, at) (cells-added ends bytes fields whole)
