-- Lines of plain fields are read back as their records.
use Rattle.std.proofs.Common.{◌≡◌, ◌∙◌, ◌≤◌, ◌<◌, ◌+◌, ◌*◌, ℕ, zero, suc, Bool, true, false, List, [], ◌∷◌, ◌++◌, Some, None, ap, arith, length, length-append, map, refl, sym}
use Rattle.std.specs.Prelude.{not}
use Rattle.std.specs.List.{concat, join_with_byte, list_all, list_any, range_with_len}
use Rattle.std.proofs.lemmas.Bool.{and_parts}
use Rattle.std.proofs.lemmas.List.{append-nil}
use Rattle.std.proofs.lemmas.List.FromFn.{length-range_with_len}
use Rattle.csv.specs.Machine.{next_record}
use Rattle.csv.specs.Reading.{default_config, records, records_from, records_next, strip_bom}
use Rattle.csv.specs.Writing.{default_writer, field_text, fields_text, is_blank, needs_byte, row_text}
use Rattle.csv.specs.declared.parser.State.TheVariants as st
use Rattle.csv.proofs.RoundTrip.{read-write-many}
use Rattle.conc_data_records.specs.Records.{Record, records_of}
use Rattle.conc_data_records.proofs.Fuel.{records_from-same}
use Rattle.conc_make.specs.Draws.{after}
use Rattle.conc_make.specs.Files.{line, made, text_of}

-- the field needs no quotes
abbrev pub is_plain : List ℕ → Bool
is_plain field = not (list_any (needs_byte default_writer) field)

not_true : (b : Bool) → not b ≡ true → b ≡ false
not_true false e = refl
not_true true e = absurd (cc e)

plain-text : (x : List ℕ) → is_plain x ≡ true → field_text default_writer x ≡ x
plain-text x e = let no = not_true (list_any (needs_byte default_writer) x) e in rw no refl

join-fields : (x : List ℕ) (ys : List (List ℕ)) → list_all is_plain (x ∷ ys) ≡ true → field_text default_writer x ++ fields_text default_writer ys ≡ join_with_byte 44 (x ∷ ys)
unfolding fields_text
join-fields x [] e = ap (λ t. t ++ []) (plain-text x (and_parts _ _ e).0) ∙ append-nil x
join-fields x (y ∷ ys) e =
    ap (λ t. t ++ 44 ∷ (field_text default_writer y ++ fields_text default_writer ys)) (plain-text x (and_parts _ _ e).0)
    ∙ ap (λ t. x ++ 44 ∷ t) (join-fields y ys (and_parts _ _ e).1)

line-text : (x y : List ℕ) (ys : List (List ℕ)) → list_all is_plain (x ∷ y ∷ ys) ≡ true → row_text default_writer (x ∷ y ∷ ys) ≡ line (x ∷ y ∷ ys)
unfolding is_blank
line-text x y ys e = ap (λ t. t ++ 10 ∷ []) (join-fields x (y ∷ ys) e)

-- the line is read as these fields, whatever comes after it
abbrev pub ReadsBack : Record → Type 0
ReadsBack fields = (tail : List ℕ) → next_record default_config st.StartRecord [] [] (line fields ++ tail) ≡ Some (fields, st.StartRecord, tail)

pub plain-reads : (x y : List ℕ) (ys : List (List ℕ)) → list_all is_plain (x ∷ y ∷ ys) ≡ true → ReadsBack (x ∷ y ∷ ys)
plain-reads x y ys e tail =
    ap (λ t. next_record default_config st.StartRecord [] [] (t ++ tail)) (sym (line-text x y ys e)) ∙ read-write-many x y ys tail

nothing-left : next_record default_config st.StartRecord [] [] [] ≡ None
unfolding next_record
nothing-left = refl

records-read : (n : ℕ) (g : ℕ → Record) (xs : List ℕ) → length xs < n → ((i : ℕ) → ReadsBack (g i))
    → records_from default_config n st.StartRecord (concat (map line (map g xs))) ≡ map g xs
unfolding records_from
records-read zero g xs short reads = absurd (omega arith)
records-read (suc n) g [] short reads = ap (records_next (records_from default_config n)) nothing-left
records-read (suc n) g (i ∷ xs) short reads =
    ap (records_next (records_from default_config n)) (reads i (concat (map line (map g xs))))
    ∙ ap (λ rs. g i ∷ rs) (records-read n g xs (omega arith) reads)

text-read : (head : Record) (g : ℕ → Record) (xs : List ℕ) → ReadsBack head → ((i : ℕ) → ReadsBack (g i))
    → records default_config (text_of (head ∷ map g xs)) ≡ head ∷ map g xs
unfolding text_of records_from
text-read head g xs first reads =
    let text = line head ++ concat (map line (map g xs)) in
    records_from-same (length text + 1) (suc (length text + suc (length xs))) st.StartRecord text (omega arith) (omega arith)
    ∙ ap (records_next (records_from default_config (length text + suc (length xs)))) (first (concat (map line (map g xs))))
    ∙ ap (λ rs. head ∷ rs) (records-read (length text + suc (length xs)) g xs (omega arith) reads)

-- a text with a header is read as its records
pub made-read : (head : Record) (record_at : ℕ → Record) (draws n x : ℕ) → ReadsBack head → ((y : ℕ) → ReadsBack (record_at y))
    → strip_bom (text_of (head ∷ made record_at draws n x)) ≡ text_of (head ∷ made record_at draws n x)
    → records_of (text_of (head ∷ made record_at draws n x)) ≡ head ∷ made record_at draws n x
unfolding records_of made
made-read head record_at draws n x first reads bare =
    ap (records default_config) bare
    ∙ text-read head (λ i. record_at (after (draws * i) x)) (range_with_len 0 n) first (λ i. reads (after (draws * i) x))

concat-short : (most : ℕ) (g : ℕ → Record) (xs : List ℕ) → ((i : ℕ) → length (line (g i)) ≤ most) → length (concat (map line (map g xs))) ≤ most * length xs
concat-short most g [] short = omega arith
concat-short most g (i ∷ xs) short =
    omega (arith, length-append (line (g i)) (concat (map line (map g xs))), short i, concat-short most g xs short)

-- how long it is at most
pub made-short : (head : Record) (record_at : ℕ → Record) (draws n x most : ℕ) → ((y : ℕ) → length (line (record_at y)) ≤ most)
    → length (text_of (head ∷ made record_at draws n x)) ≤ length (line head) + most * n
unfolding text_of made
made-short head record_at draws n x most short =
    let g = λ (i : ℕ). record_at (after (draws * i) x) in
    omega (
      arith,
      length-append (line head) (concat (map line (map g (range_with_len 0 n)))),
      concat-short most g (range_with_len 0 n) (λ i. short (after (draws * i) x)),
      ap (λ k. most * k) (length-range_with_len 0 n),
    )
