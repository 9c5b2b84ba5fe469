-- The lines of a script, written one by one.
use Rattle.std.proofs.Common.{◌≡◌, refl, ◌∙◌, ap, sym, ◌+◌, ◌<◌, ◌≤◌, ℕ, zero, suc, List, [], ◌∷◌, ◌++◌, length, get_or, map, take, arith}
use Rattle.std.specs.List.{concat}
use Rattle.std.proofs.lemmas.List.{append-nil, get_or-map, map-append, take_more}
use Rattle.std.proofs.lemmas.List.Folds.{concat-append}
use Rattle.csv.specs.Writing.{default_writer, row_text}
use Rattle.conc_data_records.specs.Records.{Record}
use Rattle.conc_repeat.specs.declared.dues.Due.{Due}
use Rattle.conc_repeat.specs.declared.series.Series.{Series}
use Rattle.conc_repeat.specs.Kept.{line_by, line_kept, words_in, words_of}
use Rattle.conc_repeat.specs.Script.{script_header, text_of}

pub text_of-more : (records : List Record) (one : Record) → text_of (records ++ one ∷ []) ≡ text_of records ++ row_text default_writer one
unfolding text_of
text_of-more records one =
    ap concat (map-append (row_text default_writer) records (one ∷ []))
    ∙ (concat-append (map (row_text default_writer) records) (row_text default_writer one ∷ [])
    ∙ ap (λ ys. concat (map (row_text default_writer) records) ++ ys) (append-nil (row_text default_writer one)))

-- the header, and the lines of the first submissions
unfoldable pub text_to : List Series → List Due → ℕ → List ℕ
text_to all dues n = text_of (script_header ∷ map (line_kept all) (take n dues))

pub header_alone : (all : List Series) (dues : List Due) (now : List ℕ) → now ≡ row_text default_writer script_header → now ≡ text_to all dues 0
unfolding text_to text_of
header_alone all dues now e = e ∙ sym (append-nil (row_text default_writer script_header))

pub one_line : (all : List Series) (dues : List Due) (n : ℕ) (due : Due) (s : Series) (before now : List ℕ) → n < length dues → get_or dues n due ≡ due
    → due.series < length all → get_or all due.series s ≡ s → before ≡ text_to all dues n → now ≡ before ++ row_text default_writer (line_by due.at (words_in s)) → now ≡ text_to all dues (n + 1)
unfolding text_to
one_line all dues n due s before now within here known there was is =
    let words : get_or (map words_in all) due.series (words_of []) ≡ words_in s = get_or-map words_in all due.series s (words_of []) known ∙ ap words_in there in
    let front : take (n + 1) dues ≡ take n dues ++ due ∷ [] = take_more dues n due within ∙ ap (λ x. take n dues ++ x ∷ []) here in
    is ∙ (ap (λ l. l ++ row_text default_writer (line_by due.at (words_in s))) was
    ∙ sym (ap (λ l. text_of (script_header ∷ map (line_kept all) l)) front
    ∙ (ap (λ l. text_of (script_header ∷ l)) (map-append (line_kept all) (take n dues) (due ∷ []))
    ∙ (text_of-more (script_header ∷ map (line_kept all) (take n dues)) (line_kept all due)
    ∙ ap (λ l. text_of (script_header ∷ map (line_kept all) (take n dues)) ++ row_text default_writer (line_by due.at l)) words))))

pub all_lines : (all : List Series) (dues : List Due) (n : ℕ) (now : List ℕ) → length dues ≤ n → now ≡ text_to all dues n → now ≡ text_of (script_header ∷ map (line_kept all) dues)
unfolding text_to
all_lines all dues n now end is = is ∙ ap (λ l. text_of (script_header ∷ map (line_kept all) l)) (take_all dues n end)
  where
    take_all : (xs : List Due) (k : ℕ) → length xs ≤ k → take k xs ≡ xs
    take_all [] zero h = refl
    take_all [] (suc k) h = refl
    take_all (x ∷ xs) zero h = absurd (omega arith)
    take_all (x ∷ xs) (suc k) h = ap (λ l. x ∷ l) (take_all xs k (omega arith))
