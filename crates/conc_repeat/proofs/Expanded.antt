-- What a file of repeats expands to, by what was read of it.
use Rattle.std.proofs.Common.{◌≡◌, refl, ◌∙◌, ap, sym, ℕ, false, List, [], ◌∷◌, length, get_or, map}
use Rattle.std.specs.Prelude.{nat_lt, Some}
use Rattle.std.proofs.Math.ListN.{get_or-map}
use Rattle.conc_data_records.specs.Records.{Record, records_of}
use Rattle.conc_repeat.specs.declared.dues.Due.{Due}
use Rattle.conc_repeat.specs.declared.series.Series.{Series}
use Rattle.conc_repeat.specs.Kept.{AreSeries, line_by, line_kept, words_in, words_of}
use Rattle.conc_repeat.specs.Script.{dues_from, Expands, IsByMoment, IsScriptOf, line_of, script_header, text_of}
use Rattle.conc_repeat.specs.Series.{header}
use Rattle.conc_repeat.proofs.FileFaults.{fault_of_file}

line_same : (records : List Record) (all : List Series) → map words_of records ≡ map words_in all → (due : Due) → line_kept all due ≡ line_of records due
line_same records all words due =
    ap (λ (ws : List Record). line_by due.at (get_or ws due.series (words_of []))) (sym words) ∙ ap (line_by due.at) (get_or-map words_of records due.series [])

lines_same : (records : List Record) (all : List Series) → map words_of records ≡ map words_in all → (dues : List Due) → map (line_kept all) dues ≡ map (line_of records) dues
lines_same records all words [] = refl
lines_same records all words (due ∷ dues) =
    let here = line_same records all words due in
    let later = lines_same records all words dues in
    rw (here, later) refl

script_of : (records : List Record) (all : List Series) (dues : List Due) (script : List ℕ) → AreSeries records all → IsByMoment (dues_from 0 (map (λ s. Some s.course) all)) dues
    → script ≡ text_of (script_header ∷ map (line_kept all) dues) → IsScriptOf records script
script_of records all dues script series ordered text = record {
  dues = dues;
  by_moment = rw series.courses ordered;
  text = text ∙ ap (λ (lines : List Record). text_of (script_header ∷ lines)) (lines_same records all series.words dues);
}

pub expands : (bytes : List ℕ) (records : List Record) (all : List Series) (dues : List Due) (script : List ℕ) → nat_lt 67108864 (length bytes) ≡ false → records_of bytes ≡ header ∷ records
    → AreSeries records all → IsByMoment (dues_from 0 (map (λ s. Some s.course) all)) dues → script ≡ text_of (script_header ∷ map (line_kept all) dues) → Expands bytes script
expands bytes records all dues script short e series ordered text = record {
  faultless = fault_of_file bytes records short e ∙ series.faultless;
  script = rw e (script_of records all dues script series ordered text);
}
