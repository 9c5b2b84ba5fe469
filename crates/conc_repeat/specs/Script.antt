-- The script to which a file of repeats expands.
use Rattle.std.specs.Prelude.{◌≡◌, ℕ, ◌+◌, List, [], ◌∷◌, ◌++◌, codes, drop, get_or, map, IsPermutation, Option, None, Some}
use Rattle.std.specs.List.{concat}
use Rattle.std.specs.List.Sorted.{IsNonDecreasingBy, IsStableByKey}
use Rattle.std.specs.Ordering.{nat_cmp}
use Rattle.csv.specs.Writing.{default_writer, row_text}
use Rattle.conc_types.specs.declared.event.Moment.{Moment}
use Rattle.conc_base_law.specs.Moments.{moment_text}
use Rattle.conc_data_records.specs.Records.{Record, records_of}
use Rattle.conc_repeat.specs.declared.courses.Course.{Course}
use Rattle.conc_repeat.specs.declared.dues.Due.{Due}
use Rattle.conc_repeat.specs.Refusing.{repeats_fault}
use Rattle.conc_repeat.specs.Series.{argument_field, course_of, domain_field, moments_of, priority_field, user_field, what_field}

-- ---- submissions

-- the submissions of the series at a place
abbrev pub dues_at : ℕ → Option Course → List Due
dues_at place None = []
dues_at place (Some c) = map (λ at. record { at = at; series = place }) (moments_of c)

-- those of all series from a place on, series by series
unfoldable pub dues_from : ℕ → List (Option Course) → List Due
dues_from place [] = []
dues_from place (c ∷ courses) = dues_at place c ++ dues_from (place + 1) courses

-- the submissions of these records, record by record
abbrev pub dues_of : List Record → List Due
dues_of records = dues_from 0 (map course_of records)

abbrev pub seconds : Due → ℕ
seconds due = due.at.seconds

-- the same submissions by their moments, those at one moment in the order that they had
pub record IsByMoment (dues ordered : List Due) : Type 0 where
  pub same : IsPermutation dues ordered
  pub rising : IsNonDecreasingBy seconds ordered
  pub stable : IsStableByKey seconds nat_cmp dues ordered

-- ---- text

-- at,do,what,user,priority,start,domain,argument
abbrev pub script_header : Record
script_header =
    codes "at" ∷ codes "do" ∷ codes "what" ∷ codes "user" ∷ codes "priority" ∷ codes "start" ∷ codes "domain" ∷ codes "argument" ∷ []

-- the submission of a record at a moment
abbrev pub submission : Moment → Record → Record
submission at r =
    moment_text at ∷ codes "submit" ∷ what_field r ∷ user_field r ∷ priority_field r ∷ [] ∷ domain_field r ∷ argument_field r ∷ []

abbrev pub line_of : List Record → Due → Record
line_of records due = submission due.at (get_or records due.series [])

-- the text of records, as `csv` writes them with its defaults
unfoldable pub text_of : List Record → List ℕ
text_of records = concat (map (row_text default_writer) records)

-- the bytes are a script of the submissions of these records
pub record IsScriptOf (records : List Record) (bytes : List ℕ) : Type 0 where
  pub dues : List Due
  pub by_moment : IsByMoment (dues_of records) dues
  pub text : bytes ≡ text_of (script_header ∷ map (line_of records) dues)

-- the file has no fault, and the bytes are the script of its records behind the header
pub record Expands (file bytes : List ℕ) : Type 0 where
  pub faultless : repeats_fault file ≡ None
  pub script : IsScriptOf (drop 1 (records_of file)) bytes
