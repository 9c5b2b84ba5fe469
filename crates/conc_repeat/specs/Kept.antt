-- What is kept of the records that are read.
use Rattle.std.specs.Prelude.{◌≡◌, false, Bool, List, [], ◌∷◌, codes, get_or, length, map, Option, None, Some}
use Rattle.conc_types.specs.declared.event.Moment.{Moment}
use Rattle.conc_types.specs.Faults.{Fault, first_fault}
use Rattle.conc_base_law.specs.Moments.{moment_text}
use Rattle.conc_data_records.specs.Records.{Record}
use Rattle.conc_repeat.specs.declared.fields.Fields.{Fields}
use Rattle.conc_repeat.specs.declared.dues.Due.{Due}
use Rattle.conc_repeat.specs.declared.series.Series.{Series}
use Rattle.conc_repeat.specs.Refusing.{record_kind, same_fields}
use Rattle.conc_repeat.specs.Series.{argument_field, course_of, domain_field, field, header, priority_field, user_field, what_field}

abbrev pub list_of : Fields → Record
list_of f =
    f.from.now ∷ f.every.now ∷ f.unit.now ∷ f.times.now ∷ f.what.now ∷ f.user.now ∷ f.priority.now ∷ f.domain.now ∷ f.argument.now ∷ []

-- the fields of a record that its submissions have
abbrev pub words_of : Record → Record
words_of r = what_field r ∷ user_field r ∷ priority_field r ∷ domain_field r ∷ argument_field r ∷ []

abbrev pub words_in : Series → Record
words_in s = s.what ∷ s.user ∷ s.priority ∷ s.domain ∷ s.argument ∷ []

abbrev pub begins_with_header : List Record → Bool
begins_with_header [] = false
begins_with_header (first ∷ rest) = same_fields first header

-- the first fault of the records behind the header
abbrev pub fault_behind : List Record → Option Fault
fault_behind records = first_fault (record_kind (header ∷ records)) 2 (length records)

-- none of the records behind the header breaks a rule, and these are their series
pub record AreSeries (records : List Record) (all : List Series) : Type 0 where
  pub faultless : fault_behind records ≡ None
  pub courses : map course_of records ≡ map (λ s. Some s.course) all
  pub words : map words_of records ≡ map words_in all

-- ---- lines

-- a submission at a moment, by the fields that it has of its record
abbrev pub line_by : Moment → Record → Record
line_by at words =
    moment_text at ∷ codes "submit" ∷ field 0 words ∷ field 1 words ∷ field 2 words ∷ [] ∷ field 3 words ∷ field 4 words ∷ []

-- that of one of these series
abbrev pub line_kept : List Series → Due → Record
line_kept all due = line_by due.at (get_or (map words_in all) due.series (words_of []))
