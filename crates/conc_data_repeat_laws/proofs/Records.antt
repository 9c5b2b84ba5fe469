-- What is known of the records of a file of repeats that has no fault, and of their submissions.
use Rattle.std.proofs.Common.{◌≡◌, ◌∙◌, ◌+◌, ◌-◌, ◌<◌, ◌≤◌, ℕ, zero, suc, Bool, true, false, not, List, [], ◌∷◌, ◌++◌, All, Option, Some, None, ap, subst, sym, arith, drop, get_or, if◌then◌else◌, length, length-append, map, refl, take}
use Rattle.std.specs.Prelude.{is_none, nat_lt}
use Rattle.std.specs.List.{filter_map, range_with_len, sum_by}
use Rattle.std.specs.Option.{option_and_then, option_map}
use Rattle.std.specs.Prelude.{unwrap_or}
use Rattle.std.proofs.lemmas.Bool.{ltb-false}
use Rattle.std.proofs.lemmas.List.{length-map, take_more}
use Rattle.std.proofs.lemmas.List.Elements.{All-append, All-nil}
use Rattle.std.proofs.lemmas.List.FromFn.{length-range_with_len}
use Rattle.std.proofs.lemmas.List.Sums.{sum_by-append, sum_by-cons}
use Rattle.conc_types.specs.declared.event.Moment.{Moment}
use Rattle.conc_types.specs.declared.kind.RefusalKind.{RefusalKind}
use Rattle.conc_types.specs.declared.kind.RefusalKind.TheVariants as refused
use Rattle.conc_types.specs.Faults.{Fault, fault_or, first_broken, first_fault}
use Rattle.conc_types.specs.Words.{some_and}
use Rattle.conc_base_law.specs.Calendar.{moment_of}
use Rattle.conc_data_records.specs.Records.{Record, records_of}
use Rattle.conc_repeat.specs.declared.courses.Course.{Course}
use Rattle.conc_repeat.specs.declared.courses.TimeUnit.{TimeUnit}
use Rattle.conc_repeat.specs.declared.dues.Due.{Due}
use Rattle.conc_repeat.specs.Kept.{fault_behind}
use Rattle.conc_repeat.specs.Refusing.{commands_before, has_form, is_record, is_within_calendar, record_kind, record_rules, records_fault, repeats_fault, same_fields}
use Rattle.conc_repeat.specs.Script.{dues_at, dues_from}
use Rattle.conc_repeat.specs.Series.{course_of, every_field, from_field, header, moment_in, moments_of, number_up_to, times_field, times_of, unit_field, unit_of}
use Rattle.conc_repeat.proofs.DuesPushed.{due_at, of_series}
use Rattle.conc_repeat.proofs.HeaderRecord.{same_record}

-- ---- the file

with_header : (first : Record) (rest : List Record) (same : Bool) → same_fields first header ≡ same
    → (if same then first_fault (record_kind (first ∷ rest)) 2 (length rest) else Some (1, refused.NotRepeats)) ≡ None
    → (first ∷ rest ≡ header ∷ rest) × (fault_behind rest ≡ None)
with_header first rest true s e =
    let same = same_record first header s in
    (ap (λ (r : Record). r ∷ rest) same, subst (λ (r : Record). first_fault (record_kind (r ∷ rest)) 2 (length rest) ≡ None) same e)
with_header first rest false s e = absurd cc

known-by : (long : Bool) (records : List Record) → (if long then Some (0, refused.TooManyCommands) else records_fault records) ≡ None
    → (records ≡ header ∷ drop 1 records) × (fault_behind (drop 1 records) ≡ None)
known-by true records e = absurd cc
known-by false [] e = absurd cc
known-by false (first ∷ rest) e = with_header first rest (same_fields first header) refl e

-- a file without a fault begins with the header, and no record behind it breaks a rule
pub file-known : (file : List ℕ) → repeats_fault file ≡ None → (records_of file ≡ header ∷ drop 1 (records_of file)) × (fault_behind (drop 1 (records_of file)) ≡ None)
unfolding repeats_fault
file-known file e = known-by _ (records_of file) e

-- ---- one record

rules-none : (nine form unit past many : Bool)
    → first_broken ((not nine, refused.NotRepeats) ∷ (not form, refused.BadRepeat) ∷ (unit, refused.UnknownUnit) ∷ (past, refused.PastEnd) ∷ (many, refused.TooManyCommands) ∷ []) ≡ None
    → (nine ≡ true) × (form ≡ true) × (many ≡ false)
rules-none false form unit past many e = absurd cc
rules-none true false unit past many e = absurd cc
rules-none true true true past many e = absurd cc
rules-none true true false true many e = absurd cc
rules-none true true false false true e = absurd cc
rules-none true true false false false e = (refl, refl, refl)

fault_or-none : (line : ℕ) (kind : Option RefusalKind) (later : Option Fault) → fault_or line kind later ≡ None → (kind ≡ None) × (later ≡ None)
fault_or-none line None later e = (refl, e)
fault_or-none line (Some kind) later e = absurd cc

none-at : (kind_at : ℕ → Option RefusalKind) (first count j : ℕ) → first_fault kind_at first count ≡ None → j < count → kind_at (first + j) ≡ None
unfolding first_fault
none-at kind_at first zero j e h = absurd (omega arith)
none-at kind_at first (suc count) zero e h =
    let here : first + 0 ≡ first = omega arith in
    ap kind_at here ∙ (fault_or-none first (kind_at first) (first_fault kind_at (first + 1) count) e).0
none-at kind_at first (suc count) (suc j) e h =
    let there : first + suc j ≡ first + 1 + j = omega arith in
    ap kind_at there ∙ none-at kind_at (first + 1) count j (fault_or-none first (kind_at first) (first_fault kind_at (first + 1) count) e).1 (omega arith)

kind-of : (records : List Record) (j : ℕ) → record_kind (header ∷ records) (2 + j) ≡ first_broken (record_rules (sum_by times_of (header ∷ take j records)) (get_or records j []))
unfolding record_kind commands_before
kind-of records j = let place : 2 + j - 1 ≡ suc j = omega arith in rw place refl

pub record IsGood (r : Record) : Type 0 where
  pub nine : is_record r ≡ true
  pub form : has_form r ≡ true

passes-at : (records : List Record) (j : ℕ) → fault_behind records ≡ None → j < length records
    → (is_record (get_or records j []) ≡ true) × (has_form (get_or records j []) ≡ true) × (nat_lt 4096 (sum_by times_of (header ∷ take j records) + times_of (get_or records j [])) ≡ false)
passes-at records j e h =
    rules-none (is_record (get_or records j [])) (has_form (get_or records j [])) (is_none (unit_of (unit_field (get_or records j []))))
    (not (some_and is_within_calendar (course_of (get_or records j [])))) (nat_lt 4096 (sum_by times_of (header ∷ take j records) + times_of (get_or records j [])))
    (sym (kind-of records j) ∙ none-at (record_kind (header ∷ records)) 2 (length records) j e h)

-- each record has its form
pub good-at : (records : List Record) (j : ℕ) → fault_behind records ≡ None → j < length records → IsGood (get_or records j [])
good-at records j e h = let p = passes-at records j e h in record { nine = p.0; form = p.1 }

take_all : (xs : List Record) (k : ℕ) → length xs ≤ k → take k xs ≡ xs
take_all [] zero h = refl
take_all [] (suc k) h = refl
take_all (x ∷ xs) zero h = absurd (omega arith)
take_all (x ∷ xs) (suc k) h = ap (λ l. x ∷ l) (take_all xs k (omega arith))

-- there are few commands
pub few-commands : (records : List Record) → fault_behind records ≡ None → sum_by times_of records ≤ 4096
few-commands [] e = omega arith
few-commands (r ∷ rest) e =
    let p = passes-at (r ∷ rest) (length rest) e (omega arith) in
    let few : sum_by times_of (header ∷ take (length rest) (r ∷ rest)) + times_of (get_or (r ∷ rest) (length rest) []) ≤ 4096 = ltb-false 4096 _ p.2 in
    let split : r ∷ rest ≡ take (length rest) (r ∷ rest) ++ get_or (r ∷ rest) (length rest) [] ∷ [] =
    sym (take_all (r ∷ rest) (length rest + 1) (omega arith)) ∙ take_more (r ∷ rest) (length rest) [] (omega arith) in
    let sum = ap (sum_by times_of) split ∙ sum_by-append times_of (take (length rest) (r ∷ rest)) (get_or (r ∷ rest) (length rest) [] ∷ []) in
    omega (arith, few, sum, sum_by-cons times_of header (take (length rest) (r ∷ rest)), sum_by-cons times_of (get_or (r ∷ rest) (length rest) []) [])

-- ---- the submissions

length-one_more : (f : ℕ → Option Moment) (x : ℕ) (xs : List ℕ) (n : ℕ) (o : Option Moment) → f x ≡ o → length (filter_map f xs) ≤ n → length (filter_map f (x ∷ xs)) ≤ suc n
length-one_more f x xs n None e h = rw e (omega (arith, h))
length-one_more f x xs n (Some at) e h = rw e (omega (arith, h))

length-filter_map : (f : ℕ → Option Moment) (xs : List ℕ) → length (filter_map f xs) ≤ length xs
length-filter_map f [] = omega arith
length-filter_map f (x ∷ xs) = length-one_more f x xs (length xs) (f x) refl (length-filter_map f xs)

abbrev course_by : Option Moment → Option ℕ → Option ℕ → Option TimeUnit → Option Course
course_by from every times step =
    option_and_then (λ f. option_and_then (λ e. option_and_then (λ t. option_map (λ s. record { from = f; every = e; unit = s; times = t }) step) times) every) from

abbrev times_or : Option Course → ℕ
times_or None = 0
times_or (Some c) = c.times

times-by : (from : Option Moment) (every times : Option ℕ) (step : Option TimeUnit) (c : Course) → course_by from every times step ≡ Some c → unwrap_or times 0 ≡ c.times
times-by None every times step c e = absurd cc
times-by (Some f) None times step c e = absurd cc
times-by (Some f) (Some n) None step c e = absurd cc
times-by (Some f) (Some n) (Some t) None c e = absurd cc
times-by (Some f) (Some n) (Some t) (Some s) c e = ap times_or e

times-are : (r : Record) (c : Course) → course_of r ≡ Some c → times_of r ≡ c.times
unfolding course_of times_of
times-are r c e = times-by (moment_of (from_field r)) (number_up_to 1000 (every_field r)) (number_up_to 4096 (times_field r)) (unit_of (unit_field r)) c e

length-dues_at : (place n : ℕ) (o : Option Course) → ((c : Course) → o ≡ Some c → n ≡ c.times) → length (dues_at place o) ≤ n
length-dues_at place n None h = omega arith
length-dues_at place n (Some c) h =
    omega (arith, length-map (moments_of c) (due_at place), length-filter_map (moment_in c) (range_with_len 0 c.times), length-range_with_len 0 c.times, h c refl)

pub length-dues : (place : ℕ) (records : List Record) → length (dues_from place (map course_of records)) ≤ sum_by times_of records
unfolding dues_from
length-dues place [] = omega arith
length-dues place (r ∷ rest) =
    omega (
      arith,
      length-append (dues_at place (course_of r)) (dues_from (place + 1) (map course_of rest)),
      length-dues_at place (times_of r) (course_of r) (times-are r),
      length-dues (place + 1) rest,
      sum_by-cons times_of r rest,
    )

of-course : (place n : ℕ) (o : Option Course) → place < n → All (λ (due : Due). due.series < n) (dues_at place o)
of-course place n None h = All-nil (λ (due : Due). due.series < n)
of-course place n (Some c) h = of_series place n c h

-- each is of one of the series
pub series-known : (place n : ℕ) (records : List Record) → place + length records ≤ n → All (λ (due : Due). due.series < n) (dues_from place (map course_of records))
unfolding dues_from
series-known place n [] h = All-nil (λ (due : Due). due.series < n)
series-known place n (r ∷ rest) h =
    All-append (λ (due : Due). due.series < n) (dues_at place (course_of r)) (dues_from (place + 1) (map course_of rest)) (of-course place n (course_of r) (omega arith)) (series-known (place + 1) n rest (omega arith))
