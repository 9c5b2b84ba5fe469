-- What is known of a file when some of its records are read.
use Rattle.std.proofs.Common.{◌≡◌, refl, ◌∙◌, ap, sym, ◌≤◌, ◌+◌, ◌-◌, ℕ, suc, List, [], ◌∷◌, ◌++◌, length, map, get_or, take, append_assoc, arith}
use Rattle.std.specs.Prelude.{Option, None, Some}
use Rattle.std.specs.List.{sum_by}
use Rattle.std.proofs.lemmas.List.{append-nil, get_or_at, length-map, length_push, map-append, take_at}
use Rattle.std.proofs.lemmas.List.Sums.{sum_by-append}
use Rattle.conc_types.specs.declared.kind.RefusalKind.{RefusalKind}
use Rattle.conc_types.specs.Faults.{first_broken, first_fault}
use Rattle.conc_data_records.specs.Records.{Record}
use Rattle.conc_repeat.specs.declared.courses.Course.{Course}
use Rattle.conc_repeat.specs.declared.series.Series.{Series}
use Rattle.conc_repeat.specs.Kept.{AreSeries, fault_behind, words_in, words_of}
use Rattle.conc_repeat.specs.Refusing.{commands_before, record_kind, record_rules}
use Rattle.conc_repeat.specs.Series.{course_of, header, times_of}
use Rattle.conc_repeat.proofs.Faults.{fault_here, fault_later, fault_none}

abbrev course_kept : Series → Option Course
course_kept s = Some s.course

-- some records behind the header break no rule; these are their series, and so many commands they say
pub record ReadsOn (records rest : List Record) (all : List Series) (commands : ℕ) : Type 0 where
  pub done : List Record
  pub split : records ≡ done ++ rest
  pub courses : map course_of done ≡ map course_kept all
  pub words : map words_of done ≡ map words_in all
  pub commands_are : commands ≡ sum_by times_of (header ∷ done)
  pub faults : fault_behind records ≡ first_fault (record_kind (header ∷ records)) (length all + 2) (length rest)
  pub few : commands ≤ 4096
  pub short : length all ≤ commands

-- the header says no command
header_times : times_of header ≡ 0
unfolding times_of
header_times = refl

pub reads_none : (records : List Record) (all : List Series) → all ≡ [] → ReadsOn records records all 0
reads_none records all e =
    rw e (record {
      done = [];
      split = refl;
      courses = refl;
      words = refl;
      commands_are = omega (arith, header_times);
      faults = refl;
      few = omega arith;
      short = omega arith;
    })

-- the rules of the record after those that are read
kind_next : (records after : List Record) (r : Record) (all : List Series) (commands : ℕ) → ReadsOn records (r ∷ after) all commands
    → record_kind (header ∷ records) (length all + 2) ≡ first_broken (record_rules commands r)
unfolding record_kind commands_before
kind_next records after r all commands reads =
    let many : length reads.done ≡ length all = sym (length-map reads.done words_of) ∙ (ap length reads.words ∙ length-map all words_in) in
    let place : length all + 2 - 1 ≡ suc (length reads.done) = omega (arith, many) in
    let here : get_or (header ∷ records) (suc (length reads.done)) [] ≡ r = rw reads.split (get_or_at reads.done r after [] (length reads.done) refl) in
    let front : take (suc (length reads.done)) (header ∷ records) ≡ header ∷ reads.done = rw reads.split (take_at (header ∷ reads.done) (r ∷ after) (suc (length reads.done)) refl) in
    rw (place, here, front, ← reads.commands_are) refl

-- one more record is read
pub reads_more : (records after : List Record) (r : Record) (all more : List Series) (commands commands' : ℕ) (s : Series)
    → ReadsOn records (r ∷ after) all commands → first_broken (record_rules commands r) ≡ None
    → course_of r ≡ Some s.course → words_of r ≡ words_in s → times_of r ≡ s.course.times → 1 ≤ s.course.times → commands' ≡ commands + s.course.times → commands' ≤ 4096
    → more ≡ all ++ s ∷ [] → ReadsOn records after more commands'
reads_more records after r all more commands commands' s reads passes course words times some total few m =
    let many : length more ≡ length all + 1 = rw m (length_push all s) in
    let next : length all + 2 + 1 ≡ length more + 2 = omega (arith, many) in
    let sum = sum_by-append times_of (header ∷ reads.done) (r ∷ []) in
    record {
      done = reads.done ++ r ∷ [];
      split = reads.split ∙ sym (append_assoc reads.done (r ∷ []) after);
      courses = rw (m, map-append course_of reads.done (r ∷ []), map-append course_kept all (s ∷ []), reads.courses, course) refl;
      words = rw (m, map-append words_of reads.done (r ∷ []), map-append words_in all (s ∷ []), reads.words, words) refl;
      commands_are = omega (arith, total, sum, reads.commands_are, times);
      faults =
          reads.faults ∙ (fault_later (record_kind (header ∷ records)) (length all + 2) (length after) (kind_next records after r all commands reads ∙ passes)
          ∙ ap (λ (k : ℕ). first_fault (record_kind (header ∷ records)) k (length after)) next);
      few = few;
      short = omega (arith, many, reads.short, total, some);
    }

-- the next record breaks a rule
pub reads_fault : (records after : List Record) (r : Record) (all : List Series) (commands number : ℕ) (kind : RefusalKind)
    → ReadsOn records (r ∷ after) all commands → number ≡ length all + 2 → first_broken (record_rules commands r) ≡ Some kind
    → fault_behind records ≡ Some (number, kind)
reads_fault records after r all commands number kind reads n broken =
    rw n (reads.faults ∙ fault_here (record_kind (header ∷ records)) (length all + 2) (length after) kind (kind_next records after r all commands reads ∙ broken))

-- all records are read
pub reads_all : (records : List Record) (all : List Series) (commands : ℕ) → ReadsOn records [] all commands → AreSeries records all
reads_all records all commands reads = record {
  faultless = reads.faults ∙ fault_none (record_kind (header ∷ records)) (length all + 2);
  courses = ap (map course_of) (reads.split ∙ append-nil reads.done) ∙ reads.courses;
  words = ap (map words_of) (reads.split ∙ append-nil reads.done) ∙ reads.words;
}
