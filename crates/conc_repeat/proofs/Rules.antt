-- What the rules of a record say, once what its fields say is known.
use Rattle.std.proofs.Common.{◌≡◌, refl, ◌+◌, ℕ, true, false}
use Rattle.std.specs.Prelude.{nat_lt, None, Some}
use Rattle.conc_types.specs.declared.kind.RefusalKind.TheVariants as refused
use Rattle.conc_types.specs.declared.event.Moment.{Moment}
use Rattle.conc_types.specs.Faults.{first_broken}
use Rattle.conc_base_law.specs.Calendar.{moment_of}
use Rattle.conc_data_records.specs.Records.{Record}
use Rattle.conc_repeat.specs.declared.courses.Course.{Course}
use Rattle.conc_repeat.specs.declared.courses.TimeUnit.{TimeUnit}
use Rattle.conc_repeat.specs.Refusing.{has_form, is_record, is_within_calendar, record_rules}
use Rattle.conc_repeat.specs.Series.{course_of, every_field, from_field, number_up_to, times_field, times_of, unit_field, unit_of}

-- a record of nine fields of UTF-8 in their form, with a unit that is known
pub record HasCourse (r : Record) (c : Course) : Type 0 where
  pub nine : is_record r ≡ true
  pub form : has_form r ≡ true
  pub unit : unit_of (unit_field r) ≡ Some c.unit
  pub course : course_of r ≡ Some c
  pub times : times_of r ≡ c.times

pub has_course : (r s : Record) (from : Moment) (every times : ℕ) (step : TimeUnit) → r ≡ s → is_record r ≡ true → has_form s ≡ true
    → (moment_of (from_field s) ≡ Some from) × (number_up_to 1000 (every_field s) ≡ Some every) × (number_up_to 4096 (times_field s) ≡ Some times)
    → unit_of (unit_field s) ≡ Some step → HasCourse r (record { from = from; every = every; unit = step; times = times })
unfolding course_of times_of
has_course r s from every times step same nine form said unit = record {
  nine = nine;
  form = rw same form;
  unit = rw same unit;
  course = rw (same, said.0, said.1, said.2, unit) refl;
  times = rw (same, said.2) refl;
}

pub past_end : (commands : ℕ) (r : Record) (c : Course) → HasCourse r c → is_within_calendar c ≡ false → first_broken (record_rules commands r) ≡ Some refused.PastEnd
past_end commands r c has past = rw (has.nine, has.form, has.unit, has.course, past) refl

pub too_many : (commands : ℕ) (r : Record) (c : Course) → HasCourse r c → is_within_calendar c ≡ true → nat_lt 4096 (commands + c.times) ≡ true
    → first_broken (record_rules commands r) ≡ Some refused.TooManyCommands
too_many commands r c has within many = rw (has.nine, has.form, has.unit, has.course, has.times, within, many) refl

pub none_broken : (commands : ℕ) (r : Record) (c : Course) → HasCourse r c → is_within_calendar c ≡ true → nat_lt 4096 (commands + c.times) ≡ false
    → first_broken (record_rules commands r) ≡ None
none_broken commands r c has within few = rw (has.nine, has.form, has.unit, has.course, has.times, within, few) refl
