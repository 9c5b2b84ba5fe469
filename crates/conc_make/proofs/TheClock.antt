-- The clock file's text is one reading.
use Rattle.std.proofs.Common.{◌≡◌, true, false, [], ◌∷◌, Some, None, ap, refl}
use Rattle.std.specs.Option.{option_map}
use Rattle.conc_types.specs.declared.event.Moment.{Moment}
use Rattle.conc_types.specs.declared.script.Readings.{Readings}
use Rattle.conc_types.specs.Faults.{first_fault}
use Rattle.conc_base_law.specs.Calendar.{civil_of, civil_text, is_civil, is_spelling, moment_at, moment_of, month_lengths, seconds_of}
use Rattle.conc_base_law.specs.Moments.{is_leap}
use Rattle.conc_script.specs.Clock.{SpellsClock, clock_fault, line_kind, reading, reading_at, reading_of}
use Rattle.conc_make.specs.Files.{clock_text, moment_word}

-- the moment of all submissions and of the reading
unfoldable pub the_moment : Moment
the_moment = moment_at (seconds_of (civil_of moment_word))

spelled : is_spelling moment_word ≡ true
unfolding is_spelling is_civil civil_of civil_text month_lengths is_leap
spelled = refl

pub moment-is : moment_of moment_word ≡ Some the_moment
unfolding moment_of the_moment
moment-is = rw spelled refl

reading-is : reading_of moment_word ≡ Some (reading false the_moment)
unfolding reading_of
reading-is = ap (option_map (reading false)) moment-is

-- the clock that is made
unfoldable pub the_readings : Readings
the_readings = record { list = reading false the_moment ∷ []; some = refl; in_order = refl }

faultless : clock_fault clock_text ≡ None
unfolding clock_fault clock_text first_fault line_kind reading_at
faultless = rw reading-is refl

pub clock-spelled : SpellsClock clock_text the_readings
unfolding clock_text the_readings
clock-spelled = record { faultless = faultless; list = ap (λ r. r ∷ []) reading-is }
