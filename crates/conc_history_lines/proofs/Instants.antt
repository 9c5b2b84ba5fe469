-- Each moment has one spelling.
use Rattle.std.proofs.Common.{◌≡◌, ap, ◌<◌, ◌%◌, ℕ, true, List, Some, arith}
use Rattle.std.specs.Str.{bytes_eq}
use Rattle.std.proofs.lemmas.Bool.{and_parts}
use Rattle.std.proofs.lemmas.Option.{cond_some}
use Rattle.std.proofs.lemmas.Slice.Eq.{bytes_eq-Decides}
use Rattle.conc_types.specs.declared.event.Moment.{Moment}
use Rattle.conc_base_law.specs.Calendar.{Civil, civil_of, civil_text, is_civil, is_spelling, moment_at, moment_of, seconds_of, SpellsMoment}
use Rattle.conc_base_law.specs.Moments.{moment_text}
use Rattle.conc_time.proofs.Dates.{days_in}
use Rattle.conc_time.proofs.Parts.{parts_of}
use Rattle.conc_time.proofs.Spellings.{spelled_once}

-- a moment of the calendar is before its end
within : (c : Civil) → is_civil c ≡ true → seconds_of c < 315537897600
unfolding seconds_of
within c h =
    let parts = parts_of c h in
    let days = days_in c parts.date in
    let hours = parts.hour_in in
    let minutes = parts.minute_in in
    let seconds = parts.second_in in
    omega arith

-- bytes that are read as a moment spell it
spells : (bytes : List ℕ) (t : Moment) → moment_of bytes ≡ Some t → SpellsMoment bytes t
unfolding moment_of is_spelling moment_at
spells bytes t h =
    let c = civil_of bytes in
    let p = cond_some (is_spelling bytes) (moment_at (seconds_of c)) t h in
    let q = and_parts (is_civil c) (bytes_eq bytes (civil_text c)) p.0 in
    let low = within c q.0 in
    let at : seconds_of c % 315537897600 ≡ t.seconds = ap (λ (m : Moment). m.seconds) p.1 in
    record { civil = c; valid = q.0; text = (bytes_eq-Decides bytes (civil_text c)).0 q.1; at = omega arith }

pub moment_spelled : (bytes : List ℕ) (t : Moment) → moment_of bytes ≡ Some t → bytes ≡ moment_text t
moment_spelled bytes t h = (spelled_once bytes t).0 (spells bytes t h)
