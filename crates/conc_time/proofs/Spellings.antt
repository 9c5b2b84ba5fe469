-- Which bytes spell a moment, and which the law reads.
use Rattle.std.proofs.Common.{◌≡◌, ◌∙◌, sym, ap, refl, ℕ, ◌↔◌, Bool, true, false, List, Some, None, cond, arith}
use Rattle.std.proofs.lemmas.Bool.{and_parts}
use Rattle.std.proofs.lemmas.Option.{cond_some, none-some}
use Rattle.std.proofs.lemmas.Slice.Eq.{bytes_eq-Decides}
use Rattle.std.specs.Str.{bytes_eq}
use Rattle.conc_types.specs.declared.event.Moment.{Moment}
use Rattle.conc_base_law.specs.Calendar.{Civil, civil_of, civil_text, is_civil, is_spelling, moment_at, moment_of, seconds_of, SpellsMoment}
use Rattle.conc_base_law.specs.Moments.{moment_text}
use Rattle.conc_base_law.proofs.EqualEvents.{moment_same}
use Rattle.conc_time.specs.Fields.{numbers_at}
use Rattle.conc_time.proofs.Calendars.{month_short}
use Rattle.conc_time.proofs.Dates.{has_civil, text_of}
use Rattle.conc_time.proofs.Numbers.{HasPlaces, numbers_back, read_back}
use Rattle.conc_time.proofs.Parts.{from_parts, IsCivil, parts_of}

pub has_places : (c : Civil) → IsCivil c → HasPlaces c
has_places c h =
    let year_in = h.date.year_in in
    let month_in = h.date.month_in in
    let day_in = h.date.day_in in
    let hour_in = h.hour_in in
    let minute_in = h.minute_in in
    let second_in = h.second_in in
    let short = month_short c.year c.month month_in.0 month_in.1 in
    record { year = omega arith; month = omega arith; day = omega arith; hour = omega arith; minute = omega arith; second = omega arith }

-- the text of a date and a time is read as their moment
pub spelling_is_read : (c : Civil) (t : Moment) → is_civil c ≡ true → t.seconds ≡ seconds_of c → moment_of (civil_text c) ≡ Some t
unfolding moment_of is_spelling moment_at
spelling_is_read c t h e =
    let parts = parts_of c h in
    let back = read_back c (has_places c parts) in
    let same : bytes_eq (civil_text c) (civil_text c) ≡ true = (bytes_eq-Decides (civil_text c) (civil_text c)).1 refl in
    let civil = t.civil in
    rw (back, h, same) (ap Some (moment_same _ t (omega arith)))

apart : true ≡ false → ⊥
apart h = cc

-- where bytes spell a moment, the law reads it
pub spells_is_read : (bytes : List ℕ) (t : Moment) → SpellsMoment bytes t → moment_of bytes ≡ Some t
spells_is_read bytes t h = rw h.text (spelling_is_read h.civil t h.valid h.at)

-- where the numbers at the places are none of a spelling, the law reads nothing
unread : (bytes : List ℕ) (n : Civil) (test : Bool) → test ≡ is_spelling bytes → n ≡ numbers_at bytes → (is_civil n ≡ true → bytes ≡ civil_text n → ⊥) → moment_of bytes ≡ None
unfolding moment_of is_spelling
unread bytes n true e same h =
    let tests = and_parts (is_civil (civil_of bytes)) _ (sym e) in
    let text = (bytes_eq-Decides bytes (civil_text (civil_of bytes))).0 tests.1 in
    let back = numbers_back (civil_of bytes) (has_places (civil_of bytes) (parts_of (civil_of bytes) tests.0)) in
    let is : n ≡ civil_of bytes = same ∙ ap numbers_at text ∙ back in
    absurd (h (rw is tests.0) (text ∙ ap civil_text (sym is)))
unread bytes n false e same h = rw (← e) refl

lacks_civil : (test : Bool) (seconds : ℕ) → None ≡ cond test (Some seconds) None → test ≡ true → ⊥
lacks_civil true seconds e h = cc
lacks_civil false seconds e h = cc

pub not_civil : (bytes : List ℕ) (n : Civil) → n ≡ numbers_at bytes → None ≡ cond (is_civil n) (Some (seconds_of n)) None → moment_of bytes ≡ None
not_civil bytes n same e = unread bytes n (is_spelling bytes) refl same (λ h text. lacks_civil (is_civil n) (seconds_of n) e h)

pub not_text : (bytes : List ℕ) (n : Civil) → n ≡ numbers_at bytes → bytes_eq bytes (civil_text n) ≡ false → moment_of bytes ≡ None
not_text bytes n same e = unread bytes n (is_spelling bytes) refl same (λ h text. let eq = (bytes_eq-Decides bytes (civil_text n)).1 text in apart (sym eq ∙ e))

-- and where they are of one, it reads that
pub is_read : (bytes : List ℕ) (n : Civil) (t : Moment) → Some t.seconds ≡ cond (is_civil n) (Some (seconds_of n)) None → bytes_eq bytes (civil_text n) ≡ true → moment_of bytes ≡ Some t
is_read bytes n t e same =
    let text = (bytes_eq-Decides bytes (civil_text n)).0 same in
    let found = cond_some (is_civil n) (seconds_of n) t.seconds (sym e) in
    rw text (spelling_is_read n t found.0 (sym found.1))

-- bytes that the law does not read spell no moment
pub not_spelled : (bytes : List ℕ) → moment_of bytes ≡ None → (t : Moment) → SpellsMoment bytes t → ⊥
not_spelled bytes e t h = none-some t (sym e ∙ spells_is_read bytes t h)

-- bytes spell a moment exactly where they are its text
pub spelled_once : (bytes : List ℕ) (t : Moment) → SpellsMoment bytes t ↔ (bytes ≡ moment_text t)
spelled_once bytes t =
    let c = has_civil t in (
      λ h. h.text ∙ sym (text_of t h.civil (parts_of h.civil h.valid) h.at),
      λ e. record { civil = c.civil; valid = from_parts c.civil c.valid; text = e ∙ text_of t c.civil c.valid c.at; at = c.at },
    )
