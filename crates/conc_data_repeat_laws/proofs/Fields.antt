-- What the reader of scripts makes of the fields of a submission.
use Rattle.std.proofs.Common.{◌≡◌, ◌∙◌, ◌+◌, ◌/◌, ◌%◌, ◌<◌, ◌≤◌, ◌^◌, ℕ, zero, suc, Bool, true, false, not, ◌&&◌, ◌||◌, List, [], ◌∷◌, ◌++◌, Option, Some, None, ap, arith, codes, get_or, is_some, length, refl, sym}
use Rattle.std.specs.Prelude.{nat_le, nat_lt}
use Rattle.std.specs.Bool.{then_some}
use Rattle.std.specs.Char.{is_ascii_digit}
use Rattle.std.specs.Fmt.{decimal}
use Rattle.std.specs.List.{list_all}
use Rattle.std.specs.Str.{chars, IsAscii, is_utf8}
use Rattle.std.specs.Str.Parse.{AllDigits, digits_value}
use Rattle.std.proofs.lemmas.Bool.{and_parts, eq-eqb, leb-true, ltb-true}
use Rattle.std.proofs.lemmas.Fmt.{decimal-digits_value, length-decimal-le}
use Rattle.std.proofs.lemmas.Str.{is_utf8-from_IsUtf8, IsUtf8-from_ascii}
use Rattle.std.proofs.lemmas.Str.Parse.{IsNumeralModel, numerals_by_value, tells_digits}
use Rattle.std.specs.Prelude.{◌==◌}
use lib.Utf8.{encode}
use Rattle.conc_types.specs.declared.event.Moment.{Moment}
use Rattle.conc_types.specs.Decimals.{decimal_value, is_decimal}
use Rattle.conc_types.specs.Texts.{is_name, is_printable, is_text}
use Rattle.conc_types.specs.Words.{has_length, is_between, is_empty}
use Rattle.conc_types.proofs.Decimals.{decimal_digits}
use Rattle.conc_base_law.specs.Calendar.{Civil, civil_text, moment_of}
use Rattle.conc_base_law.specs.Moments.{moment_text, two_digits}
use Rattle.conc_base_law.proofs.Options.{and_then-some, then_some-some}
use Rattle.conc_time.proofs.Dates.{has_civil, text_of as civil_text_of}
use Rattle.conc_time.proofs.Spellings.{spelled_once, spells_is_read}
use Rattle.conc_data_records.specs.Records.{Record}
use Rattle.conc_script.specs.Script.{domain_of, is_record as is_script_record, priority_of}
use Rattle.conc_repeat.specs.Refusing.{has_form, is_record, submission_form}
use Rattle.conc_repeat.specs.Script.{submission}
use Rattle.conc_repeat.specs.Series.{argument_field, domain_field, every_field, from_field, number_up_to, priority_field, times_field, user_field, what_field}
use Rattle.conc_data_repeat_laws.proofs.Records.{IsGood}
use Rattle.conc_data_repeat_laws.proofs.Sizes.{IsShort}

-- ---- moments

pub moment-back : (t : Moment) → moment_of (moment_text t) ≡ Some t
moment-back t = spells_is_read (moment_text t) t ((spelled_once (moment_text t) t).1 refl)

ascii-none : IsAscii []
ascii-none i = omega arith

ascii-byte : (b : ℕ) (rest : List ℕ) → b < 128 → IsAscii rest → IsAscii (b ∷ rest)
ascii-byte b rest h more zero = h
ascii-byte b rest h more (suc i) = more i

ascii-two : (n : ℕ) (rest : List ℕ) → IsAscii rest → IsAscii (two_digits n ++ rest)
ascii-two n rest more = ascii-byte (48 + n / 10 % 10) ((48 + n % 10) ∷ rest) (omega arith) (ascii-byte (48 + n % 10) rest (omega arith) more)

civil-ascii : (c : Civil) → IsAscii (civil_text c)
unfolding civil_text
civil-ascii c =
    let second = two_digits c.second ++ [] in
    let minute = two_digits c.minute ++ 58 ∷ second in
    let hour = two_digits c.hour ++ 58 ∷ minute in
    let day = two_digits c.day ++ 84 ∷ hour in
    let month = two_digits c.month ++ 45 ∷ day in
    let seconds = ascii-two c.second [] ascii-none in
    let minutes = ascii-two c.minute (58 ∷ second) (ascii-byte 58 second (omega arith) seconds) in
    let hours = ascii-two c.hour (58 ∷ minute) (ascii-byte 58 minute (omega arith) minutes) in
    let days = ascii-two c.day (84 ∷ hour) (ascii-byte 84 hour (omega arith) hours) in
    let months = ascii-two c.month (45 ∷ day) (ascii-byte 45 day (omega arith) days) in
    ascii-two (c.year / 100) (two_digits (c.year % 100) ++ 45 ∷ month) (ascii-two (c.year % 100) (45 ∷ month) (ascii-byte 45 month (omega arith) months))

moment-utf8 : (t : Moment) → is_utf8 (moment_text t) ≡ true
moment-utf8 t =
    let c = has_civil t in
    rw (civil_text_of t c.civil c.valid c.at) (is_utf8-from_IsUtf8 (civil_text c.civil) (IsUtf8-from_ascii (civil_text c.civil) (civil-ascii c.civil)))

-- ---- numbers

own : IsNumeralModel (AllDigits 10) (digits_value 10)
own = numerals_by_value (AllDigits 10) tells_digits

decimal_some : (bs : List ℕ) → is_decimal bs ≡ true → 0 < length bs
decimal_some [] e = absurd cc
decimal_some (c ∷ cs) e = omega arith

zero_alone : (bs : List ℕ) → is_decimal bs ≡ true → get_or bs 0 0 ≡ 48 → length bs ≡ 1
zero_alone [] e z = absurd cc
zero_alone (c ∷ []) e z = refl
zero_alone (c ∷ d ∷ ds) e z =
    let k = and_parts (is_ascii_digit c) _ e in
    let m = and_parts (list_all is_ascii_digit (d ∷ ds)) (not (c == 48) || false) k.1 in
    let here : (c == 48) ≡ true = eq-eqb c 48 z in
    let none : (not true || false) ≡ true = rw here at m.1 in
    absurd cc

decimal-spelled : (word : List ℕ) (n : ℕ) → decimal_value word ≡ Some n → word ≡ decimal n
decimal-spelled word n h =
    let p = then_some-some (is_decimal word && nat_lt (digits_value 10 word) (2 ^ 64)) (digits_value 10 word) n h in
    let q = and_parts (is_decimal word) (nat_lt (digits_value 10 word) (2 ^ 64)) p.0 in
    let below : digits_value 10 word < 18446744073709551616 = ltb-true (digits_value 10 word) 18446744073709551616 q.1 in
    sym (decimal-digits_value own word (decimal_digits word q.0) (decimal_some word q.0) (zero_alone word q.0) below) ∙ ap decimal p.1

two-digits-long : (word : List ℕ) (n : ℕ) → number_up_to 99 word ≡ Some n → length word ≤ 2
two-digits-long word n h =
    let (m, found, kept) = and_then-some (λ m. then_some (is_between 1 99 m) m) (decimal_value word) n h in
    let p = then_some-some (is_between 1 99 m) m n kept in
    let most = leb-true m 99 (and_parts (nat_le 1 m) (nat_le m 99) p.0).1 in
    rw (decimal-spelled word m found) (length-decimal-le 2 m (omega arith) (omega arith) (omega arith))

-- ---- the fields of a submission

some-of : {A : Type 0} (o : Option A) → is_some o ≡ true → (x : A) × (o ≡ Some x)
some-of None e = absurd cc
some-of (Some x) e = (x, refl)

pub record HasPriority (bytes : List ℕ) : Type 0 where
  pub value : ℕ
  pub is : priority_of bytes ≡ Some value
  pub short : length bytes ≤ 2

has-priority : (bytes : List ℕ) → (is_empty bytes || is_some (number_up_to 99 bytes)) ≡ true → HasPriority bytes
unfolding priority_of
has-priority [] e = record { value = 50; is = refl; short = omega arith }
has-priority (b ∷ bytes) e =
    let (n, found) = some-of (number_up_to 99 (b ∷ bytes)) e in
    record { value = n; is = found; short = two-digits-long (b ∷ bytes) n found }

name-parts : (some few printable utf8 : Bool) → (some && few && printable && utf8) ≡ true → (few ≡ true) × (utf8 ≡ true)
name-parts false few printable utf8 e = absurd cc
name-parts true false printable utf8 e = absurd cc
name-parts true true false utf8 e = absurd cc
name-parts true true true false e = absurd cc
name-parts true true true true e = (refl, refl)

text-parts : (few printable utf8 : Bool) → (few && printable && utf8) ≡ true → (few ≡ true) × (utf8 ≡ true)
text-parts false printable utf8 e = absurd cc
text-parts true false utf8 e = absurd cc
text-parts true true false e = absurd cc
text-parts true true true e = (refl, refl)

pub record IsShortText (most : ℕ) (bytes : List ℕ) : Type 0 where
  pub short : length bytes ≤ most
  pub utf8 : is_utf8 bytes ≡ true

name-short : (bytes : List ℕ) → is_name bytes ≡ true → IsShortText 80 bytes
name-short bytes e =
    let p = name-parts (nat_le 1 (length bytes)) (nat_le (length bytes) 80) (list_all is_printable bytes) (is_utf8 bytes) e in
    record { short = leb-true (length bytes) 80 p.0; utf8 = p.1 }

text-short : (bytes : List ℕ) → is_text 200 bytes ≡ true → IsShortText 200 bytes
text-short bytes e =
    let p = text-parts (nat_le (length bytes) 200) (list_all is_printable bytes) (is_utf8 bytes) e in
    record { short = leb-true (length bytes) 200 p.0; utf8 = p.1 }

pub record HasDomain (bytes : List ℕ) : Type 0 where
  pub value : List ℕ
  pub is : domain_of bytes ≡ Some value
  pub short : length bytes ≤ 80

has-domain : (bytes : List ℕ) → (is_empty bytes || is_name bytes) ≡ true → HasDomain bytes
unfolding domain_of
has-domain [] e = record { value = codes "Standard"; is = refl; short = omega arith }
has-domain (b ∷ bytes) e = record { value = b ∷ bytes; is = rw e refl; short = (name-short (b ∷ bytes) e).short }

empty-utf8 : is_utf8 [] ≡ true
unfolding is_utf8 chars encode
empty-utf8 = refl

submit-utf8 : is_utf8 (codes "submit") ≡ true
unfolding is_utf8 chars encode
submit-utf8 = refl

utf8-at : (r : Record) (i : ℕ) → list_all is_utf8 r ≡ true → is_utf8 (get_or r i []) ≡ true
utf8-at [] i e = empty-utf8
utf8-at (x ∷ r) zero e = (and_parts (is_utf8 x) (list_all is_utf8 r) e).0
utf8-at (x ∷ r) (suc i) e = utf8-at r i (and_parts (is_utf8 x) (list_all is_utf8 r) e).1

-- what a record keeps for its submissions
pub record Keeps (r : Record) : Type 0 where
  pub user : is_name (user_field r) ≡ true
  pub priority : HasPriority (priority_field r)
  pub domain : HasDomain (domain_field r)
  pub argument : is_text 200 (argument_field r) ≡ true
  pub short : IsShort r
  pub line : (at : Moment) → is_script_record (submission at r) ≡ true

form-of : (r : Record) → has_form r ≡ true → submission_form r ≡ true
unfolding has_form
form-of r e =
    let p = and_parts (is_some (moment_of (from_field r))) _ e in
    let q = and_parts (is_some (number_up_to 1000 (every_field r))) _ p.1 in
    (and_parts (is_some (number_up_to 4096 (times_field r))) (submission_form r) q.1).1

all-utf8 : (r : Record) → is_record r ≡ true → list_all is_utf8 r ≡ true
unfolding is_record
all-utf8 r e = (and_parts (has_length 9 r) (list_all is_utf8 r) e).1

line-is : (at : Moment) (r : Record) → is_utf8 (what_field r) ≡ true → is_utf8 (user_field r) ≡ true → is_utf8 (priority_field r) ≡ true → is_utf8 (domain_field r) ≡ true → is_utf8 (argument_field r) ≡ true
    → is_script_record (submission at r) ≡ true
unfolding is_script_record
line-is at r what user priority domain argument = rw (moment-utf8 at, submit-utf8, empty-utf8, what, user, priority, domain, argument) refl

pub keeps : (r : Record) → IsGood r → Keeps r
keeps r good =
    let p = and_parts (is_name (what_field r)) _ (form-of r good.form) in
    let q = and_parts (is_name (user_field r)) _ p.1 in
    let s = and_parts (is_empty (priority_field r) || is_some (number_up_to 99 (priority_field r))) _ q.1 in
    let t = and_parts (is_empty (domain_field r) || is_name (domain_field r)) (is_text 200 (argument_field r)) s.1 in
    let what = name-short (what_field r) p.0 in
    let user = name-short (user_field r) q.0 in
    let priority = has-priority (priority_field r) s.0 in
    let domain = has-domain (domain_field r) t.0 in
    let argument = text-short (argument_field r) t.1 in
    let utf8 = all-utf8 r good.nine in
    record {
      user = q.0;
      priority = priority;
      domain = domain;
      argument = t.1;
      short = record { what = what.short; user = user.short; priority = priority.short; domain = domain.short; argument = argument.short };
      line = λ at. line-is at r (utf8-at r 4 utf8) (utf8-at r 5 utf8) (utf8-at r 6 utf8) (utf8-at r 7 utf8) (utf8-at r 8 utf8);
    }
