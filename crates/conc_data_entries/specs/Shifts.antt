-- Work shifts, as the tables of a setup file give them.
use Rattle.std.specs.Prelude.{ℕ, codes, if◌then◌else◌, ◌+◌, ◌-◌, ◌*◌, ◌/◌, Bool, not, ◌&&◌, ◌==◌, nat_le, nat_lt, List, [], ◌∷◌, ◌++◌, length, slice_index, Option, None, Some, Result, Ok, Err}
use Rattle.std.specs.List.{list_any}
use Rattle.std.specs.Option.{option_map}
use Rattle.toml.specs.Data.{Data, Members, get_member, as_str}
use Rattle.conc_types.specs.declared.kind.RefusalKind.{RefusalKind}
use Rattle.conc_types.specs.declared.kind.RefusalKind.TheVariants as refused
use Rattle.conc_types.specs.Fields.{is_shift}
use Rattle.conc_types.specs.declared.manager.Shift.{Shift}
use Rattle.conc_types.specs.Words.{are_distinct, is_empty}
use Rattle.conc_base_law.specs.Calendar.{moment_of}
use Rattle.conc_data_fields.specs.Arrays.{list_in}
use Rattle.conc_data_fields.specs.Fields.{default, keys_kind, optional, required}
use Rattle.conc_data_fields.specs.Forms.{whole_in}
use Rattle.conc_data_fields.specs.Kinds.{beside, both, judged, or_kind, proven}
use Rattle.conc_data_entries.specs.Tables.{one_of, table_in, word_in}

-- ---- dates, times, days and places

-- the day that is spelled as YYYY-MM-DD, counted from 0 for 0001-01-01
abbrev pub day_spelled : List ℕ → Option ℕ
day_spelled bytes = option_map (λ t. t.seconds / 86400) (moment_of (bytes ++ codes "T00:00:00"))

abbrev pub date_of : List ℕ → Result ℕ RefusalKind
date_of bytes = or_kind refused.BadShift Ok (day_spelled bytes)

abbrev pub date_in : Data → Result ℕ RefusalKind
date_in value = or_kind refused.WrongKind date_of (as_str value)

abbrev pub is_digit : ℕ → Bool
is_digit byte = nat_le 48 byte && nat_le byte 57

abbrev pub minutes : ℕ → ℕ → ℕ → ℕ → ℕ
minutes a b c d = 60 * (10 * (a - 48) + (b - 48)) + (10 * (c - 48) + (d - 48))

-- the seconds from midnight of the time HH:MM, up to 24:00, which as a first time is not before any last one
abbrev pub clock_of : ℕ → ℕ → ℕ → ℕ → ℕ → Result ℕ RefusalKind
clock_of a b colon c d =
    if (is_digit a && (is_digit b && (is_digit c && is_digit d))) && (colon == 58 && (nat_le c 53 && nat_le (minutes a b c d) 1440))
    then Ok (60 * minutes a b c d) else Err refused.BadShift

abbrev pub time_of : List ℕ → Result ℕ RefusalKind
time_of bytes =
    if length bytes == 5
    then clock_of (slice_index bytes 0) (slice_index bytes 1) (slice_index bytes 2) (slice_index bytes 3) (slice_index bytes 4)
    else Err refused.BadShift

abbrev pub time_in : Data → Result ℕ RefusalKind
time_in value = or_kind refused.WrongKind time_of (as_str value)

-- a day of the week, from 0 for Monday
abbrev pub day_of : List ℕ → Option ℕ
day_of =
    one_of (
    (codes "Mon", 0) ∷ (codes "Tue", 1) ∷ (codes "Wed", 2) ∷ (codes "Thu", 3) ∷ (codes "Fri", 4)
    ∷ (codes "Sat", 5) ∷ (codes "Sun", 6) ∷ [])

abbrev pub day_in : Data → Result ℕ RefusalKind
day_in = word_in refused.BadShift day_of

abbrev pub has_day : ℕ → List ℕ → Bool
has_day day days = list_any (λ d. day == d) days

abbrev pub day_bit : ℕ → ℕ → List ℕ → ℕ
day_bit bit day days = if has_day day days then bit else 0

-- one bit for each of the days, the lowest for Monday
abbrev pub day_bits : List ℕ → ℕ
day_bits days =
    day_bit 1 0 days + (day_bit 2 1 days + (day_bit 4 2 days + (day_bit 8 3 days + (day_bit 16 4 days + (day_bit 32 5 days + day_bit 64 6 days)))))

-- no day, or one twice, is `BadShift`
abbrev pub days_of : List ℕ → Result ℕ RefusalKind
days_of days = if not (is_empty days) && are_distinct ◌==◌ days then Ok (day_bits days) else Err refused.BadShift

unfoldable pub days_in : Data → Result ℕ RefusalKind
days_in value = judged days_of (list_in day_in value)

abbrev pub places_of : ℕ → Result ℕ RefusalKind
places_of count = if nat_lt 64 count then Err refused.OutOfRange else Ok count

-- how many places, which are 0 to 64
abbrev pub places_in : Data → Result ℕ RefusalKind
places_in value = judged places_of (whole_in value)

-- ---- shifts

abbrev pub shift_keys : List (List ℕ)
shift_keys = codes "date" ∷ codes "days" ∷ codes "from" ∷ codes "to" ∷ codes "places" ∷ []

-- one time without the other is `BadShift`
abbrev pub times_of : Option ℕ → Option ℕ → Result (Option (ℕ × ℕ)) RefusalKind
times_of None None = Ok None
times_of (Some from) (Some to) = Ok (Some (from, to))
times_of None (Some to) = Err refused.BadShift
times_of (Some from) None = Err refused.BadShift

-- a date beside days, and a first time that is not before the second, make no shift, which is `BadShift`
abbrev pub shift_of_parts : Option ℕ → ℕ → ℕ → Option (ℕ × ℕ) → Result Shift RefusalKind
shift_of_parts date days places times =
    proven (is_shift date days times places) (λ valid. record { date = date; days = days; times = times; places = places; valid = valid }) refused.BadShift

abbrev pub to_shift : Option ℕ × (ℕ × (Option ℕ × (Option ℕ × ℕ))) → Result Shift RefusalKind
to_shift parts = judged (shift_of_parts parts.0 parts.1.0 parts.1.1.1.1) (times_of parts.1.1.0 parts.1.1.1.0)

unfoldable pub shift_of : Members → Result Shift RefusalKind
shift_of table = beside (keys_kind shift_keys table) (judged to_shift (
    both (optional date_in (get_member (codes "date") table)) (
    both (default 0 days_in (get_member (codes "days") table)) (
    both (optional time_in (get_member (codes "from") table)) (
    both (optional time_in (get_member (codes "to") table))
    (required places_in (get_member (codes "places") table)))))))

abbrev pub shift_in : Data → Result Shift RefusalKind
shift_in = table_in shift_of
