-- The records of a file of repeats, and the series that each says.
use Rattle.std.specs.Prelude.{ℕ, ◌*◌, if◌then◌else◌, List, [], ◌∷◌, codes, get_or, Option, None, Some}
use Rattle.std.specs.Bool.{then_some}
use Rattle.std.specs.List.{filter_map, range_with_len}
use Rattle.std.specs.Option.{option_and_then, option_map}
use Rattle.std.specs.Prelude.{unwrap_or}
use Rattle.std.specs.Str.{bytes_eq}
use Rattle.conc_types.specs.declared.event.Moment.{Moment}
use Rattle.conc_types.specs.Decimals.{decimal_value}
use Rattle.conc_types.specs.Words.{is_between}
use Rattle.conc_base_law.specs.Calendar.{moment_of}
use Rattle.conc_data_records.specs.Records.{Record}
use Rattle.conc_repeat.specs.declared.courses.Course.{Course}
use Rattle.conc_repeat.specs.declared.courses.TimeUnit.{TimeUnit}
use Rattle.conc_repeat.specs.declared.courses.TimeUnit.TheVariants as unit
use Rattle.conc_repeat.specs.Moves.{moved}

-- ---- fields

-- from,every,unit,times,what,user,priority,domain,argument
abbrev pub header : Record
header =
    codes "from" ∷ codes "every" ∷ codes "unit" ∷ codes "times" ∷ codes "what" ∷ codes "user" ∷ codes "priority" ∷ codes "domain" ∷ codes "argument" ∷ []

-- the field at a place, from 0
abbrev pub field : ℕ → Record → List ℕ
field n r = get_or r n []

abbrev pub from_field : Record → List ℕ
from_field = field 0

abbrev pub every_field : Record → List ℕ
every_field = field 1

abbrev pub unit_field : Record → List ℕ
unit_field = field 2

abbrev pub times_field : Record → List ℕ
times_field = field 3

abbrev pub what_field : Record → List ℕ
what_field = field 4

abbrev pub user_field : Record → List ℕ
user_field = field 5

abbrev pub priority_field : Record → List ℕ
priority_field = field 6

abbrev pub domain_field : Record → List ℕ
domain_field = field 7

abbrev pub argument_field : Record → List ℕ
argument_field = field 8

-- ---- what they say

-- a decimal from 1 to a number
abbrev pub number_up_to : ℕ → List ℕ → Option ℕ
number_up_to most bytes = option_and_then (λ n. then_some (is_between 1 most n) n) (decimal_value bytes)

unfoldable pub unit_of : List ℕ → Option TimeUnit
unit_of word =
    if bytes_eq word (codes "hours") then Some unit.Hours
    else (if bytes_eq word (codes "days") then Some unit.Days
    else (if bytes_eq word (codes "weeks") then Some unit.Weeks else (if bytes_eq word (codes "months") then Some unit.Months else None)))

-- how many moments the series of a record has
unfoldable pub times_of : Record → ℕ
times_of r = unwrap_or (number_up_to 4096 (times_field r)) 0

-- the course of a record's series
unfoldable pub course_of : Record → Option Course
course_of r =
    option_and_then (λ from. option_and_then (λ every. option_and_then (λ times. option_map (λ step.
    record { from = from; every = every; unit = step; times = times })
    (unit_of (unit_field r))) (number_up_to 4096 (times_field r))) (number_up_to 1000 (every_field r))) (moment_of (from_field r))

-- ---- moments

-- the k-th moment of a series, counted from 0: its first one, moved by k times its units
unfoldable pub moment_in : Course → ℕ → Option Moment
moment_in c k = moved c.from c.unit (k * c.every)

-- its moments
abbrev pub moments_of : Course → List Moment
moments_of c = filter_map (moment_in c) (range_with_len 0 c.times)
