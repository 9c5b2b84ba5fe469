-- Which requests a manager admits, and how many places it has.
use Rattle.std.specs.Prelude.{ℕ, Bool, not, ◌&&◌, ◌||◌, ◌==◌, ◌+◌, ◌/◌, ◌%◌, nat_le, nat_lt, if◌then◌else◌, List, map, is_some}
use Rattle.std.specs.List.{list_any, filter}
use Rattle.std.specs.Str.{bytes_eq}
use Rattle.conc_types.specs.declared.event.Moment.{Moment}
use Rattle.conc_types.specs.declared.item.Item.TheVariants as item
use Rattle.conc_types.specs.declared.manager.Manager.{Manager}
use Rattle.conc_types.specs.declared.manager.Rule.{Rule}
use Rattle.conc_types.specs.declared.manager.Shift.{Shift}
use Rattle.conc_types.specs.declared.plan.Req.{Req}
use Rattle.conc_types.specs.Stages.{has_bit}
use Rattle.conc_types.specs.Words.{greatest, is_empty, none_or}
use Rattle.conc_base_law.specs.Words.{is_set, item_eq}

-- the request agrees with all that the rule names
unfoldable pub matches : Req → Rule → Bool
matches r rule =
    none_or (λ program. item_eq (item.Program program) r.item) rule.program
    && (none_or (λ request_type. bytes_eq request_type r.request_type) rule.request_type
    && none_or (λ user. bytes_eq user r.user) rule.user)

-- no set; some include rule matches, or there is none; and no exclude rule matches
unfoldable pub admits : Manager → Req → Bool
admits manager r =
    not (is_set r.item)
    && ((is_empty manager.include || list_any (matches r) manager.include)
    && not (list_any (matches r) manager.exclude))

-- the day of a moment, from 0 for 0001-01-01, a Monday; its weekday, from 0 for Monday; the second of its day
abbrev pub day_of : Moment → ℕ
day_of t = t.seconds / 86400

abbrev pub weekday_of : Moment → ℕ
weekday_of t = day_of t % 7

abbrev pub time_of : Moment → ℕ
time_of t = t.seconds % 86400

-- the shift's date, days and times, where given, have the moment
unfoldable pub shift_covers : Moment → Shift → Bool
shift_covers t shift =
    none_or (λ date. day_of t == date) shift.date
    && ((shift.days == 0 || has_bit shift.days (weekday_of t))
    && none_or (λ times. nat_le times.0 (time_of t) && nat_lt (time_of t) times.1) shift.times)

-- the level of a shift: date and times, date, days and times, days, times, neither, from the strongest
unfoldable pub level : Shift → ℕ
level shift =
    (if is_some shift.date then 4 else (if shift.days == 0 then 0 else 2))
    + (if is_some shift.times then 1 else 0)

-- the shifts that cover the moment, and of these those of the strongest level
unfoldable pub covering : Manager → Moment → List Shift
covering manager t = filter (shift_covers t) manager.shifts

unfoldable pub strongest : List Shift → List Shift
strongest shifts = filter (λ shift. level shift == greatest (map level shifts)) shifts

-- the places of a manager at a moment
unfoldable pub places : Manager → Moment → ℕ
places manager t =
    if is_empty manager.shifts then 1 else greatest (map (λ shift. shift.places) (strongest (covering manager t)))
