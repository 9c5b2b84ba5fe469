-- The event that is forced at a position, and those that are allowed where none is.
use Rattle.std.specs.Prelude.{ℕ, ◌^◌, Bool, true, false, not, ◌&&◌, ◌||◌, ◌==◌, nat_lt, if◌then◌else◌, Option, None, Some, is_none, is_some, unwrap_or}
use Rattle.std.specs.List.{enumerate_from, find, list_any}
use Rattle.std.specs.Option.{option_and_then, option_map, option_or}
use Rattle.conc_types.specs.declared.event.Event.{Event}
use Rattle.conc_types.specs.declared.event.Event.TheVariants as event
use Rattle.conc_types.specs.declared.event.Extent.{Extent}
use Rattle.conc_types.specs.declared.event.Moment.{Moment}
use Rattle.conc_types.specs.declared.event.Outcome.{Outcome}
use Rattle.conc_types.specs.declared.event.Outcome.TheVariants as outcome
use Rattle.conc_types.specs.declared.event.PlaceId.{PlaceId}
use Rattle.conc_types.specs.declared.facts.State.{State}
use Rattle.conc_types.specs.declared.plan.Plan.{Plan}
use Rattle.conc_types.specs.declared.plan.Req.{Req}
use Rattle.conc_types.specs.declared.script.Order.{Order}
use Rattle.conc_types.specs.declared.script.Reading.{Reading}
use Rattle.conc_types.specs.Plans.{request}
use Rattle.conc_types.specs.Words.{numbered, some_and}
use Rattle.conc_base_law.specs.Events.{event_eq}
use Rattle.conc_base_law.specs.Kinds.{is_resume}
use Rattle.conc_base_law.specs.Managers.{admits}
use Rattle.conc_base_law.specs.Places.{all_places, is_usable, place_of}
use Rattle.conc_base_law.specs.Plans.{are_exclusive, is_admitted, is_enabled, precedes}
use Rattle.conc_base_law.specs.Stages.{set_step}
use Rattle.conc_base_law.specs.State.{facts_at, has_come, is_completed, is_live, is_not_earlier, is_running, is_stopping, is_waiting}
use Rattle.conc_base_law.specs.Words.{first_by, is_set}

-- ---- forced

-- r runs since an earlier life
unfoldable pub is_left_running : State → Req → Bool
is_left_running s r = is_running (facts_at s r) && not (facts_at s r).started

-- 1. the interrupt of the least request that an earlier life left running
unfoldable pub forced_interrupt : Plan → State → Option Event
forced_interrupt plan s = option_map (λ r. event.Interrupt r.number) (find (is_left_running s) plan.requests)

-- the command, which is given with its number, is due: it is not done, and its moment has come
unfoldable pub is_due : State → ℕ × Order → Bool
is_due s order = not (unwrap_or (numbered s.done order.0) false) && has_come s.time order.1.at

-- 2. the first command that is due
unfoldable pub forced_command : Plan → State → Option Event
forced_command plan s =
    option_map (λ order. event.Command order.0) (find (is_due s) (enumerate_from 1 plan.script.commands))

-- the request is an open set that has something to do
unfoldable pub has_step : Plan → State → Req → Bool
has_step plan s r = (facts_at s r).opened && is_some (set_step plan s r)

-- 3. the step of the least open set that has one
unfoldable pub forced_step : Plan → State → Option Event
forced_step plan s = option_and_then (set_step plan s) (find (has_step plan s) plan.requests)

-- q is live and excludes r
unfoldable pub blocks : Plan → State → Req → Req → Bool
blocks plan s r q = is_live (facts_at s q) && are_exclusive plan q r

-- no live request excludes r
unfoldable pub is_free : Plan → State → Req → Bool
is_free plan s r = not (list_any (blocks plan s r) plan.requests)

-- r is a set, or of an enabled program and admitted by some manager
unfoldable pub can_run : Plan → Req → Bool
can_run plan r = is_set r.item || (is_enabled plan r && is_admitted plan r)

-- r can be let out, or opened, unless a live request excludes it
unfoldable pub is_ready : Plan → State → Req → Bool
is_ready plan s r =
    (facts_at s r).entered
    && (not (is_live (facts_at s r))
    && (not (is_completed (facts_at s r))
    && (not (facts_at s r).held
    && (has_come s.time r.start
    && (can_run plan r
    && not (is_waiting plan s r))))))

-- r can be let out, or opened
unfoldable pub may_let : Plan → State → Req → Bool
may_let plan s r = is_ready plan s r && is_free plan s r

abbrev pub let_event : Req → Event
let_event r = if is_set r.item then event.OpenSet r.number else event.LetOut r.number

-- 4. the first request in precedence that can be let out
unfoldable pub forced_let : Plan → State → Option Event
forced_let plan s = option_map let_event (first_by precedes (may_let plan s) plan.requests)

-- the forced event: the first of these four that is due
unfoldable pub forced : Plan → State → Option Event
forced plan s =
    option_or (forced_interrupt plan s)
    (option_or (forced_command plan s)
    (option_or (forced_step plan s)
    (forced_let plan s)))

-- ---- allowed

-- r runs at the place
unfoldable pub runs_at : State → PlaceId → Req → Bool
runs_at s place r = some_and (λ p. p.index == place.index) (facts_at s r).place

-- no request runs at the place
unfoldable pub is_vacant : Plan → State → PlaceId → Bool
is_vacant plan s place = not (list_any (runs_at s place) plan.requests)

-- r may start at the place
unfoldable pub may_start : Plan → State → Req → PlaceId → Bool
may_start plan s r place =
    (facts_at s r).let_out
    && (not (is_running (facts_at s r))
    && (some_and (λ p. admits p.manager r) (place_of plan place)
    && (some_and (λ t. is_usable plan t place) s.time
    && is_vacant plan s place)))

-- the extent begins where all earlier ones end, and has a length of 32 bits that is not 0
unfoldable pub is_next_extent : State → Extent → Bool
is_next_extent s x = some_and (λ n. x.offset == n) s.used && (nat_lt 0 x.length && nat_lt x.length (2 ^ 32))

abbrev pub is_report_outcome : Outcome → Bool
is_report_outcome outcome.Normal = true
is_report_outcome outcome.Warning = true
is_report_outcome outcome.Error = true
is_report_outcome _ = false

abbrev pub is_terminated : Outcome → Bool
is_terminated outcome.Terminated = true
is_terminated _ = false

-- r may end so
unfoldable pub may_end : State → Req → Outcome → Option Extent → Bool
may_end s r o x =
    is_running (facts_at s r)
    && (if is_stopping (facts_at s r)
    then is_terminated o && is_none x
    else is_report_outcome o && some_and (is_next_extent s) x)

-- r may start at some place
unfoldable pub may_start_somewhere : Plan → State → Req → Bool
may_start_somewhere plan s r = list_any (may_start plan s r) (all_places plan)

unfoldable pub runs_somewhere : State → Req → Bool
runs_somewhere s r = is_running (facts_at s r)

-- nothing is forced, nothing runs, and nothing may start
unfoldable pub is_at_rest : Plan → State → Bool
is_at_rest plan s =
    is_none (forced plan s)
    && (not (list_any (runs_somewhere s) plan.requests)
    && not (list_any (may_start_somewhere plan s) plan.requests))

-- the reading may be taken: at rest, unless it is early
unfoldable pub may_take : Plan → State → Reading → Bool
may_take plan s q = q.early || is_at_rest plan s

-- a tick is allowed. In the last life it is the next reading, if one is left; in an earlier life, whose readings are not known, any moment that is not earlier than the last tick
unfoldable pub may_tick : Plan → State → Option (Option Reading) → Moment → Bool
may_tick plan s (Some next) t = some_and (λ q. t.seconds == q.moment.seconds && may_take plan s q) next
may_tick plan s None t = is_not_earlier s.time t

-- the event is allowed, where nothing is forced
unfoldable pub is_allowed : Plan → State → Option (Option Reading) → Event → Bool
is_allowed plan s next (event.Started r place) = some_and (λ q. may_start plan s q place) (request plan r)
is_allowed plan s next (event.Ended r o x) = some_and (λ q. may_end s q o x) (request plan r)
is_allowed plan s next (event.Tick t) = may_tick plan s next t
is_allowed plan s next _ = false

-- the forced event, or, where none is due, one that is allowed
abbrev pub obeys : Plan → State → Option (Option Reading) → Event → Option Event → Bool
obeys plan s next e (Some due) = event_eq e due
obeys plan s next e None = is_allowed plan s next e

-- the event may come next. A resume may follow any event, and stands nowhere else
unfoldable pub may_come : Plan → State → Option (Option Reading) → Event → Bool
may_come plan s next e = if is_resume e then not s.empty else obeys plan s next e (forced plan s)
