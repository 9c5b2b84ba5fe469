-- The state at a position: all that the law reads of the events before it, but for the readings.
use Rattle.std.specs.Prelude.{ℕ, ◌^◌, Bool, false, not, ◌&&◌, ◌||◌, nat_le, nat_lt, List, map, Option, None, is_some, unwrap_or}
use Rattle.std.specs.Bool.{then_some}
use Rattle.std.specs.List.{enumerate_from, sum_by}
use Rattle.conc_types.specs.declared.event.Event.{Event}
use Rattle.conc_types.specs.declared.event.Moment.{Moment}
use Rattle.conc_types.specs.declared.facts.Facts.{Facts}
use Rattle.conc_types.specs.declared.facts.State.{State}
use Rattle.conc_types.specs.declared.plan.Plan.{Plan}
use Rattle.conc_types.specs.declared.plan.Req.{Req}
use Rattle.conc_types.specs.declared.script.Order.{Order}
use Rattle.conc_types.specs.Stages.{has_stage}
use Rattle.conc_types.specs.Words.{is_empty, none_or, numbered, some_and}
use Rattle.conc_base_law.specs.Facts.{facts_of}
use Rattle.conc_base_law.specs.Kinds.{extent_length, is_command, tick_of}
use Rattle.conc_base_law.specs.Before.{latest, occurs}
use Rattle.conc_base_law.specs.Plans.{parent}

-- the moment of the last tick
unfoldable pub now : List Event → Option Moment
now past = latest tick_of past

-- the bytes of all extents
unfoldable pub used : List Event → ℕ
used past = sum_by extent_length past

-- the command, which is given with its number, is done
unfoldable pub is_done : List Event → ℕ × Order → Bool
is_done past order = occurs (is_command order.0) past

abbrev pub fitting : ℕ → Option ℕ
fitting n = then_some (nat_lt n (2 ^ 64)) n

-- the state after these events
unfoldable pub state : Plan → List Event → State
state plan past = record {
  empty = is_empty past;
  time = now past;
  used = fitting (used past);
  done = map (is_done past) (enumerate_from 1 plan.script.commands);
  facts = map (facts_of plan past) plan.requests;
}

-- ---- what it says of a request

abbrev pub no_facts : Facts
no_facts = record {
  entered = false;
  held = false;
  opened = false;
  stage = None;
  begun = record { bits = 0 };
  let_out = false;
  place = None;
  started = false;
  terminated = false;
  outcome = None;
}

-- the facts of r
unfoldable pub facts_at : State → Req → Facts
facts_at s r = unwrap_or (numbered s.facts r.number.number) no_facts

abbrev pub is_running : Facts → Bool
is_running facts = is_some facts.place

-- it runs, and was terminated since its start
abbrev pub is_stopping : Facts → Bool
is_stopping facts = is_running facts && facts.terminated

-- it is let, or an open set
abbrev pub is_live : Facts → Bool
is_live facts = facts.let_out || facts.opened

abbrev pub is_completed : Facts → Bool
is_completed facts = is_some facts.outcome

-- r is a member, and its stage has not begun
unfoldable pub is_waiting : Plan → State → Req → Bool
is_waiting plan s r = some_and (λ set. not (has_stage (facts_at s set).begun.bits r.stage)) (parent plan r)

-- ---- what it says of moments

-- the moment has come
unfoldable pub has_come : Option Moment → Moment → Bool
has_come now t = some_and (λ n. nat_le t.seconds n.seconds) now

-- the moment is not earlier than the last tick
unfoldable pub is_not_earlier : Option Moment → Moment → Bool
is_not_earlier now t = none_or (λ n. nat_le n.seconds t.seconds) now
