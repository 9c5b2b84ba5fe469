-- What changes of what is kept as an event is taken in, beside the facts.
use Rattle.std.specs.Prelude.{◌≡◌}
use Rattle.std.specs.Option.{option_or}
use Rattle.conc_types.specs.declared.event.Event.{Event}
use Rattle.conc_event_effects.specs.Advance.{done_after}
use Rattle.conc_base_law.specs.Kinds.{tick_of}
use Rattle.conc_machine.specs.Indexes.{first_undone}
use Rattle.conc_machine.specs.declared.indexes.Indexes.{Indexes}

-- the parts are the same ones
pub record HasParts (before after : Indexes) : Type 0 where
  pub spans : after.spans ≡ before.spans
  pub classes : after.classes ≡ before.classes
  pub running : after.running ≡ before.running
  pub steps : after.steps ≡ before.steps
  pub lets : after.lets ≡ before.lets
  pub starts : after.starts ≡ before.starts

-- the command of the event is done, and all else is as it was
pub record HasCommand (before after : Indexes) (e : Event) : Type 0 where
  pub done : after.state.done ≡ done_after before.state.done e
  pub command : after.next_command ≡ first_undone after.state.done
  pub parts : HasParts before after
  pub empty : after.state.empty ≡ before.state.empty
  pub time : after.state.time ≡ before.state.time
  pub used : after.state.used ≡ before.state.used
  pub facts : after.state.facts ≡ before.state.facts

-- the last tick is that of the event, if it is one, and what else stands is as it was
pub record HasTick (before after : Indexes) (e : Event) : Type 0 where
  pub time : after.state.time ≡ option_or (tick_of e) before.state.time
  pub empty : after.state.empty ≡ before.state.empty
  pub used : after.state.used ≡ before.state.used
  pub done : after.state.done ≡ before.state.done
  pub facts : after.state.facts ≡ before.state.facts
  pub command : after.next_command ≡ before.next_command
