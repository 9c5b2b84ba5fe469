-- A pass over the facts within a span.
use Rattle.std.proofs.Common.{◌≡◌, List, take, refl, sym, ◌∙◌}
use Rattle.conc_types.specs.declared.event.Event.{Event}
use Rattle.conc_types.specs.declared.facts.Facts.{Facts}
use Rattle.conc_types.specs.declared.plan.Plan.{Plan}
use Rattle.conc_event_effects.specs.Advance.{all_after}
use Rattle.conc_event_reach.specs.Started.{LeavesFacts}
use Rattle.conc_event_reach.specs.declared.span.Span.{Span}
use Rattle.conc_event_reach.proofs.Passes.{pass-before}
use Rattle.conc_machine.specs.Indexes.{AreFacts}
use Rattle.conc_machine.specs.declared.indexes.Indexes.{Indexes}

-- nothing has changed before the first of them
pub AreFacts-none : (plan : Plan) (indexes : Indexes) (named : Facts) (e : Event) (span : Span) → LeavesFacts plan e indexes.state.facts span
    → AreFacts indexes indexes (all_after plan named e (take span.from plan.requests) indexes.state.facts)
AreFacts-none plan indexes named e span leaves = record {
  facts = sym (pass-before plan named e span indexes.state.facts leaves);
  empty = refl;
  time = refl;
  used = refl;
  done = refl;
  command = refl;
}

-- equal facts
pub AreFacts-is : (before after : Indexes) (facts all : List Facts) → AreFacts before after facts → facts ≡ all → AreFacts before after all
AreFacts-is before after facts all are same = record {
  facts = are.facts ∙ same;
  empty = are.empty;
  time = are.time;
  used = are.used;
  done = are.done;
  command = are.command;
}

-- one change after the other
pub AreFacts-then : (before middle after : Indexes) (facts all : List Facts) → AreFacts before middle facts → AreFacts middle after all → AreFacts before after all
AreFacts-then before middle after facts all first then = record {
  facts = then.facts;
  empty = then.empty ∙ first.empty;
  time = then.time ∙ first.time;
  used = then.used ∙ first.used;
  done = then.done ∙ first.done;
  command = then.command ∙ first.command;
}
