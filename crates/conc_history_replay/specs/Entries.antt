-- What the commands of a plan enter that do no more.
use Rattle.std.specs.Prelude.{◌≡◌, ℕ, ◌+◌, ◌≤◌, ◌==◌, false, List, length, Option, Some, slice_get}
use Rattle.conc_types.specs.declared.event.Event.TheVariants as event
use Rattle.conc_types.specs.declared.plan.Plan.{Plan}
use Rattle.conc_types.specs.declared.plan.Req.{Req}
use Rattle.conc_base_law.specs.Kinds.{act_of}
use Rattle.conc_event_reach.specs.Spans.{is_within}
use Rattle.conc_event_reach.specs.declared.span.Span.{Span}
use Rattle.conc_history_replay.specs.Changes.{acts}
use Rattle.conc_history_replay.specs.declared.entries.Entries.{Entries}

-- the command with this number does no more than enter the requests of the span
pub record IsEntry (plan : Plan) (number : ℕ) (span : Span) : Type 0 where
  pub quiet : acts (act_of plan (event.Command number)) ≡ false
  pub exact : (i : ℕ) (r : Req) → slice_get plan.requests i ≡ Some r → (number == r.command) ≡ is_within i span
  pub inside : span.to ≤ length plan.requests

-- what is noted of the first commands, in order, is what they enter
abbrev pub AreEntriesTo : Plan → List (Option Span) → Type 0
AreEntriesTo plan spans = (k : ℕ) (span : Span) → slice_get spans k ≡ Some (Some span) → IsEntry plan (k + 1) span

-- what is noted of commands is what they enter
abbrev pub AreEntries : Plan → Entries → Type 0
AreEntries plan entries = AreEntriesTo plan entries.spans
