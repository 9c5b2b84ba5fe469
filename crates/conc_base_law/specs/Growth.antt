-- A plan whose list of commands grows, against a history.
use Rattle.std.specs.Prelude.{◌≡◌, ℕ, Bool, false, List, reverse, Some, IsTrue, IsFalse, slice_get}
use Rattle.conc_types.specs.declared.event.Event.{Event}
use Rattle.conc_types.specs.declared.event.Event.TheVariants as event
use Rattle.conc_types.specs.declared.event.Extent.{Extent}
use Rattle.conc_types.specs.declared.event.Outcome.{Outcome}
use Rattle.conc_types.specs.declared.event.RequestId.{RequestId}
use Rattle.conc_types.specs.declared.plan.Plan.{Plan}
use Rattle.conc_types.specs.declared.script.Order.{Order}
use Rattle.conc_types.specs.Plans.{request}
use Rattle.conc_types.specs.Words.{numbered}
use Rattle.conc_base_law.specs.Before.{occurs}
use Rattle.conc_base_law.specs.Ends.{AreReported, IsReported}
use Rattle.conc_base_law.specs.Kinds.{is_command}
use Rattle.conc_base_law.specs.Law.{LawfulSoFar}
use Rattle.conc_base_law.specs.State.{has_come, now}
use Rattle.conc_base_law.specs.Words.{id_eq}

-- the grown plan has the setup and the tables of the first, and each command that is done in the history; and of each
-- further command of the grown plan the moment has not come at the end of the history
pub record Grows (plan grown : Plan) (history : List Event) : Type 0 where
  pub setup : grown.setup ≡ plan.setup
  pub tables : grown.tables ≡ plan.tables
  pub same_done : (number : ℕ) → IsTrue (occurs (is_command number) (reverse history))
      → numbered grown.script.commands number ≡ numbered plan.script.commands number
  pub later : (number : ℕ) (order : Order) → numbered grown.script.commands number ≡ Some order
      → IsFalse (occurs (is_command number) (reverse history)) → IsFalse (has_come (now (reverse history)) order.at)

-- the event names the request
abbrev pub names : RequestId → Event → Bool
names r (event.OpenSet q) = id_eq q r
names r (event.Stage q k) = id_eq q r
names r (event.CloseSet q o) = id_eq q r
names r (event.LetOut q) = id_eq q r
names r (event.Started q place) = id_eq q r
names r (event.Ended q o x) = id_eq q r
names r (event.Interrupt q) = id_eq q r
names r _ = false

-- ---- the laws

-- a history that is lawful for a plan is lawful for a grown one
abbrev pub GrownListIsLawful : Type 0
GrownListIsLawful =
    (plan grown : Plan) (history : List Event) → Grows plan grown history
    → LawfulSoFar plan history → LawfulSoFar grown history

-- what its ends tell is what the reports of their requests say in the grown plan too
abbrev pub GrownListIsReported : Type 0
GrownListIsReported =
    (plan grown : Plan) (history : List Event) (n : ℕ) → Grows plan grown history
    → LawfulSoFar plan history → AreReported plan n history → AreReported grown n history

-- and these reports are the same
abbrev pub GrownReportsAreSame : Type 0
GrownReportsAreSame =
    (plan grown : Plan) (history : List Event) (i : ℕ) (id : RequestId) (o : Outcome) (x : Extent)
    → Grows plan grown history → LawfulSoFar plan history → slice_get history i ≡ Some (event.Ended id o (Some x))
    → (before : IsReported plan id o x) → (after : IsReported grown id o x) × (after.made ≡ before.made)

-- the requests that the events of the history name are the same in both plans
abbrev pub NamedRequestsAreKept : Type 0
NamedRequestsAreKept =
    (plan grown : Plan) (history : List Event) (id : RequestId) → Grows plan grown history
    → LawfulSoFar plan history → IsTrue (occurs (names id) (reverse history)) → request grown id ≡ request plan id
