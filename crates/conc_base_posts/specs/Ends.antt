-- Ends that tell what the reports of their requests say, over the tables as they stood where the requests started.
use Rattle.std.specs.Prelude.{◌≡◌, ℕ, ◌≤◌, List, length, reverse, take, Some, slice_get}
use Rattle.conc_types.specs.declared.event.Event.{Event}
use Rattle.conc_types.specs.declared.event.Event.TheVariants as event
use Rattle.conc_types.specs.declared.event.Extent.{Extent}
use Rattle.conc_types.specs.declared.event.Outcome.{Outcome}
use Rattle.conc_types.specs.declared.event.RequestId.{RequestId}
use Rattle.conc_types.specs.declared.plan.Plan.{Plan}
use Rattle.conc_base_posts.specs.Positions.{last_report}
use Rattle.conc_base_posts.specs.Posts.{Booked}

-- behind these events, the outcome is that of the request's report at its last start, and the extent has the length of its text
pub record IsReported (plan : Plan) (past : List Event) (id : RequestId) (outcome : Outcome) (extent : Extent) : Type 0 where
  pub made : Booked
  pub report : last_report plan past id ≡ Some made
  pub same_outcome : outcome ≡ made.report.outcome
  pub same_length : extent.length ≡ length made.report.text

-- from this position on, each end with an extent is so
abbrev pub AreReported : Plan → ℕ → List Event → Type 0
AreReported plan n history =
    (i : ℕ) (id : RequestId) (o : Outcome) (x : Extent) → n ≤ i
    → slice_get history i ≡ Some (event.Ended id o (Some x)) → IsReported plan (reverse (take i history)) id o x
