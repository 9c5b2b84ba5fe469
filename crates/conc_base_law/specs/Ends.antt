-- Ends that tell what the reports of their requests say.
use Rattle.std.specs.Prelude.{◌≡◌, ℕ, ◌≤◌, List, length, Some, slice_get}
use Rattle.conc_types.specs.declared.event.Event.{Event}
use Rattle.conc_types.specs.declared.event.Event.TheVariants as event
use Rattle.conc_types.specs.declared.event.Extent.{Extent}
use Rattle.conc_types.specs.declared.event.Outcome.{Outcome}
use Rattle.conc_types.specs.declared.event.RequestId.{RequestId}
use Rattle.conc_types.specs.declared.plan.Plan.{Plan}
use Rattle.conc_types.specs.declared.plan.Req.{Req}
use Rattle.conc_types.specs.Plans.{request}
use Rattle.conc_base_law.specs.Alone.{report_of}
use Rattle.conc_base_law.specs.Report.{Report}

-- the outcome is that of the request's report, and the extent has the length of its text
pub record IsReported (plan : Plan) (id : RequestId) (outcome : Outcome) (extent : Extent) : Type 0 where
  pub ended : Req
  pub found : request plan id ≡ Some ended
  pub made : Report
  pub report : report_of plan ended ≡ Some made
  pub same_outcome : outcome ≡ made.outcome
  pub same_length : extent.length ≡ length made.text

-- from this position on, each end with an extent is so
abbrev pub AreReported : Plan → ℕ → List Event → Type 0
AreReported plan n history =
    (i : ℕ) (id : RequestId) (o : Outcome) (x : Extent) → n ≤ i
    → slice_get history i ≡ Some (event.Ended id o (Some x)) → IsReported plan id o x
