-- Ends whose reports the spool holds.
use Rattle.std.specs.Prelude.{◌≡◌, ℕ, ◌≤◌, List, take, drop, Some, slice_get}
use Rattle.conc_types.specs.declared.event.Event.{Event}
use Rattle.conc_types.specs.declared.event.Event.TheVariants as event
use Rattle.conc_types.specs.declared.event.Extent.{Extent}
use Rattle.conc_types.specs.declared.event.Outcome.{Outcome}
use Rattle.conc_types.specs.declared.event.RequestId.{RequestId}
use Rattle.conc_types.specs.declared.plan.Plan.{Plan}
use Rattle.conc_base_law.specs.Ends.{IsReported}

-- the outcome is that of the request's report, and these bytes hold its text at the extent
pub record IsStored (plan : Plan) (bytes : List ℕ) (id : RequestId) (outcome : Outcome) (extent : Extent) : Type 0 where
  pub report : IsReported plan id outcome extent
  pub text : report.made.text ≡ take extent.length (drop extent.offset bytes)

-- from this position on, these bytes hold the text of each end with an extent. In a lawful list an end without one is that
-- of a request that was terminated
abbrev pub AreStored : Plan → ℕ → List Event → List ℕ → Type 0
AreStored plan n list bytes =
    (i : ℕ) (id : RequestId) (o : Outcome) (x : Extent) → n ≤ i
    → slice_get list i ≡ Some (event.Ended id o (Some x)) → IsStored plan bytes id o x
