-- What may be left for a request.
use Rattle.std.specs.Prelude.{◌≡◌, Bool, true, Option, Some}
use Rattle.std.specs.Option.{option_and_then}
use Rattle.conc_types.specs.declared.event.RequestId.{RequestId}
use Rattle.conc_types.specs.declared.plan.Plan.{Plan}
use Rattle.conc_types.specs.Plans.{request}
use Rattle.conc_base_law.specs.Alone.{report_of}
use Rattle.conc_base_law.specs.Report.{Report}
use Rattle.conc_reports.specs.Reports.{as_report}
use Rattle.conc_pool_seats.specs.declared.posted.Posted.{Posted}
use Rattle.conc_pool_seats.specs.declared.posted.Posted.TheVariants.{Text, Stopped, NoMemory}

-- the report of the request with this number
abbrev pub report_for : Plan → RequestId → Option Report
report_for plan r = option_and_then (report_of plan) (request plan r)

-- its own report, or no memory, or, where it was told to stop, that it stopped
abbrev pub MayLeave : Plan → RequestId → Bool → Posted → Type 0
MayLeave plan r told (Text made) = report_for plan r ≡ Some (as_report made)
MayLeave plan r told Stopped = told ≡ true
MayLeave plan r told NoMemory = Unit {0}
