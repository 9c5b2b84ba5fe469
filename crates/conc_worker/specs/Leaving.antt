-- What a worker leaves for a request.
use Rattle.std.specs.Prelude.{◌≡◌, Bool, true, false, Option, None, Some, Result, Ok, Err, IsSome, IsTrue}
use Rattle.conc_types.specs.declared.error.NoMemory.{NoMemory as NoMemoryFail}
use Rattle.conc_types.specs.declared.event.PlaceId.{PlaceId}
use Rattle.conc_types.specs.declared.event.RequestId.{RequestId}
use Rattle.conc_types.specs.declared.plan.Plan.{Plan}
use Rattle.conc_reports.specs.Reports.{as_report}
use Rattle.conc_reports.specs.declared.making.Made.{Made}
use Rattle.conc_pool_seats.specs.declared.posted.Posted.{Posted}
use Rattle.conc_pool_seats.specs.declared.posted.Posted.TheVariants.{Text, Stopped, NoMemory}
use Rattle.conc_pool_seats.specs.Reports.{report_for}
use Rattle.conc_board.specs.Admission.{admits_at}

-- That it stopped, exactly where it was told to; else its own report, or that there was no memory for one.
abbrev pub Leaves : Plan → RequestId → Bool → Posted → Type 0
Leaves plan r true posted = posted ≡ Stopped
Leaves plan r false (Text made) = report_for plan r ≡ Some (as_report made)
Leaves plan r false Stopped = ⊥
Leaves plan r false NoMemory = Unit {0}

-- A report that was made is left as it is; where it found no memory, that is left.
abbrev pub IsPostedAs : Result (Option Made) NoMemoryFail → Posted → Type 0
IsPostedAs (Ok (Some made)) posted = posted ≡ Text made
IsPostedAs (Ok None) posted = ⊥
IsPostedAs (Err e) posted = posted ≡ NoMemory

-- ---- the law

-- a request that the manager of a place admits has a report
abbrev pub WhatIsAdmittedHasAReport : Type 0
WhatIsAdmittedHasAReport = (plan : Plan) (place : PlaceId) (r : RequestId) → IsTrue (admits_at plan place r) → IsSome (report_for plan r)
