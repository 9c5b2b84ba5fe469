-- The laws of posted rows in lawful histories of a plan whose postings are apart: what stands still between a start and its end.
use Rattle.std.specs.Prelude.{◌≡◌, ℕ, ◌≤◌, List, [], ◌∷◌, ◌++◌, length, reverse, take, Option, Some}
use Rattle.std.specs.Option.{option_and_then}
use Rattle.conc_types.specs.declared.event.Event.{Event}
use Rattle.conc_types.specs.declared.event.Event.TheVariants as event
use Rattle.conc_types.specs.declared.event.Extent.{Extent}
use Rattle.conc_types.specs.declared.event.Outcome.{Outcome}
use Rattle.conc_types.specs.declared.event.RequestId.{RequestId}
use Rattle.conc_types.specs.declared.limits.TheConstants.{MOST_POSTED_BYTES, MOST_POSTED_ROWS}
use Rattle.conc_types.specs.declared.plan.Plan.{Plan}
use Rattle.conc_types.specs.declared.plan.Req.{Req}
use Rattle.conc_types.specs.declared.program.Program.{Program}
use Rattle.conc_types.specs.declared.table.Table.{Table}
use Rattle.conc_types.specs.Plans.{request}
use Rattle.conc_types.specs.Tables.{table_named}
use Rattle.conc_base_law.specs.Law.{LawfulSoFar}
use Rattle.conc_base_law.specs.Overlap.{IsInterval}
use Rattle.conc_base_law.specs.Plans.{program_of}
use Rattle.conc_base_law.specs.Words.{Has}
use Rattle.conc_base_posts.specs.Positions.{added, last_report, posts_after, report_after, table_after}
use Rattle.conc_base_posts.specs.Posts.{bytes_of, posted}
use Rattle.conc_base_posts.specs.Targets.{ArePostsApart}

-- what was posted to a table before this position of a history
abbrev pub posted_before : Plan → List Event → List ℕ → ℕ → List (List (List ℕ))
posted_before plan history table i = posted table (posts_after plan (reverse (take i history)))

-- while a request of a program runs, the table that it reads and the one to which it posts stay as they are
pub record StandStill (plan : Plan) (history : List Event) (program : Program) (i k : ℕ) : Type 0 where
  pub read : posted_before plan history program.job.table k ≡ posted_before plan history program.job.table i
  pub target : (table : List ℕ) → program.post ≡ Some table → posted_before plan history table k ≡ posted_before plan history table i

abbrev pub TablesStandStill : Type 0
TablesStandStill =
    (plan : Plan) (history : List Event) (r : Req) (program : Program) (i j k : ℕ) → ArePostsApart plan → LawfulSoFar plan history
    → Has plan.requests r → program_of plan r ≡ Some program → IsInterval history r i j → i ≤ k → k ≤ j
    → StandStill plan history program i k

-- so at its end a request reports what it reported at its start
abbrev pub ReportsStandStill : Type 0
ReportsStandStill =
    (plan : Plan) (history : List Event) (r : Req) (program : Program) (i j k : ℕ) → ArePostsApart plan → LawfulSoFar plan history
    → Has plan.requests r → program_of plan r ≡ Some program → IsInterval history r i j → i ≤ k → k ≤ j
    → report_after plan (reverse (take k history)) r ≡ report_after plan (reverse (take i history)) r

-- what is posted to a table stays within both limits
pub record StaysWithin (rows : List (List (List ℕ))) : Type 0 where
  pub few : length rows ≤ MOST_POSTED_ROWS
  pub bytes : bytes_of rows ≤ MOST_POSTED_BYTES

abbrev pub PostsStayWithin : Type 0
PostsStayWithin =
    (plan : Plan) (history : List Event) (table : List ℕ) → ArePostsApart plan → LawfulSoFar plan history
    → StaysWithin (posted table (posts_after plan (reverse history)))

-- so a table has its own rows, and behind them all that was posted to it
pub record HasAll (table whole : Table) (more : List (List (List ℕ))) : Type 0 where
  pub columns : whole.columns ≡ table.columns
  pub rows : whole.rows ≡ table.rows ++ more

abbrev pub TablesHaveAll : Type 0
TablesHaveAll =
    (plan : Plan) (history : List Event) (name : List ℕ) (table : Table) → ArePostsApart plan → LawfulSoFar plan history
    → table_named plan.setup plan.tables name ≡ Some table
    → (whole : Table) × (table_after plan (reverse history) name ≡ Some whole) × HasAll table whole (posted name (posts_after plan (reverse history)))

-- so where a request ends, the report at its last start is the one that it would make now
abbrev pub LastReportsStand : Type 0
LastReportsStand =
    (plan : Plan) (history : List Event) (id : RequestId) (o : Outcome) (x : Option Extent) → ArePostsApart plan
    → LawfulSoFar plan (history ++ event.Ended id o x ∷ [])
    → last_report plan (reverse history) id ≡ option_and_then (report_after plan (reverse history)) (request plan id)

-- and an end posts the rows of that report
abbrev pub EndsPostTheirRows : Type 0
EndsPostTheirRows =
    (plan : Plan) (history : List Event) (id : RequestId) (o : Outcome) (x : Option Extent) → ArePostsApart plan
    → LawfulSoFar plan (history ++ event.Ended id o x ∷ [])
    → posts_after plan (event.Ended id o x ∷ reverse history)
    ≡ posts_after plan (reverse history) ++ added plan id o (option_and_then (report_after plan (reverse history)) (request plan id))
