-- What a request reports depends on the posts to the tables that its program uses.
use Rattle.std.proofs.Common.{◌≡◌, ℕ, List, Option, None, Some, if◌then◌else◌, refl, sym, ◌∙◌, ap}
use Rattle.std.specs.Option.{option_and_then, option_map}
use Rattle.conc_types.specs.declared.plan.Plan.{Plan}
use Rattle.conc_types.specs.declared.plan.Req.{Req}
use Rattle.conc_types.specs.declared.program.Program.{Program}
use Rattle.conc_types.specs.declared.table.Table.{Table}
use Rattle.conc_types.specs.Tables.{table_named}
use Rattle.conc_types.specs.Words.{some_and}
use Rattle.conc_base_law.specs.Plans.{program_of}
use Rattle.conc_base_law.specs.Report.{Report, report}
use Rattle.conc_base_posts.specs.Posts.{adds_rows, Booked, booked, booked_over, booked_to, Cells, fits, is_within, Post, posted, rows_posted, table_full, table_with, with_rows, without_rows}

-- two lists of posts have the same rows for the table that the program reads, and for the one to which it posts
pub record AgreeFor (program : Program) (some other : List Post) : Type 0 where
  pub read : posted program.job.table some ≡ posted program.job.table other
  pub target : (table : List ℕ) → program.post ≡ Some table → posted table some ≡ posted table other

-- the table with rows depends on those that are posted to it
table_with-same : (plan : Plan) (some other : List Post) (name : List ℕ) → posted name some ≡ posted name other → table_with plan some name ≡ table_with plan other name
unfolding table_with
table_with-same plan some other name e = ap (λ rows. option_map (λ table. with_rows table rows) (table_named plan.setup plan.tables name)) e

-- so does whether rows fit
fits-same : (plan : Plan) (some other : List Post) (target : List ℕ) (rows : List Cells) → posted target some ≡ posted target other
    → fits plan some target rows ≡ fits plan other target rows
unfolding fits
fits-same plan some other target rows e = ap (λ before. some_and (λ table. is_within table before rows) (table_named plan.setup plan.tables target)) e

-- so does what a report becomes
booked_to-same : (plan : Plan) (some other : List Post) (post : Option (List ℕ)) (made : Report) (rows : List Cells)
    → ((table : List ℕ) → post ≡ Some table → posted table some ≡ posted table other) → booked_to plan some post made rows ≡ booked_to plan other post made rows
booked_to-same plan some other None made rows same = refl
booked_to-same plan some other (Some target) made rows same =
    ap (λ b. if adds_rows made.outcome then (if b then record { report = made; rows = rows } else table_full) else without_rows made)
    (fits-same plan some other target rows (same target refl))

-- and so does the report of a request
pub booked-same : (plan : Plan) (r : Req) (program : Program) (some other : List Post) → program_of plan r ≡ Some program → AgreeFor program some other
    → booked plan some r ≡ booked plan other r
unfolding booked booked_over
booked-same plan r program some other ofr agree =
    let over : List Post → Program → Option Booked = λ posts p. option_map (booked_over plan posts p r.argument) (table_with plan posts p.job.table) in
    ap (option_and_then (over some)) ofr
    ∙ (ap (λ o. option_map (booked_over plan some program r.argument) o) (table_with-same plan some other program.job.table agree.read)
    ∙ (by (table_with plan other program.job.table)
    ∙ sym (ap (option_and_then (over other)) ofr))) where
      by : (o : Option Table) → option_map (booked_over plan some program r.argument) o ≡ option_map (booked_over plan other program r.argument) o
      by None = refl
      by (Some table) =
          ap (λ (b : Booked). Some b)
          (booked_to-same plan some other program.post (report program.job r.argument table) (rows_posted program.job r.argument table) agree.target)
