-- The report of a request that does not touch postings: it is made over the plan's own tables, and posts nothing.
use Rattle.std.proofs.Common.{◌≡◌, ℕ, Bool, true, false, List, [], ◌∷◌, ◌++◌, Option, None, Some, is_some, if◌then◌else◌, refl, sym, ◌∙◌, ap}
use Rattle.std.specs.Option.{option_and_then, option_map, option_map_or}
use Rattle.std.specs.Str.{bytes_eq}
use Rattle.std.proofs.lemmas.Bool.{cond-false, or_parts}
use Rattle.conc_types.specs.declared.event.Event.{Event}
use Rattle.conc_types.specs.declared.event.Event.TheVariants as event
use Rattle.conc_types.specs.declared.event.Outcome.{Outcome}
use Rattle.conc_types.specs.declared.event.RequestId.{RequestId}
use Rattle.conc_types.specs.declared.item.Item.{Item}
use Rattle.conc_types.specs.declared.item.Item.TheVariants as item
use Rattle.conc_types.specs.declared.plan.Plan.{Plan}
use Rattle.conc_types.specs.declared.plan.Req.{Req}
use Rattle.conc_types.specs.declared.program.Program.{Program}
use Rattle.conc_types.specs.declared.table.Table.{Table}
use Rattle.conc_types.specs.Plans.{request}
use Rattle.conc_types.specs.Tables.{table_named}
use Rattle.conc_types.specs.Words.{some_and}
use Rattle.conc_base_law.specs.Alone.{report_of}
use Rattle.conc_base_law.specs.Plans.{program_at, program_of}
use Rattle.conc_base_law.specs.Report.{report}
use Rattle.conc_base_law.specs.Words.{Has}
use Rattle.conc_base_law.proofs.Lists.{get-has, none-has}
use Rattle.conc_base_law.proofs.Options.{and_then-some}
use Rattle.conc_base_posts.specs.Positions.{added, book, books_after, post_to, posts_after, report_after, report_of_last, target_of}
use Rattle.conc_base_posts.specs.Posts.{adds_rows, Booked, booked, booked_over, booked_to, Post, posted, rows_posted, table_with, with_rows, without_rows}
use Rattle.conc_base_posts.specs.Targets.{is_book_request, is_posted_to, posts_to, touches_posts}
use Rattle.conc_base_posts.proofs.Added.{posted-append}

-- ---- to a table to which no program posts nothing is posted

-- the program of an item is one of the setup
program_at-has : (plan : Plan) (i : Item) (program : Program) → program_at plan i ≡ Some program → Has plan.setup.programs program
unfolding program_at
program_at-has plan (item.Program n) program h = get-has plan.setup.programs n program h
program_at-has plan (item.Set n) program h = cc

-- so is the program of a request
pub program_of-has : (plan : Plan) (r : Req) (program : Program) → program_of plan r ≡ Some program → Has plan.setup.programs program
unfolding program_of
program_of-has plan r program h = program_at-has plan r.item program h

-- the table to which a request posts is another one
target-other : (plan : Plan) (id : RequestId) (name target : List ℕ) → is_posted_to plan.setup name ≡ false → target_of plan id ≡ Some target → bytes_eq name target ≡ false
unfolding target_of is_posted_to
target-other plan id name target none h =
    let p : (program : Program) × (option_and_then (program_of plan) (request plan id) ≡ Some program) × (program.post ≡ Some target) =
    and_then-some (λ (program : Program). program.post) (option_and_then (program_of plan) (request plan id)) target h in
    let q : (r : Req) × (request plan id ≡ Some r) × (program_of plan r ≡ Some p.0) = and_then-some (program_of plan) (request plan id) p.0 p.1 in
    let k : posts_to name p.0 ≡ false = none-has (posts_to name) plan.setup.programs p.0 none (program_of-has plan q.0 p.0 q.2) in
    ap (some_and (bytes_eq name)) (sym p.2) ∙ k

-- a post to another table
posted-other : (name target : List ℕ) (made : Option Booked) → bytes_eq name target ≡ false → posted name (post_to target made) ≡ []
posted-other name target None h = refl
posted-other name target (Some made) h = cond-false (bytes_eq name target) (made.rows ++ []) [] h

-- what an end adds goes to other tables
added-other : (plan : Plan) (id : RequestId) (o : Outcome) (made : Option Booked) (name : List ℕ) → is_posted_to plan.setup name ≡ false → posted name (added plan id o made) ≡ []
unfolding added
added-other plan id o made name none = by (adds_rows o) where
  to : (target : Option (List ℕ)) → target_of plan id ≡ target → posted name (option_map_or (λ target. post_to target made) target []) ≡ []
  to None is = refl
  to (Some target) is = posted-other name target made (target-other plan id name target none is)

  by : (b : Bool) → posted name (if b then option_map_or (λ target. post_to target made) (target_of plan id) [] else []) ≡ []
  by true = to (target_of plan id) refl
  by false = refl

-- nothing is posted to it
pub posted-none : (plan : Plan) (past : List Event) (name : List ℕ) → is_posted_to plan.setup name ≡ false → posted name (posts_after plan past) ≡ []
unfolding posts_after books_after book
posted-none plan [] name none = refl
posted-none plan (event.Ended id o x ∷ past) name none =
    let a = added plan id o (report_of_last id (books_after plan past).started) in
    posted-append name (books_after plan past).posts a
    ∙ (ap (λ l. l ++ posted name a) (posted-none plan past name none)
    ∙ added-other plan id o (report_of_last id (books_after plan past).started) name none)
posted-none plan (_ ∷ past) name none = posted-none plan past name none

-- ---- the report

-- the table is the plan's own
table_with-none : (plan : Plan) (posts : List Post) (name : List ℕ) → posted name posts ≡ [] → table_with plan posts name ≡ table_named plan.setup plan.tables name
unfolding table_with with_rows
table_with-none plan posts name none = ap (λ rows. option_map (λ table. with_rows table rows) (table_named plan.setup plan.tables name)) none ∙ kept (table_named plan.setup plan.tables name) where
  kept : (o : Option Table) → option_map (λ table. with_rows table []) o ≡ o
  kept None = refl
  kept (Some table) = refl

-- a report whose rows go to no table posts none
booked-none : (plan : Plan) (posts : List Post) (program : Program) (argument : List ℕ) (o : Option Table) → program.post ≡ None
    → option_map (booked_over plan posts program argument) o ≡ option_map without_rows (option_map (report program.job argument) o)
unfolding booked_over
booked-none plan posts program argument None none = refl
booked-none plan posts program argument (Some table) none =
    ap (λ target. Some (booked_to plan posts target (report program.job argument table) (rows_posted program.job argument table))) none

-- there is no value
none-is : {T : Type 0} (o : Option T) → is_some o ≡ false → o ≡ None
none-is None h = refl
none-is (Some x) h = cc

-- the report of a request is of the files
pub report-files : (plan : Plan) (past : List Event) (r : Req) → is_book_request plan r ≡ false → report_after plan past r ≡ option_map without_rows (report_of plan r)
unfolding is_book_request touches_posts report_after booked report_of
report-files plan past r h = by (program_of plan r) h where
  by : (o : Option Program) → some_and (touches_posts plan.setup) o ≡ false
      → option_and_then (λ program. option_map (booked_over plan (posts_after plan past) program r.argument) (table_with plan (posts_after plan past) program.job.table)) o
      ≡ option_map without_rows (option_and_then (λ program. option_map (report program.job r.argument) (table_named plan.setup plan.tables program.job.table)) o)
  by None k = refl
  by (Some program) k =
      let p : (is_some program.post ≡ false) × (is_posted_to plan.setup program.job.table ≡ false) = or_parts _ _ k in
      let none : posted program.job.table (posts_after plan past) ≡ [] = posted-none plan past program.job.table p.1 in
      ap (option_map (booked_over plan (posts_after plan past) program r.argument)) (table_with-none plan (posts_after plan past) program.job.table none)
      ∙ booked-none plan (posts_after plan past) program r.argument (table_named plan.setup plan.tables program.job.table) (none-is program.post p.0)
