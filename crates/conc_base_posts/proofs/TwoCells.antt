-- Posted rows have two cells, and the tables to which programs post two columns.
use Rattle.std.proofs.Common.{◌≡◌, ℕ, true, List, [], ◌∷◌, length, map, Option, None, Some, refl, sym, ◌∙◌, ap}
use Rattle.std.specs.Prelude.{◌==◌}
use Rattle.std.specs.List.{list_all}
use Rattle.std.specs.Option.{option_map_or}
use Rattle.std.proofs.lemmas.Bool.{eqb-true}
use Rattle.conc_types.specs.declared.plan.Plan.{Plan}
use Rattle.conc_types.specs.declared.plan.Req.{Req}
use Rattle.conc_types.specs.declared.program.Job.{Job}
use Rattle.conc_types.specs.declared.program.Program.{Program}
use Rattle.conc_types.specs.declared.table.Table.{Table}
use Rattle.conc_types.specs.Tables.{table_named}
use Rattle.conc_types.specs.Words.{has_length, none_or, some_and}
use Rattle.conc_base_law.specs.Plans.{program_of}
use Rattle.conc_base_law.specs.Report.{keys, passing, Row}
use Rattle.conc_base_posts.specs.Posts.{Cells, group_row, rows_posted}
use Rattle.conc_base_posts.specs.Targets.{ArePostsApart, has_target}
use Rattle.conc_base_posts.proofs.Exclusive.{IsOfProgram, of_program}
use Rattle.conc_base_posts.proofs.NoFault.{breaks_none}

-- ---- rows

-- each row has two cells
abbrev pub HaveTwoCells : List Cells → Type 0
HaveTwoCells rows = list_all (has_length 2) rows ≡ true

-- the rows of these keys do
group_rows-two : (table : Table) (group column : List ℕ) (rows : List Row) (ks : List (List ℕ)) → HaveTwoCells (map (group_row table group column rows) ks)
unfolding group_row
group_rows-two table group column rows [] = refl
group_rows-two table group column rows (key ∷ ks) = group_rows-two table group column rows ks

-- so do the rows that a report posts
pub rows_posted-two : (job : Job) (argument : List ℕ) (table : Table) → HaveTwoCells (rows_posted job argument table)
unfolding rows_posted
rows_posted-two job argument table = by job.group job.sum where
  by : (group sum : Option (List ℕ))
      → HaveTwoCells (option_map_or (λ g. option_map_or (λ c. map (group_row table g c (passing job argument table)) (keys table g (passing job argument table))) sum []) group [])
  by None sum = refl
  by (Some group) None = refl
  by (Some group) (Some column) = group_rows-two table group column (passing job argument table) (keys table group (passing job argument table))

-- ---- columns

-- where the postings of a plan are apart, a table to which the program of a request posts has two columns
pub two_columns : (plan : Plan) (r : Req) (program : Program) (name : List ℕ) (table : Table) → ArePostsApart plan → program_of plan r ≡ Some program
    → program.post ≡ Some name → table_named plan.setup plan.tables name ≡ Some table → length table.columns ≡ 2
unfolding has_target
two_columns plan r program name table apart ofr is here =
    let p : IsOfProgram plan r program = of_program plan r program ofr in
    let target : has_target plan.setup plan.tables program ≡ true = (breaks_none plan.setup plan.tables p.place program apart p.stands).target in
    let named : some_and (λ t. length t.columns == 2) (table_named plan.setup plan.tables name) ≡ true =
    ap (none_or (λ n. some_and (λ t. length t.columns == 2) (table_named plan.setup plan.tables n))) (sym is) ∙ target in
    let two : (length table.columns == 2) ≡ true = ap (some_and (λ t. length t.columns == 2)) (sym here) ∙ named in
    eqb-true _ _ two
