-- What an end posts to a table keeps the table within its limits.
use Rattle.std.proofs.Common.{◌≡◌, ◌⊎◌, ℕ, ◌+◌, ◌≤◌, Bool, true, false, ◌&&◌, List, [], ◌∷◌, ◌++◌, length, Option, None, Some, if◌then◌else◌, refl, sym, ◌∙◌, ap, subst, inl, inr, arith, length-append}
use Rattle.std.specs.Prelude.{nat_le}
use Rattle.std.specs.List.{list_all, sum_by}
use Rattle.std.specs.Option.{option_and_then, option_map}
use Rattle.std.proofs.lemmas.Bool.{and_parts, leb-true}
use Rattle.std.proofs.lemmas.List.{append-nil}
use Rattle.std.proofs.lemmas.List.Sums.{sum_by-append}
use Rattle.conc_types.specs.declared.event.Event.{Event}
use Rattle.conc_types.specs.declared.event.Event.TheVariants as event
use Rattle.conc_types.specs.declared.event.Extent.{Extent}
use Rattle.conc_types.specs.declared.event.Outcome.{Outcome}
use Rattle.conc_types.specs.declared.event.RequestId.{RequestId}
use Rattle.conc_types.specs.declared.limits.TheConstants.{MOST_POSTED_BYTES, MOST_POSTED_ROWS}
use Rattle.conc_types.specs.declared.plan.Plan.{Plan}
use Rattle.conc_types.specs.declared.plan.Req.{Req}
use Rattle.conc_types.specs.declared.program.Program.{Program}
use Rattle.conc_types.specs.declared.table.Table.{Table}
use Rattle.conc_types.specs.Tables.{table_named}
use Rattle.conc_types.specs.Words.{has_length}
use Rattle.conc_base_law.specs.Facts.{runs}
use Rattle.conc_base_law.specs.Law.{is_lawful_so_far, may_follow}
use Rattle.conc_base_law.specs.Plans.{program_of}
use Rattle.conc_base_law.specs.Report.{Report, report}
use Rattle.conc_base_law.proofs.Options.{map-some, some_and-some}
use Rattle.conc_base_law.proofs.Stops.{end_runs}
use Rattle.conc_base_posts.specs.Positions.{added, book, books_after, last_report, posts_after, report_after}
use Rattle.conc_base_posts.specs.Posts.{adds_rows, Booked, booked, booked_over, booked_to, bytes_of, Cells, fits, is_within, Post, posted, rows_posted, table_full, table_with, without_rows}
use Rattle.conc_base_posts.specs.StandLaws.{StaysWithin}
use Rattle.conc_base_posts.specs.Targets.{ArePostsApart}
use Rattle.conc_base_posts.proofs.PostedRows.{posted-added, posted-end, PostsTo, target-posts}
use Rattle.conc_base_posts.proofs.LastReport.{last_stands}
use Rattle.conc_base_posts.proofs.TwoCells.{HaveTwoCells, rows_posted-two, two_columns}

-- ---- the rows of a report

-- a report has no rows for its target, or rows of two cells that fit there
abbrev Fit : Plan → List Post → List ℕ → List Cells → Type 0
Fit plan posts target rows = (rows ≡ []) ⊎ ((fits plan posts target rows ≡ true) × HaveTwoCells rows)

-- what becomes of a report and its rows of two cells is so
booked_to-fit : (plan : Plan) (posts : List Post) (target : List ℕ) (made : Report) (rows : List Cells) → HaveTwoCells rows
    → Fit plan posts target (booked_to plan posts (Some target) made rows).rows
booked_to-fit plan posts target made rows two = by (adds_rows made.outcome) (fits plan posts target rows) refl where
  by : (adds fit : Bool) → fits plan posts target rows ≡ fit
      → Fit plan posts target (if adds then (if fit then record { report = made; rows = rows } else table_full) else without_rows made).rows
  by false fit e = inl refl
  by true false e = inl refl
  by true true e = inr (e, two)

-- the report of a request of a program that posts is so
booked-fit : (plan : Plan) (posts : List Post) (r : Req) (program : Program) (target : List ℕ) (made : Booked) → program_of plan r ≡ Some program
    → program.post ≡ Some target → booked plan posts r ≡ Some made → Fit plan posts target made.rows
unfolding booked booked_over
booked-fit plan posts r program target made ofr is h =
    let over : Program → Option Booked = λ p. option_map (booked_over plan posts p r.argument) (table_with plan posts p.job.table) in
    let k : over program ≡ Some made = ap (option_and_then over) (sym ofr) ∙ h in
    let p : (table : Table) × (table_with plan posts program.job.table ≡ Some table) × (booked_over plan posts program r.argument table ≡ made) =
    map-some (booked_over plan posts program r.argument) (table_with plan posts program.job.table) made k in
    let rep : Report = report program.job r.argument p.0 in
    let rows : List Cells = rows_posted program.job r.argument p.0 in
    let same : booked_to plan posts (Some target) rep rows ≡ made = ap (λ o. booked_to plan posts o rep rows) (sym is) ∙ p.2 in
    subst (λ z. Fit plan posts target z.rows) same (booked_to-fit plan posts target rep rows (rows_posted-two program.job r.argument p.0))

-- ---- limits

-- behind those that were posted to the table before, these rows keep it within its limits, and each has a cell for each of its columns
pub record Suits (table : Table) (before rows : List Cells) : Type 0 where
  pub within : StaysWithin (before ++ rows)
  pub few : length (table.rows ++ (before ++ rows)) ≤ 1114112
  pub even : list_all (has_length (length table.columns)) rows ≡ true

-- rows that are within the limits and have these cells suit it
suits : (table : Table) (before rows : List Cells) → is_within table before rows ≡ true → list_all (has_length (length table.columns)) rows ≡ true
    → Suits table before rows
unfolding is_within
suits table before rows h even =
    let all : length (before ++ rows) ≡ length before + length rows = length-append before rows in
    let a : (nat_le (length before + length rows) MOST_POSTED_ROWS ≡ true)
    × ((nat_le (bytes_of before + bytes_of rows) MOST_POSTED_BYTES && nat_le (length table.rows + (length before + length rows)) 1114112) ≡ true) = and_parts _ _ h in
    let b : (nat_le (bytes_of before + bytes_of rows) MOST_POSTED_BYTES ≡ true) × (nat_le (length table.rows + (length before + length rows)) 1114112 ≡ true) = and_parts _ _ a.1 in
    let few : length before + length rows ≤ MOST_POSTED_ROWS = leb-true _ _ a.0 in
    let bytes : bytes_of before + bytes_of rows ≤ MOST_POSTED_BYTES = leb-true _ _ b.0 in
    let whole : length table.rows + (length before + length rows) ≤ 1114112 = leb-true _ _ b.1 in
    record {
      within = record {
        few = subst (λ n. n ≤ MOST_POSTED_ROWS) (sym all) few;
        bytes = subst (λ n. n ≤ MOST_POSTED_BYTES) (sym (sum_by-append (λ row. sum_by length row) before rows)) bytes;
      };
      few = subst (λ n. n ≤ 1114112) (sym (length-append table.rows (before ++ rows) ∙ ap (λ n. length table.rows + n) all)) whole;
      even = even;
    }

-- ---- an end

-- an end adds no rows to a table, or rows that suit the one with this name
abbrev pub Adds : Plan → List ℕ → List Cells → List Cells → Type 0
Adds plan name before rows = (rows ≡ []) ⊎ ((table : Table) × (table_named plan.setup plan.tables name ≡ Some table) × Suits table before rows)

-- rows that fit, of a program that posts to the table, suit it
fit-adds : (plan : Plan) (posts : List Post) (r : Req) (program : Program) (name : List ℕ) (rows : List Cells) → ArePostsApart plan → program_of plan r ≡ Some program
    → program.post ≡ Some name → Fit plan posts name rows → Adds plan name (posted name posts) rows
unfolding fits
fit-adds plan posts r program name rows apart ofr is (inl none) = inl none
fit-adds plan posts r program name rows apart ofr is (inr fit) =
    let p : (table : Table) × (table_named plan.setup plan.tables name ≡ Some table) × (is_within table (posted name posts) rows ≡ true) =
    some_and-some (λ table. is_within table (posted name posts) rows) (table_named plan.setup plan.tables name) fit.0 in
    let even : list_all (has_length (length p.0.columns)) rows ≡ true =
    subst (λ n. list_all (has_length n) rows ≡ true) (sym (two_columns plan r program name p.0 apart ofr is p.1)) fit.1 in
    inr (p.0, p.1, suits p.0 (posted name posts) rows p.2 even)

-- what an end adds to a table is so
end-adds : (plan : Plan) (past : List Event) (id : RequestId) (o : Outcome) (x : Option Extent) (name : List ℕ) → ArePostsApart plan
    → is_lawful_so_far plan past ≡ true → may_follow plan None past (event.Ended id o x) ≡ true
    → Adds plan name (posted name (posts_after plan past)) (posted name (added plan id o (last_report plan past id)))
unfolding report_after
end-adds plan past id o x name apart lawful may = elim (posted-added plan name id o (last_report plan past id)) [
  | inl none ↦ inl none
  | inr some ↦
      let q : PostsTo plan name id = target-posts plan name id some.is_target in
      let run : runs past q.req.number ≡ true = end_runs plan None past q.req o x q.element (subst (λ z. may_follow plan None past (event.Ended z o x) ≡ true) (sym q.number) may) in
      let now : booked plan (posts_after plan past) q.req ≡ Some some.report =
      sym (last_stands plan past q.req q.program apart lawful q.element q.is_program run) ∙ (ap (last_report plan past) q.number ∙ some.is_report) in
      let fit : Fit plan (posts_after plan past) name (posted name (added plan id o (last_report plan past id))) =
      subst (Fit plan (posts_after plan past) name) (sym some.are_rows) (booked-fit plan (posts_after plan past) q.req q.program name some.report q.is_program q.is_target now) in
      fit-adds plan (posts_after plan past) q.req q.program name (posted name (added plan id o (last_report plan past id))) apart q.is_program q.is_target fit
]

-- ---- all ends

-- what holds of no rows, and goes on where rows suit the table, holds of what is posted to it behind lawful events
pub by_ends : (plan : Plan) (name : List ℕ) (P : List Cells → Type 0) → ArePostsApart plan → P []
    → ((table : Table) (before rows : List Cells) → table_named plan.setup plan.tables name ≡ Some table → P before → Suits table before rows → P (before ++ rows))
    → (past : List Event) → is_lawful_so_far plan past ≡ true → P (posted name (posts_after plan past))
unfolding is_lawful_so_far posts_after books_after book
by_ends plan name P apart none more [] lawful = none
by_ends plan name P apart none more (event.Ended id o x ∷ past) lawful =
    let p : (is_lawful_so_far plan past ≡ true) × (may_follow plan None past (event.Ended id o x) ≡ true) = and_parts _ _ lawful in
    let before : P (posted name (posts_after plan past)) = by_ends plan name P apart none more past p.0 in
    subst P (sym (posted-end plan name past id o x))
    (elim (end-adds plan past id o x name apart p.0 p.1) [
      | inl e ↦ subst P (sym (ap (λ l. posted name (posts_after plan past) ++ l) e ∙ append-nil (posted name (posts_after plan past)))) before
      | inr q ↦ more q.0 (posted name (posts_after plan past)) (posted name (added plan id o (last_report plan past id))) q.1 before q.2
    ])
by_ends plan name P apart none more (e ∷ past) lawful =
    by_ends plan name P apart none more past (and_parts (is_lawful_so_far plan past) (may_follow plan None past e) lawful).0

-- so it stays within the limits of posted rows
pub stays_within : (plan : Plan) (name : List ℕ) → ArePostsApart plan → (past : List Event) → is_lawful_so_far plan past ≡ true
    → StaysWithin (posted name (posts_after plan past))
stays_within plan name apart =
    by_ends plan name StaysWithin apart (record { few = omega arith; bytes = omega arith }) (λ table before rows here within more. more.within)
