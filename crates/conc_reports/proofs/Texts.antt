-- The text that the figures of one pass give is the text of the report.
use Rattle.std.proofs.Common.{◌≡◌, ◌∙◌, sym, ap, refl, ℕ, ℤ, Bool, true, false, ◌||◌, List, [], ◌∷◌, ◌++◌, Option, None, Some, codes, cond, length, map, nat_cmp}
use Rattle.std.specs.Borrow.{Bor}
use Rattle.std.specs.BTreeMap.{BTreeMap, IsOrdered, is_at}
use Rattle.std.specs.Cmp.Lexicographic.{slice_cmp}
use Rattle.std.specs.Fmt.{decimal, signed_decimal}
use Rattle.std.specs.List.{AllByRecursion, concat, filter, list_any}
use Rattle.std.specs.List.Sorted.{IsStrictlySortedBy}
use Rattle.std.specs.Map.{keys_of, lookup}
use Rattle.std.specs.Option.{option_map, option_map_or}
use Rattle.std.specs.Ordering.{is_eq}
use Rattle.std.specs.declared.cmp.Ordering.TheVariants.{Less}
use Rattle.std.specs.Str.{bytes_eq}
use Rattle.std.proofs.lemmas.Cmp.{nat_list_eq_equiv}
use Rattle.conc_types.specs.declared.event.Outcome.TheVariants as outcome
use Rattle.conc_types.specs.declared.program.Job.{Job}
use Rattle.conc_types.specs.declared.table.Table.{Table}
use Rattle.conc_base_law.specs.Report.{Row, cell, first_bad, full_text, group_lines, keys, line, ordered, outcome_by, passing, quoted, report, report_by, rows_of, sum_of}
use Rattle.conc_reports.specs.declared.figures.Figures.{Figures}
use Rattle.conc_reports.specs.Figures.{figures_at, shown}
use Rattle.conc_reports.specs.Tallies.{IsTally, figures, figures_if_any, figures_of_key}
use Rattle.conc_reports.specs.Texts.{Group, figures_line, group_of, groups_text, outcome_by_count, tally_report, tally_text}
use Rattle.conc_reports.proofs.Ordered.{any-ordered, at_key, at_key-map, compare, keys_of-map, same_entries, sorted-ordered}
use Rattle.conc_reports.proofs.Passing.{first_bad-find}

-- ---- the groups, by the definition of the report

-- each key of the rows with its figures
abbrev groups_by : Option (List ℕ) → Option (List ℕ) → Table → List Row → List Group
groups_by sum None table rows = []
groups_by sum (Some name) table rows = map (λ key. (key, figures sum table (rows_of table name rows key))) (keys table name rows)

sum-text : (sum : Option (List ℕ)) (table : Table) (rows : List Row) → option_map_or (λ column. codes "," ++ signed_decimal (sum_of table column rows)) sum [] ≡ option_map_or (λ _. codes "," ++ signed_decimal (figures sum table rows).1) sum []
unfolding sum_of cell
sum-text None table rows = refl
sum-text (Some column) table rows = refl

line-figures : (job : Job) (table : Table) (head : List ℕ) (rows : List Row) → line job table head rows ≡ figures_line job.sum head (figures job.sum table rows)
unfolding line
line-figures job table head rows = ap (λ (text : List ℕ). head ++ codes "," ++ decimal (length rows) ++ text ++ codes "\n") (sum-text job.sum table rows)

lines-text : (job : Job) (table : Table) (name : List ℕ) (rows : List Row) (ks : List (List ℕ)) → concat (map (λ key. line job table (quoted key) (rows_of table name rows key)) ks) ≡ groups_text job.sum (map (λ key. (key, figures job.sum table (rows_of table name rows key))) ks)
lines-text job table name rows [] = refl
lines-text job table name rows (key ∷ ks) =
    rw (line-figures job table (quoted key) (rows_of table name rows key), lines-text job table name rows ks) refl

groups_by-text : (job : Job) (group : Option (List ℕ)) (table : Table) (rows : List Row) → option_map_or (group_lines job table rows) group [] ≡ groups_text job.sum (groups_by job.sum group table rows)
unfolding group_lines
groups_by-text job None table rows = refl
groups_by-text job (Some name) table rows = lines-text job table name rows (keys table name rows)

-- ---- the groups, by the map

all-shown : (b : Bor (List ℕ)) (es : List (Bor (List ℕ) × Figures)) → AllByRecursion (λ y. compare b.now y.now ≡ Less) (keys_of es) → AllByRecursion (λ y. compare b.now y ≡ Less) (keys_of (map group_of es))
all-shown b [] all = tt
all-shown b (e ∷ es) all = (all.0, all-shown b es all.1)

sorted-shown : (es : List (Bor (List ℕ) × Figures)) → IsStrictlySortedBy (λ x y. compare x.now y.now) (keys_of es) → IsStrictlySortedBy compare (keys_of (map group_of es))
unfolding IsStrictlySortedBy
sorted-shown [] s = tt
sorted-shown (e ∷ es) s = (all-shown e.0 es s.0, sorted-shown es s.1)

at_key-shown : (es : List (Bor (List ℕ) × Figures)) (q : List ℕ) → at_key (map group_of es) q ≡ option_map shown (lookup (is_at (λ k. compare q k.now)) es)
at_key-shown [] q = refl
at_key-shown (e ∷ es) q =
    elim (is_eq (compare q e.0.now)) as (λ b. cond b (Some (shown e.1)) (at_key (map group_of es) q) ≡ option_map shown (cond b (Some e.1) (lookup (is_at (λ k. compare q k.now)) es))) [
      | true ↦ refl
      | false ↦ at_key-shown es q
    ]

abbrev is_some_row : List Row → Bool
is_some_row [] = false
is_some_row (row ∷ rows) = true

some_row-filter : (p q : Row → Bool) → ((row : Row) → p row ≡ q row) → (rows : List Row) → is_some_row (filter p rows) ≡ list_any q rows
some_row-filter p q same [] = refl
some_row-filter p q same (row ∷ rows) = rw (sym (same row)) (
    elim (p row) as (λ b. is_some_row (cond b (row ∷ filter p rows) (filter p rows)) ≡ (b || list_any q rows)) [
      | true ↦ refl
      | false ↦ some_row-filter p q same rows
    ])

if_any-cond : (sum : Option (List ℕ)) (table : Table) (rows : List Row) → figures_if_any sum table rows ≡ cond (is_some_row rows) (Some (figures sum table rows)) None
if_any-cond sum table [] = refl
if_any-cond sum table (row ∷ rows) = refl

any-map : (f : Row → List ℕ) (q : List ℕ) (rows : List Row) → list_any (bytes_eq q) (map f rows) ≡ list_any (λ row. bytes_eq q (f row)) rows
any-map f q [] = refl
any-map f q (row ∷ rows) = rw (any-map f q rows) refl

of_key-at : (sum group : Option (List ℕ)) (table : Table) (rows : List Row) (q : List ℕ) → figures_of_key sum group table rows q ≡ at_key (groups_by sum group table rows) q
unfolding keys rows_of
of_key-at sum None table rows q = refl
of_key-at sum (Some name) table rows q =
    let own = λ (row : Row). bytes_eq (cell table name row) q in
    let there : is_some_row (filter own rows) ≡ list_any (bytes_eq q) (ordered (map (cell table name) rows)) =
    some_row-filter own (λ row. bytes_eq q (cell table name row)) (λ row. nat_list_eq_equiv.symm (cell table name row) q) rows
    ∙ sym (any-map (cell table name) q rows) ∙ sym (any-ordered q (map (cell table name) rows)) in
    if_any-cond sum table (filter own rows)
    ∙ ap (λ b. cond b (Some (figures sum table (filter own rows))) None) there
    ∙ sym (at_key-map (λ key. figures sum table (rows_of table name rows key)) (ordered (map (cell table name) rows)) q)

groups_by-sorted : (sum group : Option (List ℕ)) (table : Table) (rows : List Row) → IsStrictlySortedBy compare (keys_of (groups_by sum group table rows))
unfolding keys IsStrictlySortedBy
groups_by-sorted sum None table rows = tt
groups_by-sorted sum (Some name) table rows =
    rw (keys_of-map (λ key. figures sum table (rows_of table name rows key)) (ordered (map (cell table name) rows))) (sorted-ordered (map (cell table name) rows))

entries-groups_by : (sum group : Option (List ℕ)) (table : Table) (rows : List Row) (groups : BTreeMap (Bor (List ℕ)) Figures)
    → IsOrdered (λ x y. slice_cmp nat_cmp x.now y.now) groups → ((q : List ℕ) → figures_at groups q ≡ figures_of_key sum group table rows q)
    → map group_of groups.entries ≡ groups_by sum group table rows
entries-groups_by sum group table rows groups s h =
    same_entries (map group_of groups.entries) (groups_by sum group table rows) (sorted-shown groups.entries s) (groups_by-sorted sum group table rows)
    (λ q. at_key-shown groups.entries q ∙ h q ∙ of_key-at sum group table rows q)

-- ---- the report

full_text-tally : (job : Job) (table : Table) (rows : List Row) → full_text job table rows ≡ tally_text job (figures job.sum table rows) (groups_by job.sum job.group table rows)
unfolding full_text tally_text
full_text-tally job table rows =
    rw (groups_by-text job job.group table rows, line-figures job table (codes "total") rows) refl

report_by-tally : (job : Job) (table : Table) (rows : List Row) → report_by job table rows None ≡ tally_report job (figures job.sum table rows) (groups_by job.sum job.group table rows)
unfolding tally_report outcome_by outcome_by_count
report_by-tally job table rows = rw (full_text-tally job table rows) refl

-- what the figures of one pass give is the report
pub report-tally : (job : Job) (argument : List ℕ) (table : Table) (all : ℕ × ℤ) (groups : BTreeMap (Bor (List ℕ)) Figures)
    → IsTally job.sum job.group table (passing job argument table) all (figures_at groups) → IsOrdered (λ x y. slice_cmp nat_cmp x.now y.now) groups
    → tally_report job all (map group_of groups.entries) ≡ report job argument table
unfolding report
report-tally job argument table all groups h s =
    let rows = passing job argument table in
    let whole : first_bad job table rows ≡ None = first_bad-find job table rows ∙ h.none_bad in
    rw (whole, h.all_are, entries-groups_by job.sum job.group table rows groups s h.keys_are) (sym (report_by-tally job table rows))

by_row : (job : Job) (table : Table) (rows : List Row) (bad : Option Row) (number : ℕ) → option_map (λ row. row.0) bad ≡ Some number
    → report_by job table rows bad ≡ record { outcome = outcome.Error; text = codes "row " ++ decimal number ++ codes ": not a whole number\n" }
by_row job table rows None number e = absurd cc
by_row job table rows (Some row) number e =
    let same : row.0 ≡ number = cc in
    ap (λ (n : ℕ). record { outcome = outcome.Error; text = codes "row " ++ decimal n ++ codes ": not a whole number\n" }) same

-- the report where a row is bad
pub report-bad : (job : Job) (argument : List ℕ) (table : Table) (number : ℕ) → option_map (λ row. row.0) (first_bad job table (passing job argument table)) ≡ Some number
    → report job argument table ≡ record { outcome = outcome.Error; text = codes "row " ++ decimal number ++ codes ": not a whole number\n" }
unfolding report
report-bad job argument table number e = by_row job table (passing job argument table) (first_bad job table (passing job argument table)) number e
