-- How much is posted to a table at most: 65,536 rows, and 4,194,304 bytes in their cells. A run that comes to one of these limits is
-- too long to compute. Lemmas on rows of any kind stand for it, and the report of a request behind that many rows or bytes.
use Rattle.std.proofs.Common.{◌≡◌, ℕ, ◌+◌, ◌≤◌, Bool, true, false, ◌&&◌, List, [], ◌∷◌, length, map, replicate, lit≤, Option, Some, if◌then◌else◌, refl, ◌∙◌, ap, arith}
use Rattle.std.specs.Prelude.{codes, nat_le}
use Rattle.std.specs.Option.{option_and_then}
use Rattle.std.proofs.lemmas.Bool.{and_from, and_parts, le-leb, leb-true, lt-leb}
use Rattle.std.proofs.lemmas.List.{append-nil}
use Rattle.conc_types.specs.declared.event.Outcome.TheVariants as outcome
use Rattle.conc_types.specs.declared.item.Item.TheVariants as item
use Rattle.conc_types.specs.declared.plan.Plan.{Plan}
use Rattle.conc_types.specs.declared.table.Table.{Table}
use Rattle.conc_types.specs.Plans.{request}
use Rattle.conc_types.specs.Tables.{table_named}
use Rattle.conc_types.specs.Words.{some_and}
use Rattle.conc_base_posts.specs.Posts.{Booked, Cells, Post, booked, booked_to, bytes_of, fits, is_within, posted}
use Rattle.conc_base_examples.proofs.Plans.{texts, nine, id, three_rows, submit}
use Rattle.conc_base_examples.proofs.Computed.{the_law}
use Rattle.conc_base_examples.proofs.PostedPlans.{the_law_of_posts, global_entry, no_rows, booked_report, plan_over, poster, reported, row, setup_over}

-- ---- what fits

-- rows fit where each of the three limits holds
rows_fit : (table : Table) (before rows : List Cells) → length before + length rows ≤ 65536 → bytes_of before + bytes_of rows ≤ 4194304
    → length table.rows + (length before + length rows) ≤ 1114112 → is_within table before rows ≡ true
unfolding is_within
rows_fit table before rows few bytes all = and_from _ _ (le-leb _ _ few) (and_from _ _ (le-leb _ _ bytes) (le-leb _ _ all))

-- a table from a file has at most 1,048,576 rows of its own. Behind them 65,536 posted rows in all fit
most_rows_fit : (table : Table) (before rows : List Cells) → length table.rows ≤ 1048576 → length before + length rows ≡ 65536
    → bytes_of before + bytes_of rows ≤ 4194304 → is_within table before rows ≡ true
most_rows_fit table before rows own count bytes = rows_fit table before rows (omega arith) bytes (omega arith)

-- and one more does not, whatever the table
next_row_does_not_fit : (table : Table) (before rows : List Cells) → length before + length rows ≡ 65537 → is_within table before rows ≡ false
unfolding is_within
next_row_does_not_fit table before rows count =
    let many : nat_le (length before + length rows) 65536 ≡ false = lt-leb _ _ (omega arith) in
    ap (λ few. few && (nat_le (bytes_of before + bytes_of rows) 4194304 && nat_le (length table.rows + (length before + length rows)) 1114112)) many

-- 4,194,304 bytes in all fit
most_bytes_fit : (table : Table) (before rows : List Cells) → length table.rows ≤ 1048576 → length before + length rows ≤ 65536
    → bytes_of before + bytes_of rows ≡ 4194304 → is_within table before rows ≡ true
most_bytes_fit table before rows own count bytes = rows_fit table before rows count (omega arith) (omega arith)

-- and one more does not
next_byte_does_not_fit : (table : Table) (before rows : List Cells) → bytes_of before + bytes_of rows ≡ 4194305 → is_within table before rows ≡ false
unfolding is_within
next_byte_does_not_fit table before rows bytes = by (nat_le (length before + length rows) 65536) (nat_le (length table.rows + (length before + length rows)) 1114112)
  where
    many : nat_le (bytes_of before + bytes_of rows) 4194304 ≡ false
    many = lt-leb _ _ (omega arith)

    by : (few all : Bool) → (few && (nat_le (bytes_of before + bytes_of rows) 4194304 && all)) ≡ false
    by false all = refl
    by true all = ap (λ b. b && all) many

-- no rows fit wherever those that are there are within the limits
none_fit : (table : Table) (before : List Cells) → is_within table [] before ≡ true → is_within table before [] ≡ true
unfolding is_within
none_fit table before within =
    let a : (nat_le (0 + length before) 65536 ≡ true)
    × ((nat_le (0 + bytes_of before) 4194304 && nat_le (length table.rows + (0 + length before)) 1114112) ≡ true) = and_parts _ _ within in
    let b : (nat_le (0 + bytes_of before) 4194304 ≡ true) × (nat_le (length table.rows + (0 + length before)) 1114112 ≡ true) = and_parts _ _ a.1 in
    let few : 0 + length before ≤ 65536 = leb-true _ _ a.0 in
    let bytes : 0 + bytes_of before ≤ 4194304 = leb-true _ _ b.0 in
    let all : length table.rows + (0 + length before) ≤ 1114112 = leb-true _ _ b.1 in
    rows_fit table before [] (omega arith) (omega arith) (omega arith)

-- rows fit into a table by its name where they fit behind what was posted to it
fits_by_name : (plan : Plan) (posts : List Post) (target : List ℕ) (table : Table) (rows : List Cells)
    → table_named plan.setup plan.tables target ≡ Some table → fits plan posts target rows ≡ is_within table (posted target posts) rows
unfolding fits
fits_by_name plan posts target table rows named = ap (some_and (λ table. is_within table (posted target posts) rows)) named

-- ---- what becomes of a report and its rows

-- what reports with this text become, where they are normal, a warning and an error
abbrev become : Plan → List Post → List ℕ → List ℕ → List Cells → List Booked
become plan posts target text rows =
    map (λ outcome. booked_to plan posts (Some target) (record { outcome = outcome; text = text }) rows)
    (outcome.Normal ∷ outcome.Warning ∷ outcome.Error ∷ [])

-- they become this, by whether their rows fit
abbrev by_fit : Bool → List ℕ → List Cells → List Booked
by_fit fit text rows =
    (if fit then booked_report outcome.Normal text rows else booked_report outcome.Error (codes "table full\n") [])
    ∷ (if fit then booked_report outcome.Warning text rows else booked_report outcome.Error (codes "table full\n") [])
    ∷ booked_report outcome.Error text [] ∷ []

-- where the rows fit, the normal report and the one with a warning post them. An error has none
where_rows_fit : (plan : Plan) (posts : List Post) (target text : List ℕ) (rows : List Cells) → fits plan posts target rows ≡ true
    → become plan posts target text rows ≡ booked_report outcome.Normal text rows ∷ booked_report outcome.Warning text rows ∷ booked_report outcome.Error text [] ∷ []
where_rows_fit plan posts target text rows fit = ap (λ b. by_fit b text rows) fit

-- where they do not fit, these two are an error with another text, and the error stays what it is
where_table_is_full : (plan : Plan) (posts : List Post) (target text : List ℕ) (rows : List Cells) → fits plan posts target rows ≡ false
    → become plan posts target text rows
    ≡ booked_report outcome.Error (codes "table full\n") [] ∷ booked_report outcome.Error (codes "table full\n") [] ∷ booked_report outcome.Error text [] ∷ []
where_table_is_full plan posts target text rows full = ap (λ b. by_fit b text rows) full

-- whatever fits, an error stays what it is
error_stays : (plan : Plan) (posts : List Post) (target text : List ℕ) (rows : List Cells)
    → booked_to plan posts (Some target) (record { outcome = outcome.Error; text = text }) rows ≡ booked_report outcome.Error text []
error_stays plan posts target text rows = refl

-- and so do reports without rows, where what was posted is within the limits
reports_without_rows_stay : (plan : Plan) (posts : List Post) (target text : List ℕ) (table : Table) → table_named plan.setup plan.tables target ≡ Some table
    → is_within table [] (posted target posts) ≡ true
    → become plan posts target text [] ≡ booked_report outcome.Normal text [] ∷ booked_report outcome.Warning text [] ∷ booked_report outcome.Error text [] ∷ []
reports_without_rows_stay plan posts target text table named within =
    where_rows_fit plan posts target text [] (fits_by_name plan posts target table [] named ∙ none_fit table (posted target posts) within)

length_of_table_full : length (codes "table full\n") ≡ 11
length_of_table_full = refl

-- ---- reports over a table to which much was posted

-- A reports two groups, and posts their rows of six bytes
abbrev plan_of_two : Plan
unfolding texts
plan_of_two =
    plan_over
    (setup_over
    (codes "t.csv" ∷ codes "u.csv" ∷ [])
    (poster (codes "A") (codes "t.csv") (codes "u.csv") ∷ [])
    (global_entry 0 0 ∷ [])
    []
    refl)
    (three_rows ∷ no_rows ∷ [])
    (submit nine (item.Program 0) ∷ [])
    refl

-- its report where these rows were posted before
abbrev report_behind : List Cells → Option Booked
report_behind rows = option_and_then (booked plan_of_two (record { table = codes "u.csv"; rows = rows } ∷ [])) (request plan_of_two (id 1))

abbrev rows_of_two : List Cells
rows_of_two = row (codes "a") (codes "15") ∷ row (codes "b") (codes "20") ∷ []

abbrev report_of_two : Booked
report_of_two = booked_report outcome.Normal (codes "key,count,sum\na,2,15\nb,1,20\ntotal,3,35\n") rows_of_two

-- behind 65,534 rows a,1 its two still fit, and behind one more they do not
behind_many_rows :
    map (λ n. report_behind (replicate n (row (codes "a") (codes "1")))) (65534 ∷ 65535 ∷ [])
    ≡ Some report_of_two ∷ reported outcome.Error (codes "table full\n") [] ∷ []
unfolding the_law the_law_of_posts
behind_many_rows = refl

-- whether they fit decides, behind any rows
behind_rows : (before : List Cells) (fit : Bool) → is_within no_rows before rows_of_two ≡ fit
    → report_behind before ≡ Some (if fit then report_of_two else booked_report outcome.Error (codes "table full\n") [])
unfolding the_law the_law_of_posts
behind_rows before fit is =
    ap (λ b. Some (if b then report_of_two else booked_report outcome.Error (codes "table full\n") []))
    (ap (λ rows. is_within no_rows rows rows_of_two) (append-nil before) ∙ is)

-- the two have six bytes: behind 4,194,298 bytes they still fit
behind_many_bytes : (before : List Cells) → length before ≤ 65534 → bytes_of before ≡ 4194298 → report_behind before ≡ Some report_of_two
behind_many_bytes before few bytes =
    behind_rows before true (most_bytes_fit no_rows before rows_of_two (lit≤ tt) (omega arith) (ap (λ n. n + 6) bytes))

-- and behind one byte more they do not
behind_one_byte_more : (before : List Cells) → bytes_of before ≡ 4194299
    → report_behind before ≡ reported outcome.Error (codes "table full\n") []
behind_one_byte_more before bytes =
    behind_rows before false (next_byte_does_not_fit no_rows before rows_of_two (ap (λ n. n + 6) bytes))
