-- The rows that a report posts: their keys, their order and their sums, also sums wider than 64 bits.
use Rattle.std.proofs.Common.{◌≡◌, ℕ, true, List, [], ◌∷◌, ◌++◌, map, take, lit≤, None, Some, refl}
use Rattle.std.specs.Prelude.{codes, IsTrue}
use Rattle.conc_types.specs.declared.event.Event.{Event}
use Rattle.conc_types.specs.declared.event.Event.TheVariants as event
use Rattle.conc_types.specs.declared.event.Outcome.TheVariants as outcome
use Rattle.conc_types.specs.declared.item.Item.TheVariants as item
use Rattle.conc_types.specs.declared.plan.Plan.{Plan}
use Rattle.conc_types.specs.declared.program.Job.{Job}
use Rattle.conc_types.specs.declared.program.Test.{Test}
use Rattle.conc_types.specs.declared.program.Test.TheVariants as test
use Rattle.conc_types.specs.declared.script.Act.TheVariants as act
use Rattle.conc_types.specs.declared.script.Order.{Order}
use Rattle.conc_types.specs.declared.table.Table.{Table}
use Rattle.conc_types.specs.Texts.{is_text}
use Rattle.conc_base_law.specs.Report.{report}
use Rattle.conc_base_posts.specs.Posts.{Cells, rows_posted, with_rows}
use Rattle.conc_base_posts.specs.Targets.{posts_fault}
use Rattle.conc_base_examples.proofs.Plans.{texts, nine, id, three_rows, submit, once, start}
use Rattle.conc_base_examples.proofs.Computed.{the_law, lawful}
use Rattle.conc_base_examples.proofs.PostedPlans.{the_law_of_posts, RunsTo, ended, global_entry, no_rows, plan_over, poster, program_with, report_made_by, reported, row, setup_over, sums_of, table, table_at_end}

-- sums of the column v over the rows that pass a filter, by the keys in the column k
abbrev filtered : List ℕ → List ℕ → Test → (value : List ℕ) → IsTrue (is_text 200 value) → Job
filtered name column test value short = record (sums_of name) {
  filters = record { column = column; test = test; value = value; short = short } ∷ [];
  few = lit≤ tt;
}

-- ---- keys

-- two empty keys, two keys b, a letter of two bytes, a comma and a quote
abbrev many_keys : Table
many_keys =
    table
    (row (codes "b") (codes "1") ∷ row [] (codes "2") ∷ row (codes "a") (codes "3") ∷ row (codes "B") (codes "4")
    ∷ row (195 ∷ 164 ∷ []) (codes "5") ∷ row (codes "a,b") (codes "6") ∷ row (codes "b") (codes "7") ∷ row [] (codes "8")
    ∷ row (codes "\"") (codes "9") ∷ [])
    refl
    refl

-- each key once, in the order of the bytes, as it stands in its cells
abbrev rows_of_keys : List Cells
rows_of_keys =
    row [] (codes "10") ∷ row (codes "\"") (codes "9") ∷ row (codes "B") (codes "4") ∷ row (codes "a") (codes "3")
    ∷ row (codes "a,b") (codes "6") ∷ row (codes "b") (codes "8") ∷ row (195 ∷ 164 ∷ []) (codes "5") ∷ []

keys_posted : rows_posted (sums_of (codes "t.csv")) [] many_keys ≡ rows_of_keys
unfolding the_law the_law_of_posts
keys_posted = refl

-- the quotes stand in the text alone
keys_in_text :
    report (sums_of (codes "t.csv")) [] many_keys
    ≡ record {
      outcome = outcome.Normal;
      text = codes "key,count,sum\n,2,10\n\"\"\"\",1,9\nB,1,4\na,1,3\n\"a,b\",1,6\nb,2,8\n" ++ 195 ∷ 164 ∷ codes ",1,5\ntotal,9,45\n";
    }
unfolding the_law
keys_in_text = refl

-- a report on the posted rows finds the same keys
keys_read_again :
    report (sums_of (codes "u.csv")) [] (with_rows no_rows rows_of_keys)
    ≡ record {
      outcome = outcome.Normal;
      text = codes "key,count,sum\n,1,10\n\"\"\"\",1,9\nB,1,4\na,1,3\n\"a,b\",1,6\nb,1,8\n" ++ 195 ∷ 164 ∷ codes ",1,5\ntotal,7,45\n";
    }
unfolding the_law the_law_of_posts
keys_read_again = refl

-- ---- sums

-- a sum is posted as its decimal, whatever its cells look like
sums_posted :
    rows_posted (sums_of (codes "t.csv")) []
    (table
    (row (codes "a") (codes "+5") ∷ row (codes "a") (codes "007") ∷ row (codes "b") (codes "4") ∷ row (codes "b") (codes "-4")
    ∷ row (codes "c") (codes "-12") ∷ [])
    refl
    refl)
    ≡ row (codes "a") (codes "12") ∷ row (codes "b") (codes "0") ∷ row (codes "c") (codes "-12") ∷ []
unfolding the_law the_law_of_posts
sums_posted = refl

-- ---- no row passes the filters

-- ann submits the only program with this argument
abbrev submit_with : List ℕ → Order
submit_with argument = record { at = nine; act = act.Submit (item.Program 0) (codes "ann") 50 nine (codes "Standard") argument }

-- A has its argument for a filter of the key. It is submitted with z and then with a
abbrev by_argument : Plan
unfolding texts
by_argument =
    plan_over
    (setup_over
    (codes "t.csv" ∷ codes "u.csv" ∷ [])
    (record (program_with (codes "A") (filtered (codes "t.csv") (codes "k") test.Is (codes "$") refl)) { post = Some (codes "u.csv"); sums = refl } ∷ [])
    (global_entry 0 0 ∷ [])
    []
    refl)
    (three_rows ∷ no_rows ∷ [])
    (submit_with (codes "z") ∷ submit_with (codes "a") ∷ [])
    refl

abbrev by_argument_history : List Event
by_argument_history =
    event.Tick nine ∷ event.Command 1 ∷ event.Command 2
    ∷ event.LetOut (id 1) ∷ start 1 0 ∷ ended 1 outcome.Normal 0 24
    ∷ event.LetOut (id 2) ∷ start 2 0 ∷ ended 2 outcome.Normal 24 32 ∷ []

by_argument_runs : RunsTo by_argument (once nine) by_argument_history
unfolding the_law the_law_of_posts
by_argument_runs = refl

-- the first report has no rows, and posts none
by_argument_reports :
    map (report_made_by by_argument by_argument_history) (1 ∷ 2 ∷ [])
    ≡ reported outcome.Normal (codes "key,count,sum\ntotal,0,0\n") []
    ∷ reported outcome.Normal (codes "key,count,sum\na,2,15\ntotal,2,15\n") (row (codes "a") (codes "15") ∷ []) ∷ []
unfolding the_law the_law_of_posts
by_argument_reports = refl

by_argument_tables :
    map (λ n. table_at_end by_argument (take n by_argument_history) (codes "u.csv")) (6 ∷ 9 ∷ [])
    ≡ Some no_rows ∷ Some (table (row (codes "a") (codes "15") ∷ []) refl refl) ∷ []
unfolding the_law the_law_of_posts
by_argument_tables = refl

-- ---- sums wider than 64 bits

-- three times the greatest whole number, and three times the least one
abbrev wide_rows : Table
wide_rows =
    table
    (row (codes "a") (codes "9223372036854775807") ∷ row (codes "b") (codes "-9223372036854775808")
    ∷ row (codes "a") (codes "9223372036854775807") ∷ row (codes "b") (codes "-9223372036854775808")
    ∷ row (codes "a") (codes "9223372036854775807") ∷ row (codes "b") (codes "-9223372036854775808") ∷ [])
    refl
    refl

-- two rows of the table itself
abbrev own_rows : Table
own_rows = table (row (codes "x") (codes "1") ∷ row (codes "y") (codes "2") ∷ []) refl refl

-- A posts wide sums to the table that B reads as a whole, C above 0 and D below 0. B posts too
abbrev wide : Plan
unfolding texts
wide =
    plan_over
    (setup_over
    (codes "t.csv" ∷ codes "u.csv" ∷ codes "w.csv" ∷ [])
    (poster (codes "A") (codes "t.csv") (codes "u.csv")
    ∷ poster (codes "B") (codes "u.csv") (codes "w.csv")
    ∷ program_with (codes "C") (filtered (codes "u.csv") (codes "v") test.Above (codes "0") refl)
    ∷ program_with (codes "D") (filtered (codes "u.csv") (codes "v") test.Below (codes "0") refl) ∷ [])
    (global_entry 0 0 ∷ global_entry 0 1 ∷ global_entry 0 2 ∷ global_entry 0 3 ∷ global_entry 1 1 ∷ [])
    []
    refl)
    (wide_rows ∷ own_rows ∷ no_rows ∷ [])
    (submit nine (item.Program 0) ∷ submit nine (item.Program 1) ∷ submit nine (item.Program 2) ∷ submit nine (item.Program 3) ∷ [])
    refl

abbrev wide_history : List Event
wide_history =
    event.Tick nine ∷ event.Command 1 ∷ event.Command 2 ∷ event.Command 3 ∷ event.Command 4
    ∷ event.LetOut (id 1) ∷ start 1 0 ∷ ended 1 outcome.Normal 0 76
    ∷ event.LetOut (id 2) ∷ event.LetOut (id 3) ∷ event.LetOut (id 4)
    ∷ start 2 0 ∷ ended 2 outcome.Error 76 26
    ∷ start 3 0 ∷ ended 3 outcome.Normal 102 36
    ∷ start 4 0 ∷ ended 4 outcome.Normal 138 24 ∷ []

wide_runs : RunsTo wide (once nine) wide_history
unfolding the_law the_law_of_posts
wide_runs = refl

wide_is_lawful : lawful wide (once nine) wide_history ≡ true
unfolding the_law
wide_is_lawful = refl

wide_is_apart : posts_fault wide.setup wide.tables ≡ None
unfolding the_law the_law_of_posts
wide_is_apart = refl

abbrev wide_sums : List Cells
wide_sums = row (codes "a") (codes "27670116110564327421") ∷ row (codes "b") (codes "-27670116110564327424") ∷ []

wide_report :
    report_made_by wide wide_history 1
    ≡ reported outcome.Normal (codes "key,count,sum\na,3,27670116110564327421\nb,3,-27670116110564327424\ntotal,6,-3\n") wide_sums
unfolding the_law the_law_of_posts
wide_report = refl

-- such a sum is no whole number of a later report, whose rows are counted from the table's own ones. With this error it posts nothing
wide_read :
    report_made_by wide wide_history 2 ≡ reported outcome.Error (codes "row 3: not a whole number\n") []
unfolding the_law the_law_of_posts
wide_read = refl

-- and it passes neither filter
wide_compared :
    map (report_made_by wide wide_history) (3 ∷ 4 ∷ [])
    ≡ reported outcome.Normal (codes "key,count,sum\nx,1,1\ny,1,2\ntotal,2,3\n") []
    ∷ reported outcome.Normal (codes "key,count,sum\ntotal,0,0\n") [] ∷ []
unfolding the_law the_law_of_posts
wide_compared = refl

wide_tables :
    map (table_at_end wide wide_history) (codes "u.csv" ∷ codes "w.csv" ∷ [])
    ≡ Some (table (row (codes "x") (codes "1") ∷ row (codes "y") (codes "2") ∷ wide_sums) refl refl) ∷ Some no_rows ∷ []
unfolding the_law the_law_of_posts
wide_tables = refl
