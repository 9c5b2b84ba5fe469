-- Programs that post: two programs at one table, a chain of three, and a program that posts to the table that it reads.
use Rattle.std.proofs.Common.{◌≡◌, true, false, List, [], ◌∷◌, ◌++◌, map, take, None, Some, refl}
use Rattle.std.specs.Prelude.{codes}
use Rattle.conc_types.specs.declared.event.Event.{Event}
use Rattle.conc_types.specs.declared.event.Event.TheVariants as event
use Rattle.conc_types.specs.declared.event.Moment.{Moment}
use Rattle.conc_types.specs.declared.event.Outcome.TheVariants as outcome
use Rattle.conc_types.specs.declared.item.Item.TheVariants as item
use Rattle.conc_types.specs.declared.plan.Plan.{Plan}
use Rattle.conc_types.specs.declared.script.Reading.{Reading}
use Rattle.conc_base_law.specs.Text.{text_of}
use Rattle.conc_base_posts.specs.Posts.{Cells}
use Rattle.conc_base_posts.specs.Targets.{posts_fault}
use Rattle.conc_base_examples.proofs.Plans.{texts, monday, nine, id, three_rows, submit, reading, once, start, end}
use Rattle.conc_base_examples.proofs.Computed.{the_law, lawful, finished, lawful_after}
use Rattle.conc_base_examples.proofs.PostedPlans.{the_law_of_posts, RunsTo, global_entry, no_rows, plan_over, poster, reader, report_made_by, reported, row, table_at_end, setup_over, table}

abbrev ten : Moment
ten = monday 10 0 0

-- what a report on the rows a,10 and b,20 and a,5 posts
abbrev rows_of_a : List Cells
rows_of_a = row (codes "a") (codes "15") ∷ row (codes "b") (codes "20") ∷ []

-- ---- A posts to the table that B reads

-- A, A and B are submitted
abbrev posted_twice : Plan
unfolding texts
posted_twice =
    plan_over
    (setup_over
    (codes "t.csv" ∷ codes "u.csv" ∷ [])
    (poster (codes "A") (codes "t.csv") (codes "u.csv") ∷ reader (codes "B") (codes "u.csv") ∷ [])
    (global_entry 0 0 ∷ global_entry 0 1 ∷ [])
    []
    refl)
    (three_rows ∷ no_rows ∷ [])
    (submit nine (item.Program 0) ∷ submit nine (item.Program 0) ∷ submit nine (item.Program 1) ∷ [])
    refl

abbrev posted_twice_history : List Event
posted_twice_history =
    event.Tick nine ∷ event.Command 1 ∷ event.Command 2 ∷ event.Command 3
    ∷ event.LetOut (id 1) ∷ start 1 0 ∷ end 1 outcome.Normal 0
    ∷ event.LetOut (id 2) ∷ start 2 0 ∷ end 2 outcome.Normal 39
    ∷ event.LetOut (id 3) ∷ start 3 0 ∷ end 3 outcome.Normal 78 ∷ []

posted_twice_runs : RunsTo posted_twice (once nine) posted_twice_history
unfolding the_law the_law_of_posts
posted_twice_runs = refl

posted_twice_is_lawful : lawful posted_twice (once nine) posted_twice_history ≡ true
unfolding the_law
posted_twice_is_lawful = refl

posted_twice_is_finished : finished posted_twice (once nine) posted_twice_history ≡ true
unfolding the_law
posted_twice_is_finished = refl

posted_twice_text :
    text_of posted_twice posted_twice_history
    ≡ codes "tick 2025-03-03T09:00:00\ndo 1\ndo 2\ndo 3\nlet 1\nstart 1 1.1\nend 1 Normal 0 39\nlet 2\nstart 2 1.1\nend 2 Normal 39 39\n"
    ++ codes "let 3\nstart 3 1.1\nend 3 Normal 78 39\n--\n1 Completed Normal A\n2 Completed Normal A\n3 Completed Normal B\n"
unfolding the_law
posted_twice_text = refl

-- the postings of the plan are apart
posted_twice_is_apart : posts_fault posted_twice.setup posted_twice.tables ≡ None
unfolding the_law the_law_of_posts
posted_twice_is_apart = refl

-- neither the second request of A nor B is let while the first one runs
let_beside_a : map (λ r. lawful_after posted_twice (once nine) 6 posted_twice_history (event.LetOut (id r))) (2 ∷ 3 ∷ []) ≡ false ∷ false ∷ []
unfolding the_law
let_beside_a = refl

-- both requests of A report the same, since nothing is posted to the table that they read
first_of_a :
    report_made_by posted_twice posted_twice_history 1
    ≡ reported outcome.Normal (codes "key,count,sum\na,2,15\nb,1,20\ntotal,3,35\n") rows_of_a
unfolding the_law the_law_of_posts
first_of_a = refl

second_of_a :
    report_made_by posted_twice posted_twice_history 2
    ≡ reported outcome.Normal (codes "key,count,sum\na,2,15\nb,1,20\ntotal,3,35\n") rows_of_a
unfolding the_law the_law_of_posts
second_of_a = refl

-- B reports what both have posted, and posts nothing
report_by_b :
    report_made_by posted_twice posted_twice_history 3
    ≡ reported outcome.Normal (codes "key,count,sum\na,2,30\nb,2,40\ntotal,4,70\n") []
unfolding the_law the_law_of_posts
report_by_b = refl

-- the whole table at the end, with its columns
table_of_b : table_at_end posted_twice posted_twice_history (codes "u.csv") ≡ Some (table
    (row (codes "a") (codes "15") ∷ row (codes "b") (codes "20") ∷ row (codes "a") (codes "15") ∷ row (codes "b") (codes "20") ∷ [])
    refl
    refl)
unfolding the_law the_law_of_posts
table_of_b = refl

-- the table that A reads is as it was
table_of_a : table_at_end posted_twice posted_twice_history (codes "t.csv") ≡ Some three_rows
unfolding the_law the_law_of_posts
table_of_a = refl

-- rows are posted at the end of a request and not at its start
table_on_the_way :
    map (λ n. table_at_end posted_twice (take n posted_twice_history) (codes "u.csv")) (6 ∷ 7 ∷ 9 ∷ [])
    ≡ Some no_rows ∷ Some (table rows_of_a refl refl) ∷ Some (table rows_of_a refl refl) ∷ []
unfolding the_law the_law_of_posts
table_on_the_way = refl

-- ---- a chain: A posts to the table that B reads, and B to the one that C reads

-- A, A and B are submitted, and C an hour later
abbrev chain : Plan
unfolding texts
chain =
    plan_over
    (setup_over
    (codes "t.csv" ∷ codes "u.csv" ∷ codes "w.csv" ∷ [])
    (poster (codes "A") (codes "t.csv") (codes "u.csv")
    ∷ poster (codes "B") (codes "u.csv") (codes "w.csv")
    ∷ reader (codes "C") (codes "w.csv") ∷ [])
    (global_entry 0 0 ∷ global_entry 0 1 ∷ global_entry 1 1 ∷ global_entry 1 2 ∷ [])
    []
    refl)
    (three_rows ∷ no_rows ∷ no_rows ∷ [])
    (submit nine (item.Program 0) ∷ submit nine (item.Program 0) ∷ submit nine (item.Program 1) ∷ submit ten (item.Program 2) ∷ [])
    refl

abbrev chain_readings : List Reading
chain_readings = reading nine ∷ reading ten ∷ []

abbrev chain_history : List Event
chain_history =
    event.Tick nine ∷ event.Command 1 ∷ event.Command 2 ∷ event.Command 3
    ∷ event.LetOut (id 1) ∷ start 1 0 ∷ end 1 outcome.Normal 0
    ∷ event.LetOut (id 2) ∷ start 2 0 ∷ end 2 outcome.Normal 39
    ∷ event.LetOut (id 3) ∷ start 3 0 ∷ end 3 outcome.Normal 78
    ∷ event.Tick ten ∷ event.Command 4
    ∷ event.LetOut (id 4) ∷ start 4 0 ∷ end 4 outcome.Normal 117 ∷ []

chain_runs : RunsTo chain chain_readings chain_history
unfolding the_law the_law_of_posts
chain_runs = refl

chain_is_lawful : lawful chain chain_readings chain_history ≡ true
unfolding the_law
chain_is_lawful = refl

chain_is_finished : finished chain chain_readings chain_history ≡ true
unfolding the_law
chain_is_finished = refl

chain_is_apart : posts_fault chain.setup chain.tables ≡ None
unfolding the_law the_law_of_posts
chain_is_apart = refl

-- B posts the sums of what A posted
middle_of_chain :
    report_made_by chain chain_history 3
    ≡ reported outcome.Normal (codes "key,count,sum\na,2,30\nb,2,40\ntotal,4,70\n")
    (row (codes "a") (codes "30") ∷ row (codes "b") (codes "40") ∷ [])
unfolding the_law the_law_of_posts
middle_of_chain = refl

-- and C reports these
end_of_chain :
    report_made_by chain chain_history 4
    ≡ reported outcome.Normal (codes "key,count,sum\na,1,30\nb,1,40\ntotal,2,70\n") []
unfolding the_law the_law_of_posts
end_of_chain = refl

chain_tables :
    map (table_at_end chain chain_history) (codes "t.csv" ∷ codes "u.csv" ∷ codes "w.csv" ∷ [])
    ≡ Some three_rows ∷ Some (table (rows_of_a ++ rows_of_a) refl refl)
    ∷ Some (table (row (codes "a") (codes "30") ∷ row (codes "b") (codes "40") ∷ []) refl refl) ∷ []
unfolding the_law the_law_of_posts
chain_tables = refl

-- ---- a program that posts to the table that it reads

-- it is submitted twice
abbrev own_table : Plan
unfolding texts
own_table =
    plan_over
    (setup_over (codes "t.csv" ∷ []) (poster (codes "P") (codes "t.csv") (codes "t.csv") ∷ []) (global_entry 0 0 ∷ []) [] refl)
    (three_rows ∷ [])
    (submit nine (item.Program 0) ∷ submit nine (item.Program 0) ∷ [])
    refl

abbrev own_table_history : List Event
own_table_history =
    event.Tick nine ∷ event.Command 1 ∷ event.Command 2
    ∷ event.LetOut (id 1) ∷ start 1 0 ∷ end 1 outcome.Normal 0
    ∷ event.LetOut (id 2) ∷ start 2 0 ∷ end 2 outcome.Normal 39 ∷ []

own_table_runs : RunsTo own_table (once nine) own_table_history
unfolding the_law the_law_of_posts
own_table_runs = refl

own_table_is_lawful : lawful own_table (once nine) own_table_history ≡ true
unfolding the_law
own_table_is_lawful = refl

own_table_is_finished : finished own_table (once nine) own_table_history ≡ true
unfolding the_law
own_table_is_finished = refl

own_table_is_apart : posts_fault own_table.setup own_table.tables ≡ None
unfolding the_law the_law_of_posts
own_table_is_apart = refl

first_over_own_table :
    report_made_by own_table own_table_history 1
    ≡ reported outcome.Normal (codes "key,count,sum\na,2,15\nb,1,20\ntotal,3,35\n") rows_of_a
unfolding the_law the_law_of_posts
first_over_own_table = refl

-- the second report reads a,15 and b,20 too, which the first one posted
second_over_own_table :
    report_made_by own_table own_table_history 2
    ≡ reported outcome.Normal (codes "key,count,sum\na,3,30\nb,2,40\ntotal,5,70\n")
    (row (codes "a") (codes "30") ∷ row (codes "b") (codes "40") ∷ [])
unfolding the_law the_law_of_posts
second_over_own_table = refl

-- what is posted stands behind the rows of the file
own_table_at_end :
    table_at_end own_table own_table_history (codes "t.csv")
    ≡ Some (table
    (row (codes "a") (codes "10") ∷ row (codes "b") (codes "20") ∷ row (codes "a") (codes "5")
    ∷ row (codes "a") (codes "15") ∷ row (codes "b") (codes "20")
    ∷ row (codes "a") (codes "30") ∷ row (codes "b") (codes "40") ∷ [])
    refl
    refl)
unfolding the_law the_law_of_posts
own_table_at_end = refl
