-- Which ends add rows, in which order, and what a restart makes of them.
use Rattle.std.proofs.Common.{◌≡◌, ℕ, true, List, [], ◌∷◌, ◌++◌, map, reverse, take, lit≤, None, Some, refl}
use Rattle.std.specs.Prelude.{codes}
use Rattle.conc_types.specs.declared.event.Event.{Event}
use Rattle.conc_types.specs.declared.event.Event.TheVariants as event
use Rattle.conc_types.specs.declared.event.Moment.{Moment}
use Rattle.conc_types.specs.declared.event.Outcome.TheVariants as outcome
use Rattle.conc_types.specs.declared.item.Item.TheVariants as item
use Rattle.conc_types.specs.declared.kind.RefusalKind.TheVariants as refused
use Rattle.conc_types.specs.declared.plan.Plan.{Plan}
use Rattle.conc_types.specs.declared.program.Program.{Program}
use Rattle.conc_types.specs.declared.program.Test.TheVariants as test
use Rattle.conc_types.specs.declared.script.Act.TheVariants as act
use Rattle.conc_types.specs.declared.script.Order.{Order}
use Rattle.conc_types.specs.declared.script.Reading.{Reading}
use Rattle.conc_base_posts.specs.Posts.{Cells}
use Rattle.conc_base_posts.specs.Targets.{posts_fault}
use Rattle.conc_base_examples.proofs.Plans.{texts, monday, nine, id, three_rows, submit, command, manager, reading, shift, once, start, end}
use Rattle.conc_base_examples.proofs.Computed.{the_law, lawful}
use Rattle.conc_base_examples.proofs.PostedPlans.{the_law_of_posts, GoesOnTo, RunsTo, ended, global_entry, made, no_rows, plan_over, poster, reader, report_made_by, reported, row, setup_over, sums_of, table, table_at_end}

-- the report on the rows a,10 and b,20 and a,5, and what it posts
abbrev text_of_three : List ℕ
text_of_three = codes "key,count,sum\na,2,15\nb,1,20\ntotal,3,35\n"

abbrev rows_of_three : List Cells
rows_of_three = row (codes "a") (codes "15") ∷ row (codes "b") (codes "20") ∷ []

-- the report on a table without rows, of 24 bytes
abbrev text_of_none : List ℕ
text_of_none = codes "key,count,sum\ntotal,0,0\n"

abbrev poster_a : Program
poster_a = poster (codes "A") (codes "t.csv") (codes "u.csv")

abbrev reader_b : Program
reader_b = reader (codes "B") (codes "u.csv")

abbrev ten : Moment
ten = monday 10 0 0

-- ann submits the program with this place, which goes before those of priority 50
abbrev urgent : Moment → ℕ → Order
urgent t place = record { at = t; act = act.Submit (item.Program place) (codes "ann") 10 t (codes "Standard") [] }

-- ---- an error and a warning

-- E has an error where there are more than two rows, and W a warning. E, W and B are submitted
abbrev limited : Plan
unfolding texts
limited =
    plan_over
    (setup_over
    (codes "t.csv" ∷ codes "u.csv" ∷ [])
    (record poster_a { name = codes "E"; job = record (sums_of (codes "t.csv")) { error_over = Some 2 }; sums = refl }
    ∷ record poster_a { name = codes "W"; job = record (sums_of (codes "t.csv")) { warn_over = Some 2 }; sums = refl }
    ∷ reader_b ∷ [])
    (global_entry 0 0 ∷ global_entry 1 1 ∷ global_entry 0 1 ∷ global_entry 0 2 ∷ global_entry 1 2 ∷ [])
    []
    refl)
    (three_rows ∷ no_rows ∷ [])
    (submit nine (item.Program 0) ∷ submit nine (item.Program 1) ∷ submit nine (item.Program 2) ∷ [])
    refl

abbrev limited_history : List Event
limited_history =
    event.Tick nine ∷ event.Command 1 ∷ event.Command 2 ∷ event.Command 3
    ∷ event.LetOut (id 1) ∷ start 1 0 ∷ end 1 outcome.Error 0
    ∷ event.LetOut (id 2) ∷ start 2 0 ∷ end 2 outcome.Warning 39
    ∷ event.LetOut (id 3) ∷ start 3 0 ∷ end 3 outcome.Normal 78 ∷ []

limited_runs : RunsTo limited (once nine) limited_history
unfolding the_law the_law_of_posts
limited_runs = refl

limited_is_lawful : lawful limited (once nine) limited_history ≡ true
unfolding the_law
limited_is_lawful = refl

limited_is_apart : posts_fault limited.setup limited.tables ≡ None
unfolding the_law the_law_of_posts
limited_is_apart = refl

-- the text is the same, but with an error there are no rows
limited_reports :
    map (report_made_by limited limited_history) (1 ∷ 2 ∷ 3 ∷ [])
    ≡ reported outcome.Error text_of_three [] ∷ reported outcome.Warning text_of_three rows_of_three
    ∷ reported outcome.Normal (codes "key,count,sum\na,1,15\nb,1,20\ntotal,2,35\n") [] ∷ []
unfolding the_law the_law_of_posts
limited_reports = refl

-- the table behind the error, behind the warning and at the end
limited_tables :
    map (λ n. table_at_end limited (take n limited_history) (codes "u.csv")) (7 ∷ 10 ∷ 13 ∷ [])
    ≡ Some no_rows ∷ Some (table rows_of_three refl refl) ∷ Some (table rows_of_three refl refl) ∷ []
unfolding the_law the_law_of_posts
limited_tables = refl

-- ---- terminated

-- A is terminated five minutes after its start, when B is submitted
abbrev stopped : Plan
unfolding texts
stopped =
    plan_over
    (setup_over (codes "t.csv" ∷ codes "u.csv" ∷ []) (poster_a ∷ reader_b ∷ []) (global_entry 0 0 ∷ global_entry 0 1 ∷ []) [] refl)
    (three_rows ∷ no_rows ∷ [])
    (submit nine (item.Program 0) ∷ command (monday 9 5 0) (act.Terminate (id 1)) ∷ submit (monday 9 5 0) (item.Program 1) ∷ [])
    refl

-- the second reading is early: it may be taken while the request runs
abbrev stopped_readings : List Reading
stopped_readings = reading nine ∷ record { moment = monday 9 5 0; early = true } ∷ []

abbrev stopped_before : List Event
stopped_before =
    event.Tick nine ∷ event.Command 1 ∷ event.LetOut (id 1) ∷ start 1 0
    ∷ event.Tick (monday 9 5 0) ∷ event.Command 2 ∷ event.Command 3 ∷ []

abbrev stopped_history : List Event
stopped_history =
    stopped_before ++ event.Ended (id 1) outcome.Terminated None
    ∷ event.LetOut (id 2) ∷ start 2 0 ∷ ended 2 outcome.Normal 0 24 ∷ []

stopped_is_lawful : lawful stopped stopped_readings stopped_history ≡ true
unfolding the_law
stopped_is_lawful = refl

-- from the command on it is what a run without workers makes
stopped_goes_on : made stopped stopped_readings 40 (reverse stopped_before) ≡ reverse stopped_history
unfolding the_law the_law_of_posts
stopped_goes_on = refl

-- what A reported where it started is not posted
stopped_reports :
    map (report_made_by stopped stopped_history) (1 ∷ 2 ∷ [])
    ≡ reported outcome.Normal text_of_three rows_of_three ∷ reported outcome.Normal text_of_none [] ∷ []
unfolding the_law the_law_of_posts
stopped_reports = refl

stopped_table : table_at_end stopped stopped_history (codes "u.csv") ≡ Some no_rows
unfolding the_law the_law_of_posts
stopped_table = refl

-- ---- interrupted, without the mark for restart and with it

-- the system stopped while A ran
abbrev found : List Event
found = event.Tick nine ∷ event.Command 1 ∷ event.Command 2 ∷ event.LetOut (id 1) ∷ start 1 0 ∷ []

abbrev given_up : Plan
unfolding texts
given_up =
    plan_over
    (setup_over (codes "t.csv" ∷ codes "u.csv" ∷ []) (poster_a ∷ reader_b ∷ []) (global_entry 0 0 ∷ global_entry 0 1 ∷ []) [] refl)
    (three_rows ∷ no_rows ∷ [])
    (submit nine (item.Program 0) ∷ submit nine (item.Program 1) ∷ [])
    refl

abbrev given_up_history : List Event
given_up_history =
    found ++ event.Resume ∷ event.Interrupt (id 1)
    ∷ event.LetOut (id 2) ∷ start 2 0 ∷ ended 2 outcome.Normal 0 24 ∷ event.Tick nine ∷ []

given_up_goes_on : GoesOnTo given_up (once nine) found given_up_history
unfolding the_law the_law_of_posts
given_up_goes_on = refl

given_up_is_lawful : lawful given_up (once nine) given_up_history ≡ true
unfolding the_law
given_up_is_lawful = refl

-- an interrupt adds nothing
given_up_table : table_at_end given_up given_up_history (codes "u.csv") ≡ Some no_rows
unfolding the_law the_law_of_posts
given_up_table = refl

given_up_report : report_made_by given_up given_up_history 2 ≡ reported outcome.Normal text_of_none []
unfolding the_law the_law_of_posts
given_up_report = refl

abbrev again : Plan
unfolding texts
again =
    plan_over
    (setup_over
    (codes "t.csv" ∷ codes "u.csv" ∷ [])
    (record poster_a { restart = true } ∷ reader_b ∷ [])
    (global_entry 0 0 ∷ global_entry 0 1 ∷ [])
    []
    refl)
    (three_rows ∷ no_rows ∷ [])
    (submit nine (item.Program 0) ∷ submit nine (item.Program 1) ∷ [])
    refl

abbrev again_history : List Event
again_history =
    found ++ event.Resume ∷ event.Interrupt (id 1)
    ∷ event.LetOut (id 1) ∷ start 1 0 ∷ end 1 outcome.Normal 0
    ∷ event.LetOut (id 2) ∷ start 2 0 ∷ end 2 outcome.Normal 39 ∷ event.Tick nine ∷ []

again_goes_on : GoesOnTo again (once nine) found again_history
unfolding the_law the_law_of_posts
again_goes_on = refl

again_is_lawful : lawful again (once nine) again_history ≡ true
unfolding the_law
again_is_lawful = refl

-- it started twice, and posts once
again_table : table_at_end again again_history (codes "u.csv") ≡ Some (table rows_of_three refl refl)
unfolding the_law the_law_of_posts
again_table = refl

again_report :
    report_made_by again again_history 2
    ≡ reported outcome.Normal (codes "key,count,sum\na,1,15\nb,1,20\ntotal,2,35\n") []
unfolding the_law the_law_of_posts
again_report = refl

-- ---- the last start counts

-- P posts to the table that it reads. The second submission is the more urgent one
abbrev overtaken : Plan
unfolding texts
overtaken =
    plan_over
    (setup_over
    (codes "t.csv" ∷ [])
    (record (poster (codes "P") (codes "t.csv") (codes "t.csv")) { restart = true } ∷ [])
    (global_entry 0 0 ∷ [])
    []
    refl)
    (three_rows ∷ [])
    (submit nine (item.Program 0) ∷ urgent ten 0 ∷ [])
    refl

-- the system stopped at ten, while the first request ran and before the second one was entered
abbrev overtaken_found : List Event
overtaken_found = event.Tick nine ∷ event.Command 1 ∷ event.LetOut (id 1) ∷ start 1 0 ∷ event.Tick ten ∷ []

abbrev overtaken_history : List Event
overtaken_history =
    overtaken_found ++ event.Resume ∷ event.Interrupt (id 1) ∷ event.Command 2
    ∷ event.LetOut (id 2) ∷ start 2 0 ∷ end 2 outcome.Normal 0
    ∷ event.LetOut (id 1) ∷ start 1 0 ∷ end 1 outcome.Normal 39 ∷ event.Tick ten ∷ []

overtaken_goes_on : GoesOnTo overtaken (once ten) overtaken_found overtaken_history
unfolding the_law the_law_of_posts
overtaken_goes_on = refl

overtaken_is_lawful : lawful overtaken (once ten) overtaken_history ≡ true
unfolding the_law
overtaken_is_lawful = refl

-- where it first started, the first request reported on the rows of the file
overtaken_first_start : report_made_by overtaken overtaken_found 1 ≡ reported outcome.Normal text_of_three rows_of_three
unfolding the_law the_law_of_posts
overtaken_first_start = refl

-- where it started again, it reports what the second one posted too
overtaken_reports :
    map (report_made_by overtaken overtaken_history) (2 ∷ 1 ∷ [])
    ≡ reported outcome.Normal text_of_three rows_of_three
    ∷ reported outcome.Normal (codes "key,count,sum\na,3,30\nb,2,40\ntotal,5,70\n")
    (row (codes "a") (codes "30") ∷ row (codes "b") (codes "40") ∷ []) ∷ []
unfolding the_law the_law_of_posts
overtaken_reports = refl

overtaken_table :
    table_at_end overtaken overtaken_history (codes "t.csv")
    ≡ Some (table
    (row (codes "a") (codes "10") ∷ row (codes "b") (codes "20") ∷ row (codes "a") (codes "5")
    ∷ row (codes "a") (codes "15") ∷ row (codes "b") (codes "20")
    ∷ row (codes "a") (codes "30") ∷ row (codes "b") (codes "40") ∷ [])
    refl
    refl)
unfolding the_law the_law_of_posts
overtaken_table = refl

-- ---- rows stand in the order of the ends

-- it posts the sum of the key b alone
abbrev poster_of_b : Program
unfolding texts
poster_of_b = record poster_a {
  name = codes "D";
  job = record (sums_of (codes "t.csv")) {
    filters = record { column = codes "k"; test = test.Is; value = codes "b"; short = refl } ∷ [];
    few = lit≤ tt;
  };
  sums = refl;
}

-- A is submitted before D, which is the more urgent one
abbrev reversed : Plan
unfolding texts
reversed =
    plan_over
    (setup_over
    (codes "t.csv" ∷ codes "u.csv" ∷ [])
    (poster_a ∷ poster_of_b ∷ [])
    (global_entry 0 0 ∷ global_entry 1 1 ∷ global_entry 0 1 ∷ [])
    []
    refl)
    (three_rows ∷ no_rows ∷ [])
    (submit nine (item.Program 0) ∷ urgent nine 1 ∷ [])
    refl

abbrev reversed_history : List Event
reversed_history =
    event.Tick nine ∷ event.Command 1 ∷ event.Command 2
    ∷ event.LetOut (id 2) ∷ start 2 0 ∷ ended 2 outcome.Normal 0 32
    ∷ event.LetOut (id 1) ∷ start 1 0 ∷ end 1 outcome.Normal 32 ∷ []

reversed_runs : RunsTo reversed (once nine) reversed_history
unfolding the_law the_law_of_posts
reversed_runs = refl

reversed_is_apart : posts_fault reversed.setup reversed.tables ≡ None
unfolding the_law the_law_of_posts
reversed_is_apart = refl

-- b,20 of the second request stands before a,15 and b,20 of the first one
abbrev rows_of_both : List Cells
rows_of_both = row (codes "b") (codes "20") ∷ rows_of_three

reversed_table : table_at_end reversed reversed_history (codes "u.csv") ≡ Some (table rows_of_both refl refl)
unfolding the_law the_law_of_posts
reversed_table = refl

-- no entry keeps the two apart, and there are two places
abbrev beside : Plan
unfolding texts
beside =
    plan_over
    (record (setup_over (codes "t.csv" ∷ codes "u.csv" ∷ []) (poster_a ∷ poster_of_b ∷ []) [] [] refl) {
      managers = manager [] [] (shift None 0 None 2 refl ∷ []) refl refl ∷ [];
      few_managers = lit≤ tt;
      few_places = lit≤ tt;
      named = refl;
      references = refl;
    })
    (three_rows ∷ no_rows ∷ [])
    (submit nine (item.Program 0) ∷ submit nine (item.Program 1) ∷ [])
    refl

-- the second request starts later and ends earlier
abbrev beside_history : List Event
beside_history =
    event.Tick nine ∷ event.Command 1 ∷ event.Command 2 ∷ event.LetOut (id 1) ∷ event.LetOut (id 2)
    ∷ start 1 0 ∷ start 2 1 ∷ ended 2 outcome.Normal 0 32 ∷ end 1 outcome.Normal 32 ∷ []

beside_is_lawful : lawful beside (once nine) beside_history ≡ true
unfolding the_law
beside_is_lawful = refl

-- such a setup is refused, but the order is that of the ends in any history
beside_is_not_apart : posts_fault beside.setup beside.tables ≡ Some (1, refused.NotExclusive)
unfolding the_law the_law_of_posts
beside_is_not_apart = refl

beside_table : table_at_end beside beside_history (codes "u.csv") ≡ Some (table rows_of_both refl refl)
unfolding the_law the_law_of_posts
beside_table = refl
