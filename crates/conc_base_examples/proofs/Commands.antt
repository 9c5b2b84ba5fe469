-- Commands on one request: hold, unhold and terminate.
use Rattle.std.proofs.Common.{◌≡◌, true, false, List, [], ◌∷◌, ◌++◌, map, take, None, refl, reverse}
use Rattle.std.specs.Prelude.{codes}
use Rattle.conc_types.specs.declared.event.Event.{Event}
use Rattle.conc_types.specs.declared.event.Event.TheVariants as event
use Rattle.conc_types.specs.declared.event.Outcome.TheVariants as outcome
use Rattle.conc_types.specs.declared.item.Item.TheVariants as item
use Rattle.conc_types.specs.declared.plan.Plan.{Plan}
use Rattle.conc_types.specs.declared.script.Act.TheVariants as act
use Rattle.conc_types.specs.declared.script.Reading.{Reading}
use Rattle.conc_base_law.specs.Text.{table_text, text_of}
use Rattle.conc_base_examples.proofs.Plans.{texts, nine, monday, id, program, day_shift, manager, plain_manager, setup, submit, command, plan, reading, start, end}
use Rattle.conc_base_examples.proofs.Computed.{the_law, RunsTo, lawful, finished, lawful_after}

-- ---- held, and let again

abbrev held : Plan
unfolding texts
held =
    plan
    (setup (program (codes "P") ∷ []) [] (manager [] [] (day_shift ∷ []) refl refl ∷ []) [] refl)
    (submit (monday 8 0 0) (item.Program 0)
    ∷ command (monday 8 10 0) (act.Hold (id 1)) ∷ command (monday 8 40 0) (act.Unhold (id 1)) ∷ [])
    refl

abbrev held_readings : List Reading
held_readings = reading (monday 8 0 0) ∷ reading (monday 8 30 0) ∷ reading nine ∷ []

-- a hold takes effect on a request that is let and does not run, and after the unhold it is let again
abbrev held_history : List Event
held_history =
    event.Tick (monday 8 0 0) ∷ event.Command 1 ∷ event.LetOut (id 1)
    ∷ event.Tick (monday 8 30 0) ∷ event.Command 2
    ∷ event.Tick nine ∷ event.Command 3 ∷ event.LetOut (id 1) ∷ start 1 0 ∷ end 1 outcome.Normal 0 ∷ []

held_runs : RunsTo held held_readings held_history
unfolding the_law
held_runs = refl

held_is_lawful : lawful held held_readings held_history ≡ true
unfolding the_law
held_is_lawful = refl

held_is_finished : finished held held_readings held_history ≡ true
unfolding the_law
held_is_finished = refl

held_text :
    text_of held held_history
    ≡ codes "tick 2025-03-03T08:00:00\ndo 1\nlet 1\ntick 2025-03-03T08:30:00\ndo 2\n"
    ++ codes "tick 2025-03-03T09:00:00\ndo 3\nlet 1\nstart 1 1.1\nend 1 Normal 0 39\n--\n1 Completed Normal P\n"
unfolding the_law
held_text = refl

-- the tables on the way: before the shift it waits for a place, and then it is held
held_tables :
    map (λ n. table_text held (reverse (take n held_history))) (3 ∷ 5 ∷ [])
    ≡ codes "1 Pending Normal P\n" ∷ codes "1 Inactive On Hold P\n" ∷ []
unfolding the_law
held_tables = refl

-- it is not let while it is held
held_let : lawful_after held held_readings 5 held_history (event.LetOut (id 1)) ≡ false
unfolding the_law
held_let = refl

-- nor does it start, as it is no longer let
held_started : lawful_after held held_readings 7 held_history (start 1 0) ≡ false
unfolding the_law
held_started = refl

-- a command is done as soon as its moment has come
held_late : lawful_after held held_readings 4 held_history (event.Tick nine) ≡ false
unfolding the_law
held_late = refl

-- ---- terminated while it runs

abbrev stopped : Plan
unfolding texts
stopped =
    plan
    (setup (program (codes "P") ∷ []) [] (plain_manager ∷ []) [] refl)
    (submit nine (item.Program 0) ∷ command (monday 9 5 0) (act.Terminate (id 1)) ∷ [])
    refl

-- the second reading is early: it may be taken while the request runs
abbrev stopped_readings : List Reading
stopped_readings = reading nine ∷ record { moment = monday 9 5 0; early = true } ∷ []

abbrev stopped_before : List Event
stopped_before =
    event.Tick nine ∷ event.Command 1 ∷ event.LetOut (id 1) ∷ start 1 0 ∷ event.Tick (monday 9 5 0) ∷ event.Command 2 ∷ []

abbrev stopped_history : List Event
stopped_history = stopped_before ++ event.Ended (id 1) outcome.Terminated None ∷ []

stopped_is_lawful : lawful stopped stopped_readings stopped_history ≡ true
unfolding the_law
stopped_is_lawful = refl

stopped_is_finished : finished stopped stopped_readings stopped_history ≡ true
unfolding the_law
stopped_is_finished = refl

stopped_text :
    text_of stopped stopped_history
    ≡ codes "tick 2025-03-03T09:00:00\ndo 1\nlet 1\nstart 1 1.1\ntick 2025-03-03T09:05:00\ndo 2\nend 1 Terminated\n"
    ++ codes "--\n1 Completed Terminated P\n"
unfolding the_law
stopped_text = refl

-- before its end it is being terminated
stopped_table : table_text stopped (reverse stopped_before) ≡ codes "1 Running Terminating P\n"
unfolding the_law
stopped_table = refl

-- after the command it does not end with a report
stopped_before_is_lawful : lawful stopped stopped_readings stopped_before ≡ true
unfolding the_law
stopped_before_is_lawful = refl

stopped_normal : lawful stopped stopped_readings (stopped_before ++ end 1 outcome.Normal 0 ∷ []) ≡ false
unfolding the_law
stopped_normal = refl

-- nor is it terminated without the command
stopped_unasked : lawful_after stopped stopped_readings 4 stopped_history (event.Ended (id 1) outcome.Terminated None) ≡ false
unfolding the_law
stopped_unasked = refl

-- without workers it has ended before the command
stopped_runs :
    RunsTo stopped stopped_readings
    (event.Tick nine ∷ event.Command 1 ∷ event.LetOut (id 1) ∷ start 1 0 ∷ end 1 outcome.Normal 0
    ∷ event.Tick (monday 9 5 0) ∷ event.Command 2 ∷ [])
unfolding the_law
stopped_runs = refl

-- a reading that is not early is not taken while it runs
stopped_not_early : lawful_after stopped (reading nine ∷ reading (monday 9 5 0) ∷ []) 4 stopped_history (event.Tick (monday 9 5 0)) ≡ false
unfolding the_law
stopped_not_early = refl
