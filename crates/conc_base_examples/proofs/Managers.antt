-- Shifts and rules.
use Rattle.std.proofs.Common.{◌≡◌, ℕ, true, false, List, [], ◌∷◌, ◌++◌, map, Option, None, Some, refl}
use Rattle.std.specs.Prelude.{codes}
use Rattle.conc_types.specs.declared.event.Event.{Event}
use Rattle.conc_types.specs.declared.event.Event.TheVariants as event
use Rattle.conc_types.specs.declared.event.Outcome.TheVariants as outcome
use Rattle.conc_types.specs.declared.item.Item.TheVariants as item
use Rattle.conc_types.specs.declared.manager.Rule.{Rule}
use Rattle.conc_types.specs.declared.plan.Plan.{Plan}
use Rattle.conc_types.specs.declared.script.Act.TheVariants as act
use Rattle.conc_types.specs.declared.script.Order.{Order}
use Rattle.conc_types.specs.declared.script.Reading.{Reading}
use Rattle.conc_base_law.specs.Text.{text_of}
use Rattle.conc_base_examples.proofs.Plans.{texts, nine, monday, id, program, shift, day_shift, manager, setup, submit, plan, reading, once, start, end}
use Rattle.conc_base_examples.proofs.Computed.{the_law, RunsTo, lawful, finished, lawful_after}

-- ---- a shift that ends

abbrev evening : Plan
unfolding texts
evening =
    plan
    (setup (program (codes "P") ∷ []) [] (manager [] [] (day_shift ∷ []) refl refl ∷ []) [] refl)
    (submit (monday 16 59 59) (item.Program 0) ∷ submit (monday 17 0 0) (item.Program 0) ∷ [])
    refl

abbrev evening_readings : List Reading
evening_readings = reading (monday 16 59 59) ∷ reading (monday 17 0 0) ∷ []

-- the second request is let, but there is no place for it any more
abbrev evening_history : List Event
evening_history =
    event.Tick (monday 16 59 59) ∷ event.Command 1 ∷ event.LetOut (id 1) ∷ start 1 0 ∷ end 1 outcome.Normal 0
    ∷ event.Tick (monday 17 0 0) ∷ event.Command 2 ∷ event.LetOut (id 2) ∷ []

evening_runs : RunsTo evening evening_readings evening_history
unfolding the_law
evening_runs = refl

evening_is_lawful : lawful evening evening_readings evening_history ≡ true
unfolding the_law
evening_is_lawful = refl

evening_is_finished : finished evening evening_readings evening_history ≡ true
unfolding the_law
evening_is_finished = refl

evening_text :
    text_of evening evening_history
    ≡ codes "tick 2025-03-03T16:59:59\ndo 1\nlet 1\nstart 1 1.1\nend 1 Normal 0 39\n"
    ++ codes "tick 2025-03-03T17:00:00\ndo 2\nlet 2\n--\n1 Completed Normal P\n2 Pending Normal P\n"
unfolding the_law
evening_text = refl

-- nothing starts after the shift
evening_started_late : lawful_after evening evening_readings 8 evening_history (start 2 0) ≡ false
unfolding the_law
evening_started_late = refl

-- the second reading is not taken before the first request has ended
evening_ticked_early : lawful_after evening evening_readings 4 evening_history (event.Tick (monday 17 0 0)) ≡ false
unfolding the_law
evening_ticked_early = refl

-- a reading is not passed over
evening_passed_over : lawful evening evening_readings (event.Tick (monday 17 0 0) ∷ []) ≡ false
unfolding the_law
evening_passed_over = refl

-- ---- a date is stronger than a day of the week

-- no place on 2025-03-03, and three on Mondays
abbrev closed : Plan
unfolding texts
closed =
    plan
    (setup
    (program (codes "P") ∷ [])
    []
    (manager [] [] (shift (Some 739312) 0 None 0 refl ∷ shift None 1 None 3 refl ∷ []) refl refl ∷ [])
    []
    refl)
    (submit nine (item.Program 0) ∷ [])
    refl

abbrev closed_history : List Event
closed_history = event.Tick nine ∷ event.Command 1 ∷ event.LetOut (id 1) ∷ []

closed_runs : RunsTo closed (once nine) closed_history
unfolding the_law
closed_runs = refl

closed_is_lawful : lawful closed (once nine) closed_history ≡ true
unfolding the_law
closed_is_lawful = refl

closed_is_finished : finished closed (once nine) closed_history ≡ true
unfolding the_law
closed_is_finished = refl

closed_text : text_of closed closed_history ≡ codes "tick 2025-03-03T09:00:00\ndo 1\nlet 1\n--\n1 Pending Normal P\n"
unfolding the_law
closed_text = refl

-- it starts at none of the three
closed_started :
    map (λ place. lawful_after closed (once nine) 3 closed_history (start 1 place)) (0 ∷ 1 ∷ 2 ∷ [])
    ≡ false ∷ false ∷ false ∷ []
unfolding the_law
closed_started = refl

-- ---- a rule against one user

abbrev submit_by : List ℕ → Order
submit_by user = record { at = nine; act = act.Submit (item.Program 0) user 50 nine (codes "Standard") [] }

abbrev rule : Option (List ℕ) → Rule
rule user = record { program = Some 0; request_type = None; user = user; names = refl }

-- requests of P, but none of P by bob
abbrev ruled : Plan
unfolding texts
ruled =
    plan
    (setup (program (codes "P") ∷ []) [] (manager (rule None ∷ []) (rule (Some (codes "bob")) ∷ []) [] refl refl ∷ []) [] refl)
    (submit_by (codes "ann") ∷ submit_by (codes "bob") ∷ [])
    refl

abbrev ruled_history : List Event
ruled_history =
    event.Tick nine ∷ event.Command 1 ∷ event.Command 2 ∷ event.LetOut (id 1) ∷ start 1 0 ∷ end 1 outcome.Normal 0 ∷ []

ruled_runs : RunsTo ruled (once nine) ruled_history
unfolding the_law
ruled_runs = refl

ruled_is_lawful : lawful ruled (once nine) ruled_history ≡ true
unfolding the_law
ruled_is_lawful = refl

ruled_is_finished : finished ruled (once nine) ruled_history ≡ true
unfolding the_law
ruled_is_finished = refl

ruled_text :
    text_of ruled ruled_history
    ≡ codes "tick 2025-03-03T09:00:00\ndo 1\ndo 2\nlet 1\nstart 1 1.1\nend 1 Normal 0 39\n"
    ++ codes "--\n1 Completed Normal P\n2 Inactive No Manager P\n"
unfolding the_law
ruled_text = refl

-- a request that no manager admits is not let
ruled_let : lawful_after ruled (once nine) 4 ruled_history (event.LetOut (id 2)) ≡ false
unfolding the_law
ruled_let = refl

-- ---- a shift of four places

abbrev wide : Plan
unfolding texts
wide =
    plan
    (setup (program (codes "P") ∷ []) [] (manager [] [] (shift None 0 None 4 refl ∷ []) refl refl ∷ []) [] refl)
    (submit nine (item.Program 0) ∷ [])
    refl

-- a let request may start at each of the places, and the run without workers takes the first
wide_starts :
    map (λ place. lawful_after wide (once nine) 3 (event.Tick nine ∷ event.Command 1 ∷ event.LetOut (id 1) ∷ []) (start 1 place)) (0 ∷ 1 ∷ 2 ∷ 3 ∷ 4 ∷ [])
    ≡ true ∷ true ∷ true ∷ true ∷ false ∷ []
unfolding the_law
wide_starts = refl

wide_runs : RunsTo wide (once nine) (event.Tick nine ∷ event.Command 1 ∷ event.LetOut (id 1) ∷ start 1 0 ∷ end 1 outcome.Normal 0 ∷ [])
unfolding the_law
wide_runs = refl
