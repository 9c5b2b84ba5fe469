-- Requests that never run at the same time.
use Rattle.std.proofs.Common.{◌≡◌, ℕ, true, false, List, [], ◌∷◌, ◌++◌, refl}
use Rattle.std.specs.Prelude.{codes}
use Rattle.conc_types.specs.declared.event.Event.{Event}
use Rattle.conc_types.specs.declared.event.Event.TheVariants as event
use Rattle.conc_types.specs.declared.event.Outcome.TheVariants as outcome
use Rattle.conc_types.specs.declared.item.Item.{Item}
use Rattle.conc_types.specs.declared.item.Item.TheVariants as item
use Rattle.conc_types.specs.declared.item.Reach.{Reach}
use Rattle.conc_types.specs.declared.item.Reach.TheVariants as reach
use Rattle.conc_types.specs.declared.item.Scope.TheVariants as scope
use Rattle.conc_types.specs.declared.plan.Plan.{Plan}
use Rattle.conc_types.specs.declared.program.Program.{Program}
use Rattle.conc_types.specs.declared.script.Act.TheVariants as act
use Rattle.conc_types.specs.declared.script.Order.{Order}
use Rattle.conc_types.specs.declared.setup.Setup.{Setup}
use Rattle.conc_base_law.specs.Text.{text_of}
use Rattle.conc_base_examples.proofs.Plans.{texts, nine, id, program, entry, plain_manager, one_stage, setup, submit, plan, once, start, end}
use Rattle.conc_base_examples.proofs.Computed.{the_law, RunsTo, lawful, finished, lawful_after}

-- ---- a program that is incompatible with itself, submitted twice

abbrev twice : Plan
unfolding texts
twice =
    plan
    (setup
    (program (codes "P") ∷ [])
    (entry (item.Program 0) (item.Program 0) scope.Program reach.Domain ∷ [])
    (plain_manager ∷ [])
    []
    refl)
    (submit nine (item.Program 0) ∷ submit nine (item.Program 0) ∷ [])
    refl

abbrev twice_history : List Event
twice_history =
    event.Tick nine ∷ event.Command 1 ∷ event.Command 2
    ∷ event.LetOut (id 1) ∷ start 1 0 ∷ end 1 outcome.Normal 0
    ∷ event.LetOut (id 2) ∷ start 2 0 ∷ end 2 outcome.Normal 39 ∷ []

twice_runs : RunsTo twice (once nine) twice_history
unfolding the_law
twice_runs = refl

twice_is_lawful : lawful twice (once nine) twice_history ≡ true
unfolding the_law
twice_is_lawful = refl

twice_is_finished : finished twice (once nine) twice_history ≡ true
unfolding the_law
twice_is_finished = refl

twice_text :
    text_of twice twice_history
    ≡ codes "tick 2025-03-03T09:00:00\ndo 1\ndo 2\nlet 1\nstart 1 1.1\nend 1 Normal 0 39\n"
    ++ codes "let 2\nstart 2 1.1\nend 2 Normal 39 39\n--\n1 Completed Normal P\n2 Completed Normal P\n"
unfolding the_law
twice_text = refl

-- the second one is not let before the first one has ended
twice_let_early : lawful_after twice (once nine) 5 twice_history (event.LetOut (id 2)) ≡ false
unfolding the_law
twice_let_early = refl

-- the second report begins where the first one ends
twice_over_the_first : lawful_after twice (once nine) 8 twice_history (end 2 outcome.Normal 0) ≡ false
unfolding the_law
twice_over_the_first = refl

-- ---- no command

abbrev nothing : Plan
unfolding texts
nothing = plan (setup (program (codes "P") ∷ []) [] (plain_manager ∷ []) [] refl) [] refl

nothing_runs : RunsTo nothing (once nine) (event.Tick nine ∷ [])
unfolding the_law
nothing_runs = refl

nothing_is_finished : finished nothing (once nine) (event.Tick nine ∷ []) ≡ true
unfolding the_law
nothing_is_finished = refl

nothing_text : text_of nothing (event.Tick nine ∷ []) ≡ codes "tick 2025-03-03T09:00:00\n--\n"
unfolding the_law
nothing_text = refl

-- ---- two programs, incompatible within a domain or everywhere, submitted in two domains

abbrev submit_in : List ℕ → Item → Order
submit_in domain what = record { at = nine; act = act.Submit what (codes "ann") 50 nine domain [] }

abbrev apart : Reach → Setup
apart reach =
    setup
    (program (codes "Q") ∷ program (codes "R") ∷ [])
    (entry (item.Program 0) (item.Program 1) scope.Program reach ∷ [])
    (plain_manager ∷ [])
    []
    refl

abbrev apart_commands : List Order
apart_commands = submit_in (codes "NORTH") (item.Program 0) ∷ submit_in (codes "SOUTH") (item.Program 1) ∷ []

abbrev near : Plan
unfolding texts
near = plan (apart reach.Domain) apart_commands refl

abbrev far : Plan
unfolding texts
far = plan (apart reach.Global) apart_commands refl

-- within a domain both are let at once, and the one place runs them in turn
abbrev near_history : List Event
near_history =
    event.Tick nine ∷ event.Command 1 ∷ event.Command 2 ∷ event.LetOut (id 1) ∷ event.LetOut (id 2)
    ∷ start 1 0 ∷ end 1 outcome.Normal 0 ∷ start 2 0 ∷ end 2 outcome.Normal 39 ∷ []

near_runs : RunsTo near (once nine) near_history
unfolding the_law
near_runs = refl

near_is_lawful : lawful near (once nine) near_history ≡ true
unfolding the_law
near_is_lawful = refl

near_is_finished : finished near (once nine) near_history ≡ true
unfolding the_law
near_is_finished = refl

near_text :
    text_of near near_history
    ≡ codes "tick 2025-03-03T09:00:00\ndo 1\ndo 2\nlet 1\nlet 2\nstart 1 1.1\nend 1 Normal 0 39\n"
    ++ codes "start 2 1.1\nend 2 Normal 39 39\n--\n1 Completed Normal Q\n2 Completed Normal R\n"
unfolding the_law
near_text = refl

-- there is one place, at which the first one runs
near_at_a_taken_place : lawful_after near (once nine) 6 near_history (start 2 0) ≡ false
unfolding the_law
near_at_a_taken_place = refl

-- the first one is let first
near_out_of_turn : lawful_after near (once nine) 3 near_history (event.LetOut (id 2)) ≡ false
unfolding the_law
near_out_of_turn = refl

-- everywhere the second one is let after the first one
abbrev far_history : List Event
far_history =
    event.Tick nine ∷ event.Command 1 ∷ event.Command 2
    ∷ event.LetOut (id 1) ∷ start 1 0 ∷ end 1 outcome.Normal 0
    ∷ event.LetOut (id 2) ∷ start 2 0 ∷ end 2 outcome.Normal 39 ∷ []

far_runs : RunsTo far (once nine) far_history
unfolding the_law
far_runs = refl

far_is_lawful : lawful far (once nine) far_history ≡ true
unfolding the_law
far_is_lawful = refl

far_is_finished : finished far (once nine) far_history ≡ true
unfolding the_law
far_is_finished = refl

far_text :
    text_of far far_history
    ≡ codes "tick 2025-03-03T09:00:00\ndo 1\ndo 2\nlet 1\nstart 1 1.1\nend 1 Normal 0 39\n"
    ++ codes "let 2\nstart 2 1.1\nend 2 Normal 39 39\n--\n1 Completed Normal Q\n2 Completed Normal R\n"
unfolding the_law
far_text = refl

-- both are not let at once
far_let_together : lawful_after far (once nine) 4 far_history (event.LetOut (id 2)) ≡ false
unfolding the_law
far_let_together = refl

-- nor is the list lawful that the other entry gives
far_as_near : lawful far (once nine) near_history ≡ false
unfolding the_law
far_as_near = refl

-- ---- a set whose member runs alone, and another program that runs alone

abbrev lone_program : List ℕ → Program
lone_program name = record (program name) { run_alone = true }

abbrev lone : Plan
unfolding texts
lone =
    plan
    (setup
    (lone_program (codes "A") ∷ lone_program (codes "Z") ∷ [])
    []
    (plain_manager ∷ [])
    (one_stage (codes "S") (0 ∷ []) refl ∷ [])
    refl)
    (submit nine (item.Set 0) ∷ submit nine (item.Program 1) ∷ [])
    refl

-- the set and its member are live together; the other one waits for the member, and not for the set
abbrev lone_history : List Event
lone_history =
    event.Tick nine ∷ event.Command 1 ∷ event.Command 2 ∷ event.OpenSet (id 1) ∷ event.Stage (id 1) 1
    ∷ event.LetOut (id 2) ∷ start 2 0 ∷ end 2 outcome.Normal 0 ∷ event.CloseSet (id 1) outcome.Normal
    ∷ event.LetOut (id 3) ∷ start 3 0 ∷ end 3 outcome.Normal 39 ∷ []

lone_runs : RunsTo lone (once nine) lone_history
unfolding the_law
lone_runs = refl

lone_is_lawful : lawful lone (once nine) lone_history ≡ true
unfolding the_law
lone_is_lawful = refl

lone_is_finished : finished lone (once nine) lone_history ≡ true
unfolding the_law
lone_is_finished = refl

lone_text :
    text_of lone lone_history
    ≡ codes "tick 2025-03-03T09:00:00\ndo 1\ndo 2\nopen 1\nstage 1 1\nlet 2\nstart 2 1.1\nend 2 Normal 0 39\n"
    ++ codes "close 1 Normal\nlet 3\nstart 3 1.1\nend 3 Normal 39 39\n"
    ++ codes "--\n1 Completed Normal S\n2 Completed Normal A\n3 Completed Normal Z\n"
unfolding the_law
lone_text = refl

-- the other one is not let beside the member
lone_let_beside : lawful_after lone (once nine) 6 lone_history (event.LetOut (id 3)) ≡ false
unfolding the_law
lone_let_beside = refl
