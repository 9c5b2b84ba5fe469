-- Sets: the stage that follows, the outcome of a set, and two sets of which each waits for the other.
use Rattle.std.proofs.Common.{◌≡◌, Bool, true, false, List, [], ◌∷◌, ◌++◌, None, Some, refl}
use Rattle.std.specs.Prelude.{codes}
use Rattle.conc_types.specs.declared.event.Event.{Event}
use Rattle.conc_types.specs.declared.event.Event.TheVariants as event
use Rattle.conc_types.specs.declared.event.Outcome.{Outcome}
use Rattle.conc_types.specs.declared.event.Outcome.TheVariants as outcome
use Rattle.conc_types.specs.declared.item.Item.TheVariants as item
use Rattle.conc_types.specs.declared.item.Reach.TheVariants as reach
use Rattle.conc_types.specs.declared.item.Scope.TheVariants as scope
use Rattle.conc_types.specs.declared.plan.Plan.{Plan}
use Rattle.conc_types.specs.declared.setup.Setup.{Setup}
use Rattle.conc_base_law.specs.Text.{text_of}
use Rattle.conc_base_examples.proofs.Plans.{texts, nine, id, program, program_over, entry, plain_manager, stage, last_stage, set, two_stages, setup, submit, plan, once, start, end}
use Rattle.conc_base_examples.proofs.Computed.{the_law, RunsTo, lawful, finished, lawful_after}

-- ---- links by outcome, and critical stages

-- W ends with a warning, and E with an error
abbrev linked_setup : Bool → Setup
linked_setup critical =
    setup
    (program (codes "P") ∷ program_over (Some 2) None (codes "W") ∷ program_over None (Some 0) (codes "E") ∷ [])
    []
    (plain_manager ∷ [])
    (set (codes "S")
    (stage (codes "One") critical (Some 1 ∷ Some 2 ∷ None ∷ []) (0 ∷ 1 ∷ []) refl refl
    ∷ last_stage (codes "Two") (0 ∷ []) refl ∷ last_stage (codes "Three") (2 ∷ []) refl ∷ [])
    refl refl ∷ [])
    refl

abbrev linked : Plan
unfolding texts
linked = plan (linked_setup false) (submit nine (item.Set 0) ∷ []) refl

abbrev critical : Plan
unfolding texts
critical = plan (linked_setup true) (submit nine (item.Set 0) ∷ []) refl

-- a stage with a warning leads to the third stage, whose error ends the set
abbrev linked_history : Outcome → List Event
linked_history outcome_of_set =
    event.Tick nine ∷ event.Command 1 ∷ event.OpenSet (id 1)
    ∷ event.Stage (id 1) 1 ∷ event.LetOut (id 2) ∷ event.LetOut (id 3)
    ∷ start 2 0 ∷ end 2 outcome.Normal 0 ∷ start 3 0 ∷ end 3 outcome.Warning 39
    ∷ event.Stage (id 1) 3 ∷ event.LetOut (id 5) ∷ start 5 0 ∷ end 5 outcome.Error 78
    ∷ event.CloseSet (id 1) outcome_of_set ∷ []

-- with no critical stage the set has the outcome of its last one
linked_runs : RunsTo linked (once nine) (linked_history outcome.Error)
unfolding the_law
linked_runs = refl

linked_is_lawful : lawful linked (once nine) (linked_history outcome.Error) ≡ true
unfolding the_law
linked_is_lawful = refl

linked_is_finished : finished linked (once nine) (linked_history outcome.Error) ≡ true
unfolding the_law
linked_is_finished = refl

-- the member of the stage that never began is cancelled
linked_text :
    text_of linked (linked_history outcome.Error)
    ≡ codes "tick 2025-03-03T09:00:00\ndo 1\nopen 1\nstage 1 1\nlet 2\nlet 3\nstart 2 1.1\nend 2 Normal 0 39\n"
    ++ codes "start 3 1.1\nend 3 Warning 39 39\nstage 1 3\nlet 5\nstart 5 1.1\nend 5 Error 78 39\nclose 1 Error\n"
    ++ codes "--\n1 Completed Error S\n2 Completed Normal P\n3 Completed Warning W\n4 Completed Cancelled P\n5 Completed Error E\n"
unfolding the_law
linked_text = refl

-- with the first stage critical the set has the outcome of that one
critical_runs : RunsTo critical (once nine) (linked_history outcome.Warning)
unfolding the_law
critical_runs = refl

critical_is_lawful : lawful critical (once nine) (linked_history outcome.Warning) ≡ true
unfolding the_law
critical_is_lawful = refl

critical_is_finished : finished critical (once nine) (linked_history outcome.Warning) ≡ true
unfolding the_law
critical_is_finished = refl

critical_text :
    text_of critical (linked_history outcome.Warning)
    ≡ codes "tick 2025-03-03T09:00:00\ndo 1\nopen 1\nstage 1 1\nlet 2\nlet 3\nstart 2 1.1\nend 2 Normal 0 39\n"
    ++ codes "start 3 1.1\nend 3 Warning 39 39\nstage 1 3\nlet 5\nstart 5 1.1\nend 5 Error 78 39\nclose 1 Warning\n"
    ++ codes "--\n1 Completed Warning S\n2 Completed Normal P\n3 Completed Warning W\n4 Completed Cancelled P\n5 Completed Error E\n"
unfolding the_law
critical_text = refl

-- the warning does not lead to the second stage
linked_wrong_stage : lawful_after linked (once nine) 10 (linked_history outcome.Error) (event.Stage (id 1) 2) ≡ false
unfolding the_law
linked_wrong_stage = refl

-- each outcome of the set is lawful in its own plan alone
linked_wrong_outcome : lawful linked (once nine) (linked_history outcome.Warning) ≡ false
unfolding the_law
linked_wrong_outcome = refl

critical_wrong_outcome : lawful critical (once nine) (linked_history outcome.Error) ≡ false
unfolding the_law
critical_wrong_outcome = refl

-- ---- two sets, each with a member that is incompatible with the other set

abbrev waiting : Plan
unfolding texts
waiting =
    plan
    (setup
    (program (codes "P") ∷ program (codes "A") ∷ program (codes "B") ∷ [])
    (entry (item.Program 1) (item.Set 1) scope.Program reach.Domain
    ∷ entry (item.Program 2) (item.Set 0) scope.Program reach.Domain ∷ [])
    (plain_manager ∷ [])
    (two_stages (codes "S") 0 1 ∷ two_stages (codes "U") 0 2 ∷ [])
    refl)
    (submit nine (item.Set 0) ∷ submit nine (item.Set 1) ∷ [])
    refl

-- both sets stay open, and the run is finished
abbrev waiting_history : List Event
waiting_history =
    event.Tick nine ∷ event.Command 1 ∷ event.Command 2
    ∷ event.OpenSet (id 1) ∷ event.Stage (id 1) 1 ∷ event.LetOut (id 2)
    ∷ event.OpenSet (id 4) ∷ event.Stage (id 4) 1 ∷ event.LetOut (id 5)
    ∷ start 2 0 ∷ end 2 outcome.Normal 0 ∷ event.Stage (id 1) 2
    ∷ start 5 0 ∷ end 5 outcome.Normal 39 ∷ event.Stage (id 4) 2 ∷ []

waiting_runs : RunsTo waiting (once nine) waiting_history
unfolding the_law
waiting_runs = refl

waiting_is_lawful : lawful waiting (once nine) waiting_history ≡ true
unfolding the_law
waiting_is_lawful = refl

waiting_is_finished : finished waiting (once nine) waiting_history ≡ true
unfolding the_law
waiting_is_finished = refl

waiting_text :
    text_of waiting waiting_history
    ≡ codes "tick 2025-03-03T09:00:00\ndo 1\ndo 2\nopen 1\nstage 1 1\nlet 2\nopen 4\nstage 4 1\nlet 5\n"
    ++ codes "start 2 1.1\nend 2 Normal 0 39\nstage 1 2\nstart 5 1.1\nend 5 Normal 39 39\nstage 4 2\n"
    ++ codes "--\n1 Running Paused S\n2 Completed Normal P\n3 Pending Standby A\n"
    ++ codes "4 Running Paused U\n5 Completed Normal P\n6 Pending Standby B\n"
unfolding the_law
waiting_text = refl

-- neither member is let while the other set is open
waiting_let_first : lawful_after waiting (once nine) 15 waiting_history (event.LetOut (id 3)) ≡ false
unfolding the_law
waiting_let_first = refl

waiting_let_second : lawful_after waiting (once nine) 15 waiting_history (event.LetOut (id 6)) ≡ false
unfolding the_law
waiting_let_second = refl

-- a set does not close while a member is not completed
waiting_closed : lawful_after waiting (once nine) 15 waiting_history (event.CloseSet (id 1) outcome.Normal) ≡ false
unfolding the_law
waiting_closed = refl

-- the second set opens only after the first one has begun what it can
waiting_out_of_turn : lawful_after waiting (once nine) 4 waiting_history (event.OpenSet (id 4)) ≡ false
unfolding the_law
waiting_out_of_turn = refl
