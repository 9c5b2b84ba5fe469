-- Sets: an entry on a set, and members that are let together or one after the other.
use Rattle.std.proofs.Common.{◌≡◌, ℕ, true, false, List, [], ◌∷◌, ◌++◌, map, Option, None, Some, refl}
use Rattle.std.specs.Prelude.{codes}
use Rattle.conc_types.specs.declared.event.Event.{Event}
use Rattle.conc_types.specs.declared.event.Event.TheVariants as event
use Rattle.conc_types.specs.declared.event.Moment.{Moment}
use Rattle.conc_types.specs.declared.event.Outcome.TheVariants as outcome
use Rattle.conc_types.specs.declared.item.Item.TheVariants as item
use Rattle.conc_types.specs.declared.item.Reach.TheVariants as reach
use Rattle.conc_types.specs.declared.item.Scope.{Scope}
use Rattle.conc_types.specs.declared.item.Scope.TheVariants as scope
use Rattle.conc_types.specs.declared.event.RequestId.{RequestId}
use Rattle.conc_types.specs.declared.plan.Plan.{Plan}
use Rattle.conc_types.specs.declared.plan.Req.{Req}
use Rattle.conc_types.specs.declared.script.Order.{Order}
use Rattle.conc_types.specs.declared.setup.Setup.{Setup}
use Rattle.conc_base_law.specs.Text.{item_name, text_of}
use Rattle.conc_base_examples.proofs.Plans.{texts, nine, id, program, entry, plain_manager, one_stage, two_stages, setup, submit, plan, once, start, end}
use Rattle.conc_base_examples.proofs.Computed.{the_law, RunsTo, lawful, finished, lawful_after}

-- ---- an entry on a set, under both scopes

-- a stage of Q leads to one of R, and X is incompatible with the set
abbrev around_setup : Scope → Setup
around_setup scope =
    setup
    (program (codes "Q") ∷ program (codes "R") ∷ program (codes "X") ∷ [])
    (entry (item.Program 2) (item.Set 0) scope reach.Domain ∷ [])
    (plain_manager ∷ [])
    (two_stages (codes "S") 0 1 ∷ [])
    refl

abbrev set_and_other : List Order
set_and_other = submit nine (item.Set 0) ∷ submit nine (item.Program 2) ∷ []

abbrev around : Plan
unfolding texts
around = plan (around_setup scope.Program) set_and_other refl

abbrev around_members : Plan
unfolding texts
around_members = plan (around_setup scope.Set) set_and_other refl

-- the open set is live itself, so that X waits for its end under both scopes
abbrev around_history : List Event
around_history =
    event.Tick nine ∷ event.Command 1 ∷ event.Command 2 ∷ event.OpenSet (id 1)
    ∷ event.Stage (id 1) 1 ∷ event.LetOut (id 2) ∷ start 2 0 ∷ end 2 outcome.Normal 0
    ∷ event.Stage (id 1) 2 ∷ event.LetOut (id 3) ∷ start 3 0 ∷ end 3 outcome.Normal 39
    ∷ event.CloseSet (id 1) outcome.Normal
    ∷ event.LetOut (id 4) ∷ start 4 0 ∷ end 4 outcome.Normal 78 ∷ []

around_runs : RunsTo around (once nine) around_history
unfolding the_law
around_runs = refl

around_is_lawful : lawful around (once nine) around_history ≡ true
unfolding the_law
around_is_lawful = refl

around_is_finished : finished around (once nine) around_history ≡ true
unfolding the_law
around_is_finished = refl

around_text :
    text_of around around_history
    ≡ codes "tick 2025-03-03T09:00:00\ndo 1\ndo 2\nopen 1\nstage 1 1\nlet 2\nstart 2 1.1\nend 2 Normal 0 39\n"
    ++ codes "stage 1 2\nlet 3\nstart 3 1.1\nend 3 Normal 39 39\nclose 1 Normal\n"
    ++ codes "let 4\nstart 4 1.1\nend 4 Normal 78 39\n"
    ++ codes "--\n1 Completed Normal S\n2 Completed Normal Q\n3 Completed Normal R\n4 Completed Normal X\n"
unfolding the_law
around_text = refl

around_members_runs : RunsTo around_members (once nine) around_history
unfolding the_law
around_members_runs = refl

around_members_is_lawful : lawful around_members (once nine) around_history ≡ true
unfolding the_law
around_members_is_lawful = refl

around_members_is_finished : finished around_members (once nine) around_history ≡ true
unfolding the_law
around_members_is_finished = refl

around_members_text : text_of around_members around_history ≡ text_of around around_history
unfolding the_law
around_members_text = refl

-- the next stage does not begin while a member of the stage before it runs
around_stage_early : lawful_after around (once nine) 7 around_history (event.Stage (id 1) 2) ≡ false
unfolding the_law
around_stage_early = refl

-- a member is not let before its stage has begun
around_member_early : lawful_after around (once nine) 8 around_history (event.LetOut (id 3)) ≡ false
unfolding the_law
around_member_early = refl

-- X is not let while the set is open
around_beside : lawful_after around (once nine) 6 around_history (event.LetOut (id 4)) ≡ false
unfolding the_law
around_beside = refl

around_members_beside : lawful_after around_members (once nine) 6 around_history (event.LetOut (id 4)) ≡ false
unfolding the_law
around_members_beside = refl

-- the set does not close before the stage that the link names
around_closed_early : lawful_after around (once nine) 8 around_history (event.CloseSet (id 1) outcome.Normal) ≡ false
unfolding the_law
around_closed_early = refl

-- the number of a request, its priority, start, parent and stage, then its domain, user and name
abbrev Line : Type 0
Line = (ℕ × ℕ × Moment × Option RequestId × ℕ) × (List ℕ × List ℕ × List ℕ)

abbrev line : Plan → Req → Line
line plan r = ((r.number.number, r.priority, r.start, r.parent, r.stage), (r.domain, r.user, item_name plan r.item))

-- the set has the first number, and then its members stage by stage; a member is as its set but for its place and program
around_requests :
    map (line around) around.requests
    ≡ ((1, 50, nine, None, 0), (codes "Standard", codes "ann", codes "S"))
    ∷ ((2, 50, nine, Some (id 1), 1), (codes "Standard", codes "ann", codes "Q"))
    ∷ ((3, 50, nine, Some (id 1), 2), (codes "Standard", codes "ann", codes "R"))
    ∷ ((4, 50, nine, None, 0), (codes "Standard", codes "ann", codes "X")) ∷ []
unfolding the_law
around_requests = refl

-- the members are entered by the command of their set
around_commands : map (λ r. r.command) around.requests ≡ 1 ∷ 1 ∷ 1 ∷ 2 ∷ []
unfolding the_law
around_commands = refl

-- ---- two members of one stage, of which one is incompatible with the set

abbrev within_setup : Scope → Setup
within_setup scope =
    setup
    (program (codes "Q") ∷ program (codes "R") ∷ program (codes "X") ∷ [])
    (entry (item.Program 2) (item.Set 0) scope reach.Domain ∷ [])
    (plain_manager ∷ [])
    (one_stage (codes "S") (0 ∷ 2 ∷ []) refl ∷ [])
    refl

abbrev within : Plan
unfolding texts
within = plan (within_setup scope.Program) (submit nine (item.Set 0) ∷ []) refl

abbrev within_members : Plan
unfolding texts
within_members = plan (within_setup scope.Set) (submit nine (item.Set 0) ∷ []) refl

-- under the scope of a program the entry covers the set alone, which is X's own, and both are let together
abbrev within_history : List Event
within_history =
    event.Tick nine ∷ event.Command 1 ∷ event.OpenSet (id 1) ∷ event.Stage (id 1) 1
    ∷ event.LetOut (id 2) ∷ event.LetOut (id 3) ∷ start 2 0 ∷ end 2 outcome.Normal 0
    ∷ start 3 0 ∷ end 3 outcome.Normal 39 ∷ event.CloseSet (id 1) outcome.Normal ∷ []

within_runs : RunsTo within (once nine) within_history
unfolding the_law
within_runs = refl

within_is_lawful : lawful within (once nine) within_history ≡ true
unfolding the_law
within_is_lawful = refl

within_is_finished : finished within (once nine) within_history ≡ true
unfolding the_law
within_is_finished = refl

within_text :
    text_of within within_history
    ≡ codes "tick 2025-03-03T09:00:00\ndo 1\nopen 1\nstage 1 1\nlet 2\nlet 3\nstart 2 1.1\nend 2 Normal 0 39\n"
    ++ codes "start 3 1.1\nend 3 Normal 39 39\nclose 1 Normal\n"
    ++ codes "--\n1 Completed Normal S\n2 Completed Normal Q\n3 Completed Normal X\n"
unfolding the_law
within_text = refl

-- under the scope of a set it covers the other member too, and X is let after that one has ended
abbrev within_members_history : List Event
within_members_history =
    event.Tick nine ∷ event.Command 1 ∷ event.OpenSet (id 1) ∷ event.Stage (id 1) 1
    ∷ event.LetOut (id 2) ∷ start 2 0 ∷ end 2 outcome.Normal 0
    ∷ event.LetOut (id 3) ∷ start 3 0 ∷ end 3 outcome.Normal 39 ∷ event.CloseSet (id 1) outcome.Normal ∷ []

within_members_runs : RunsTo within_members (once nine) within_members_history
unfolding the_law
within_members_runs = refl

within_members_is_lawful : lawful within_members (once nine) within_members_history ≡ true
unfolding the_law
within_members_is_lawful = refl

within_members_is_finished : finished within_members (once nine) within_members_history ≡ true
unfolding the_law
within_members_is_finished = refl

within_members_text :
    text_of within_members within_members_history
    ≡ codes "tick 2025-03-03T09:00:00\ndo 1\nopen 1\nstage 1 1\nlet 2\nstart 2 1.1\nend 2 Normal 0 39\n"
    ++ codes "let 3\nstart 3 1.1\nend 3 Normal 39 39\nclose 1 Normal\n"
    ++ codes "--\n1 Completed Normal S\n2 Completed Normal Q\n3 Completed Normal X\n"
unfolding the_law
within_members_text = refl

-- each list is lawful under its own scope alone
within_apart : lawful within (once nine) within_members_history ≡ false
unfolding the_law
within_apart = refl

within_members_together : lawful_after within_members (once nine) 5 within_members_history (event.LetOut (id 3)) ≡ false
unfolding the_law
within_members_together = refl

-- the set does not close while a member is not completed
within_closed_early : lawful_after within (once nine) 8 within_history (event.CloseSet (id 1) outcome.Normal) ≡ false
unfolding the_law
within_closed_early = refl
