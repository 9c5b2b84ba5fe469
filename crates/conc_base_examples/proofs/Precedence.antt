-- Which request is let first.
use Rattle.std.proofs.Common.{◌≡◌, ℕ, true, false, List, [], ◌∷◌, ◌++◌, map, refl}
use Rattle.std.specs.Prelude.{codes}
use Rattle.conc_types.specs.declared.event.Event.{Event}
use Rattle.conc_types.specs.declared.event.Event.TheVariants as event
use Rattle.conc_types.specs.declared.event.Moment.{Moment}
use Rattle.conc_types.specs.declared.event.Outcome.TheVariants as outcome
use Rattle.conc_types.specs.declared.item.Item.TheVariants as item
use Rattle.conc_types.specs.declared.item.Reach.TheVariants as reach
use Rattle.conc_types.specs.declared.item.Scope.TheVariants as scope
use Rattle.conc_types.specs.declared.plan.Plan.{Plan}
use Rattle.conc_types.specs.declared.script.Act.TheVariants as act
use Rattle.conc_types.specs.declared.script.Order.{Order}
use Rattle.conc_types.specs.declared.setup.Setup.{Setup}
use Rattle.conc_base_law.specs.Text.{text_of}
use Rattle.conc_base_examples.proofs.Plans.{texts, nine, monday, id, program, entry, plain_manager, setup, plan, once, start, end}
use Rattle.conc_base_examples.proofs.Computed.{the_law, RunsTo, lawful, finished, lawful_after}

abbrev submit_urgent : ℕ → Order
submit_urgent priority = record { at = nine; act = act.Submit (item.Program 0) (codes "ann") priority nine (codes "Standard") [] }

-- ---- the lower priority number goes first

abbrev itself : Setup
itself = setup (program (codes "P") ∷ []) (entry (item.Program 0) (item.Program 0) scope.Program reach.Domain ∷ []) (plain_manager ∷ []) [] refl

abbrev urgent : Plan
unfolding texts
urgent = plan itself (submit_urgent 99 ∷ submit_urgent 1 ∷ []) refl

abbrev urgent_history : List Event
urgent_history =
    event.Tick nine ∷ event.Command 1 ∷ event.Command 2
    ∷ event.LetOut (id 2) ∷ start 2 0 ∷ end 2 outcome.Normal 0
    ∷ event.LetOut (id 1) ∷ start 1 0 ∷ end 1 outcome.Normal 39 ∷ []

urgent_runs : RunsTo urgent (once nine) urgent_history
unfolding the_law
urgent_runs = refl

urgent_is_lawful : lawful urgent (once nine) urgent_history ≡ true
unfolding the_law
urgent_is_lawful = refl

urgent_is_finished : finished urgent (once nine) urgent_history ≡ true
unfolding the_law
urgent_is_finished = refl

urgent_text :
    text_of urgent urgent_history
    ≡ codes "tick 2025-03-03T09:00:00\ndo 1\ndo 2\nlet 2\nstart 2 1.1\nend 2 Normal 0 39\n"
    ++ codes "let 1\nstart 1 1.1\nend 1 Normal 39 39\n--\n1 Completed Normal P\n2 Completed Normal P\n"
unfolding the_law
urgent_text = refl

-- the less urgent one is not let first
urgent_out_of_turn : lawful_after urgent (once nine) 3 urgent_history (event.LetOut (id 1)) ≡ false
unfolding the_law
urgent_out_of_turn = refl

-- ---- with equal priority the earlier start, and with equal starts the lower number

abbrev submit_late : Moment → Order
submit_late start = record { at = nine; act = act.Submit (item.Program 0) (codes "ann") 50 start (codes "Standard") [] }

abbrev ordered : Plan
unfolding texts
ordered = plan itself (submit_late (monday 9 5 0) ∷ submit_late (monday 9 4 0) ∷ submit_late (monday 9 4 0) ∷ []) refl

abbrev ordered_history : List Event
ordered_history =
    event.Tick (monday 9 10 0) ∷ event.Command 1 ∷ event.Command 2 ∷ event.Command 3
    ∷ event.LetOut (id 2) ∷ start 2 0 ∷ end 2 outcome.Normal 0
    ∷ event.LetOut (id 3) ∷ start 3 0 ∷ end 3 outcome.Normal 39
    ∷ event.LetOut (id 1) ∷ start 1 0 ∷ end 1 outcome.Normal 78 ∷ []

ordered_runs : RunsTo ordered (once (monday 9 10 0)) ordered_history
unfolding the_law
ordered_runs = refl

ordered_is_lawful : lawful ordered (once (monday 9 10 0)) ordered_history ≡ true
unfolding the_law
ordered_is_lawful = refl

ordered_is_finished : finished ordered (once (monday 9 10 0)) ordered_history ≡ true
unfolding the_law
ordered_is_finished = refl

ordered_out_of_turn :
    map (λ r. lawful_after ordered (once (monday 9 10 0)) 4 ordered_history (event.LetOut (id r))) (1 ∷ 2 ∷ 3 ∷ [])
    ≡ false ∷ true ∷ false ∷ []
unfolding the_law
ordered_out_of_turn = refl

-- nothing is let before its start
ordered_early : lawful ordered (once nine) (event.Tick nine ∷ event.Command 1 ∷ event.Command 2 ∷ event.Command 3 ∷ event.LetOut (id 2) ∷ []) ≡ false
unfolding the_law
ordered_early = refl
