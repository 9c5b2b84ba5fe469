-- What a life makes of the request that ran when the system stopped.
use Rattle.std.proofs.Common.{◌≡◌, Bool, true, false, List, [], ◌∷◌, ◌++◌, map, refl}
use Rattle.std.specs.Prelude.{codes}
use Rattle.conc_types.specs.declared.event.Event.{Event}
use Rattle.conc_types.specs.declared.event.Event.TheVariants as event
use Rattle.conc_types.specs.declared.event.Outcome.TheVariants as outcome
use Rattle.conc_types.specs.declared.item.Item.TheVariants as item
use Rattle.conc_types.specs.declared.plan.Plan.{Plan}
use Rattle.conc_types.specs.declared.setup.Setup.{Setup}
use Rattle.conc_base_law.specs.Text.{text_of}
use Rattle.conc_base_examples.proofs.Plans.{texts, nine, id, program, plain_manager, setup, submit, plan, once, start, end}
use Rattle.conc_base_examples.proofs.Computed.{the_law, GoesOnTo, lawful, finished, lawful_after}

abbrev restarted : Bool → Setup
restarted mark = setup (record (program (codes "P")) { restart = mark } ∷ []) [] (plain_manager ∷ []) [] refl

-- the system stopped while the request ran
abbrev found : List Event
found = event.Tick nine ∷ event.Command 1 ∷ event.LetOut (id 1) ∷ start 1 0 ∷ []

-- ---- a program without the mark for restart

abbrev given_up : Plan
unfolding texts
given_up = plan (restarted false) (submit nine (item.Program 0) ∷ []) refl

abbrev given_up_history : List Event
given_up_history = found ++ event.Resume ∷ event.Interrupt (id 1) ∷ event.Tick nine ∷ []

given_up_goes_on : GoesOnTo given_up (once nine) found given_up_history
unfolding the_law
given_up_goes_on = refl

given_up_is_lawful : lawful given_up (once nine) given_up_history ≡ true
unfolding the_law
given_up_is_lawful = refl

given_up_is_finished : finished given_up (once nine) given_up_history ≡ true
unfolding the_law
given_up_is_finished = refl

given_up_text :
    text_of given_up given_up_history
    ≡ codes "tick 2025-03-03T09:00:00\ndo 1\nlet 1\nstart 1 1.1\nresume\ninterrupt 1\ntick 2025-03-03T09:00:00\n--\n1 Completed Error P\n"
unfolding the_law
given_up_text = refl

-- after the interrupt it is completed, and not let again
given_up_let : lawful_after given_up (once nine) 6 given_up_history (event.LetOut (id 1)) ≡ false
unfolding the_law
given_up_let = refl

-- it is interrupted first, and does not end
given_up_ended : lawful_after given_up (once nine) 5 given_up_history (end 1 outcome.Normal 0) ≡ false
unfolding the_law
given_up_ended = refl

given_up_passed_over : lawful_after given_up (once nine) 5 given_up_history (event.Tick nine) ≡ false
unfolding the_law
given_up_passed_over = refl

-- nothing is interrupted without a stop
given_up_unasked : lawful_after given_up (once nine) 4 given_up_history (event.Interrupt (id 1)) ≡ false
unfolding the_law
given_up_unasked = refl

-- ---- a program with the mark

abbrev again : Plan
unfolding texts
again = plan (restarted true) (submit nine (item.Program 0) ∷ []) refl

abbrev again_history : List Event
again_history =
    found ++ event.Resume ∷ event.Interrupt (id 1) ∷ event.LetOut (id 1) ∷ start 1 0 ∷ end 1 outcome.Normal 0 ∷ event.Tick nine ∷ []

again_goes_on : GoesOnTo again (once nine) found again_history
unfolding the_law
again_goes_on = refl

again_is_lawful : lawful again (once nine) again_history ≡ true
unfolding the_law
again_is_lawful = refl

again_is_finished : finished again (once nine) again_history ≡ true
unfolding the_law
again_is_finished = refl

again_text :
    text_of again again_history
    ≡ codes "tick 2025-03-03T09:00:00\ndo 1\nlet 1\nstart 1 1.1\nresume\ninterrupt 1\n"
    ++ codes "let 1\nstart 1 1.1\nend 1 Normal 0 39\ntick 2025-03-03T09:00:00\n--\n1 Completed Normal P\n"
unfolding the_law
again_text = refl

-- it is interrupted first, and does not end
again_ended : lawful_after again (once nine) 5 again_history (end 1 outcome.Normal 0) ≡ false
unfolding the_law
again_ended = refl

-- after the interrupt it is let before the clock is read
again_passed_over : lawful_after again (once nine) 6 again_history (event.Tick nine) ≡ false
unfolding the_law
again_passed_over = refl

-- it is not let any more, and starts after it is let again
again_started : lawful_after again (once nine) 6 again_history (start 1 0) ≡ false
unfolding the_law
again_started = refl

-- a resume stands after any event, and never first
resumed_anywhere : map (λ n. lawful_after again (once nine) n again_history event.Resume) (0 ∷ 1 ∷ 4 ∷ 5 ∷ 10 ∷ []) ≡ false ∷ true ∷ true ∷ true ∷ true ∷ []
unfolding the_law
resumed_anywhere = refl
