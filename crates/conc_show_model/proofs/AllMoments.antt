-- The moments of events, one by one.
use Rattle.std.proofs.Common.{◌≡◌, refl, sym, ◌∙◌, ap, ◌<◌, ◌≤◌, ◌+◌, ℕ, List, [], ◌∷◌, ◌++◌, append_assoc, drop, get_or, length}
use Rattle.std.specs.Prelude.{Option, None}
use Rattle.std.proofs.lemmas.List.{append-nil, at_drop_all, at_drop_more}
use Rattle.conc_types.specs.declared.event.Event.{Event}
use Rattle.conc_types.specs.declared.event.Moment.{Moment}
use Rattle.conc_show_model.specs.Turns.{moment_after, moments_from}

one_more : (now : Option Moment) (e : Event) (later : List Event) → moments_from now (e ∷ later) ≡ moment_after now e ∷ moments_from (moment_after now e) later
unfolding moments_from
one_more now e later = refl

none_more : (now : Option Moment) → moments_from now [] ≡ []
unfolding moments_from
none_more now = refl

pub moments_more : (events : List Event) (moments more : List (Option Moment)) (i : ℕ) (before now : Option Moment) (e : Event) → i < length events → e ≡ get_or events i e
    → moments_from None events ≡ moments ++ moments_from before (drop i events) → now ≡ moment_after before e → more ≡ moments ++ now ∷ []
    → moments_from None events ≡ more ++ moments_from now (drop (i + 1) events)
moments_more events moments more i before now e l is so_far n m =
    let rest = drop (i + 1) events in
    let here : moments_from before (drop i events) ≡ now ∷ moments_from now rest =
    at_drop_more (moments_from before) events i e l ∙ (ap (λ (x : Event). moments_from before (x ∷ rest)) (sym is) ∙ (one_more before e rest ∙ ap (λ (t : Option Moment). t ∷ moments_from t rest) (sym n))) in
    so_far ∙ (ap (λ (xs : List (Option Moment)). moments ++ xs) here ∙ (sym (append_assoc moments (now ∷ []) (moments_from now rest)) ∙ ap (λ (xs : List (Option Moment)). xs ++ moments_from now rest) (sym m)))

pub moments_all : (events : List Event) (moments : List (Option Moment)) (i : ℕ) (now : Option Moment) → length events ≤ i → moments_from None events ≡ moments ++ moments_from now (drop i events)
    → moments ≡ moments_from None events
moments_all events moments i now l so_far =
    sym (so_far ∙ (ap (λ (xs : List (Option Moment)). moments ++ xs) (at_drop_all (moments_from now) events i l ∙ none_more now) ∙ append-nil moments))
