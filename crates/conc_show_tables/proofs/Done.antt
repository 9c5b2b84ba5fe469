-- The first event with which a command is done, found by an index.
use Rattle.std.proofs.Common.{◌≡◌, refl, sym, ◌∙◌, ap, ◌<◌, ◌≤◌, ◌+◌, ℕ, true, false, List, [], ◌∷◌, drop, get_or, length}
use Rattle.std.specs.Prelude.{None, Some}
use Rattle.std.proofs.lemmas.List.{at_drop_all, at_drop_more}
use Rattle.conc_types.specs.declared.event.Event.{Event}
use Rattle.conc_base_law.specs.Kinds.{is_command}
use Rattle.conc_show_tables.specs.Facts.{first_done}

found : (n i : ℕ) (e : Event) (later : List Event) → is_command n e ≡ true → first_done n i (e ∷ later) ≡ Some i
unfolding first_done
found n i e later h = rw h refl

passed : (n i : ℕ) (e : Event) (later : List Event) → is_command n e ≡ false → first_done n i (e ∷ later) ≡ first_done n (i + 1) later
unfolding first_done
passed n i e later h = rw h refl

none : (n i : ℕ) → first_done n i [] ≡ None
unfolding first_done
none n i = refl

at_index : (n i : ℕ) (events : List Event) (e : Event) → i < length events → e ≡ get_or events i e → first_done n i (drop i events) ≡ first_done n i (e ∷ drop (i + 1) events)
at_index n i events e l is = at_drop_more (first_done n i) events i e l ∙ ap (λ (x : Event). first_done n i (x ∷ drop (i + 1) events)) (sym is)

pub done_found : (n i : ℕ) (events : List Event) (e : Event) → i < length events → e ≡ get_or events i e → first_done n 0 events ≡ first_done n i (drop i events)
    → is_command n e ≡ true → first_done n 0 events ≡ Some i
done_found n i events e l is so_far h = so_far ∙ (at_index n i events e l is ∙ found n i e (drop (i + 1) events) h)

pub done_later : (n i : ℕ) (events : List Event) (e : Event) → i < length events → e ≡ get_or events i e → first_done n 0 events ≡ first_done n i (drop i events)
    → is_command n e ≡ false → first_done n 0 events ≡ first_done n (i + 1) (drop (i + 1) events)
done_later n i events e l is so_far h = so_far ∙ (at_index n i events e l is ∙ passed n i e (drop (i + 1) events) h)

pub done_none : (n i : ℕ) (events : List Event) → length events ≤ i → first_done n 0 events ≡ first_done n i (drop i events) → first_done n 0 events ≡ None
done_none n i events l so_far = so_far ∙ (at_drop_all (first_done n i) events i l ∙ none n i)
