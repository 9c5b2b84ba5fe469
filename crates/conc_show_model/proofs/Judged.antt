-- Events that are judged, one by one.
use Rattle.std.proofs.Common.{◌≡◌, refl, sym, ◌∙◌, ap, ◌<◌, ◌≤◌, ◌+◌, ℕ, List, [], ◌∷◌, drop, get_or, length}
use Rattle.std.specs.Prelude.{Option, None, Some}
use Rattle.std.proofs.lemmas.List.{at_drop_all, at_drop_more}
use Rattle.conc_types.specs.declared.event.Event.{Event}
use Rattle.conc_show_model.specs.declared.fail.ChartWhy.{ChartWhy}
use Rattle.conc_show_model.specs.declared.judging.Going.{Going}
use Rattle.conc_show_model.specs.declared.model.Row.{Row}
use Rattle.conc_show_model.specs.Judging.{fault_at, fault_from, going_after}
use Rattle.conc_show_model.specs.Whys.{in_history}

next : (rows : List Row) (going more : List Going) (n : ℕ) (e : Event) (later : List Event) → fault_at rows going e ≡ None → more ≡ going_after going e
    → fault_from rows going n (e ∷ later) ≡ fault_from rows more (n + 1) later
unfolding fault_from
next rows going more n e later h m = rw (h, m) refl

here : (rows : List Row) (going : List Going) (n : ℕ) (e : Event) (later : List Event) (w : ChartWhy) → fault_at rows going e ≡ Some w
    → fault_from rows going n (e ∷ later) ≡ Some (in_history w n)
unfolding fault_from
here rows going n e later w h = rw h refl

at_index : (rows : List Row) (going : List Going) (n i : ℕ) (events : List Event) (e : Event) → i < length events → e ≡ get_or events i e
    → fault_from rows going n (drop i events) ≡ fault_from rows going n (e ∷ drop (i + 1) events)
at_index rows going n i events e l is = at_drop_more (fault_from rows going n) events i e l ∙ ap (λ (x : Event). fault_from rows going n (x ∷ drop (i + 1) events)) (sym is)

pub judged_more : (rows : List Row) (events : List Event) (going more : List Going) (i : ℕ) (e : Event) → i < length events → e ≡ get_or events i e
    → fault_from rows [] 1 events ≡ fault_from rows going (i + 1) (drop i events) → fault_at rows going e ≡ None → more ≡ going_after going e
    → fault_from rows [] 1 events ≡ fault_from rows more (i + 1 + 1) (drop (i + 1) events)
judged_more rows events going more i e l is so_far fine m = so_far ∙ (at_index rows going (i + 1) i events e l is ∙ next rows going more (i + 1) e (drop (i + 1) events) fine m)

pub judged_fault : (rows : List Row) (events : List Event) (going : List Going) (i : ℕ) (e : Event) (w : ChartWhy) → i < length events → e ≡ get_or events i e
    → fault_from rows [] 1 events ≡ fault_from rows going (i + 1) (drop i events) → fault_at rows going e ≡ Some w
    → fault_from rows [] 1 events ≡ Some (in_history w (i + 1))
judged_fault rows events going i e w l is so_far bad = so_far ∙ (at_index rows going (i + 1) i events e l is ∙ here rows going (i + 1) e (drop (i + 1) events) w bad)

none_left : (rows : List Row) (going : List Going) (n : ℕ) → fault_from rows going n [] ≡ None
unfolding fault_from
none_left rows going n = refl

pub judged_all : (rows : List Row) (events : List Event) (going : List Going) (i : ℕ) → length events ≤ i
    → fault_from rows [] 1 events ≡ fault_from rows going (i + 1) (drop i events) → fault_from rows [] 1 events ≡ None
judged_all rows events going i l so_far = so_far ∙ (at_drop_all (fault_from rows going (i + 1)) events i l ∙ none_left rows going (i + 1))

pub none_from : {X : Type 0} (o : Option X) → ((x : X) → o ≡ Some x → ⊥) → o ≡ None
none_from None h = refl
none_from (Some x) h = absurd (h x refl)
