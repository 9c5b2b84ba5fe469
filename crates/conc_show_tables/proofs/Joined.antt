-- Texts joined, one more at a time.
use Rattle.std.proofs.Common.{◌≡◌, refl, sym, ◌∙◌, ap, ◌<◌, ◌≤◌, ◌+◌, ℕ, List, [], ◌∷◌, ◌++◌, append_assoc, drop, get_or, length, take}
use Rattle.std.specs.Prelude.{flat_map}
use Rattle.std.proofs.lemmas.List.{append-nil, at_drop_all, at_drop_more, flat_map_more, take_more}
use Rattle.conc_types.specs.declared.event.Event.{Event}
use Rattle.conc_show_tables.specs.Json.{json_event, json_events}

-- two pieces behind a start
pub joined : (s a b x y : List ℕ) → x ≡ s ++ a → y ≡ x ++ b → y ≡ s ++ (a ++ b)
joined s a b x y first next = next ∙ (ap (λ (l : List ℕ). l ++ b) first ∙ append_assoc s a b)

-- a loop over xs that appends the text of each
pub lines_more : {X : Type 0} (f : X → List ℕ) (start before after : List ℕ) (xs : List X) (i : ℕ) (x : X) → i < length xs → x ≡ get_or xs i x
    → before ≡ start ++ flat_map f (take i xs) → after ≡ before ++ f x → after ≡ start ++ flat_map f (take (i + 1) xs)
lines_more {X} f start before after xs i x inside is so_far now =
    let cut : take (i + 1) xs ≡ take i xs ++ x ∷ [] = take_more xs i x inside ∙ ap (λ (y : X). take i xs ++ y ∷ []) (sym is) in
    now ∙ (ap (λ (l : List ℕ). l ++ f x) so_far ∙ (flat_map_more f start (take i xs) x ∙ ap (λ (ys : List X). start ++ flat_map f ys) (sym cut)))

one_more : (n : ℕ) (e : Event) (later : List Event) → json_events n (e ∷ later) ≡ json_event n e ++ json_events (n + 1) later
unfolding json_events
one_more n e later = refl

none_more : (n : ℕ) → json_events n [] ≡ []
unfolding json_events
none_more n = refl

-- a loop over events that appends the line of each
pub events_more : (start before after : List ℕ) (events : List Event) (i : ℕ) (e : Event) → i < length events → e ≡ get_or events i e
    → start ++ json_events 1 events ≡ before ++ json_events (i + 1) (drop i events) → after ≡ before ++ json_event (i + 1) e
    → start ++ json_events 1 events ≡ after ++ json_events (i + 1 + 1) (drop (i + 1) events)
events_more start before after events i e inside is so_far now =
    let rest = drop (i + 1) events in
    let here : json_events (i + 1) (drop i events) ≡ json_event (i + 1) e ++ json_events (i + 1 + 1) rest =
    at_drop_more (json_events (i + 1)) events i e inside ∙ (ap (λ (x : Event). json_events (i + 1) (x ∷ rest)) (sym is) ∙ one_more (i + 1) e rest) in
    so_far ∙ (ap (λ (l : List ℕ). before ++ l) here ∙ (sym (append_assoc before (json_event (i + 1) e) (json_events (i + 1 + 1) rest)) ∙ ap (λ (l : List ℕ). l ++ json_events (i + 1 + 1) rest) (sym now)))

pub events_all : (start out : List ℕ) (events : List Event) (i : ℕ) → length events ≤ i → start ++ json_events 1 events ≡ out ++ json_events (i + 1) (drop i events) → out ≡ start ++ json_events 1 events
events_all start out events i end so_far =
    sym (so_far ∙ (ap (λ (l : List ℕ). out ++ l) (at_drop_all (json_events (i + 1)) events i end ∙ none_more (i + 1)) ∙ append-nil out))
