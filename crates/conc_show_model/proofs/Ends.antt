-- The runs of events and their ends, found by an index.
use Rattle.std.proofs.Common.{◌≡◌, refl, sym, ◌∙◌, ap, ◌<◌, ◌≤◌, ◌+◌, ℕ, true, false, List, [], ◌∷◌, ◌++◌, append_assoc, drop, get_or, length}
use Rattle.std.specs.Prelude.{Option, None, Some}
use Rattle.std.proofs.lemmas.List.{append-nil, at_drop_all, at_drop_more}
use Rattle.conc_types.specs.declared.event.Event.{Event}
use Rattle.conc_types.specs.declared.event.Event.TheVariants as event
use Rattle.conc_types.specs.declared.event.PlaceId.{PlaceId}
use Rattle.conc_types.specs.declared.event.RequestId.{RequestId}
use Rattle.conc_base_law.specs.Kinds.{ends_run}
use Rattle.conc_show_model.specs.declared.model.Run.{Run}
use Rattle.conc_show_model.specs.Runs.{first_end, place_of, runs_from}

found : (r : RequestId) (i : ℕ) (e : Event) (later : List Event) → ends_run r e ≡ true → first_end r i (e ∷ later) ≡ Some i
unfolding first_end
found r i e later h = rw h refl

passed : (r : RequestId) (i : ℕ) (e : Event) (later : List Event) → ends_run r e ≡ false → first_end r i (e ∷ later) ≡ first_end r (i + 1) later
unfolding first_end
passed r i e later h = rw h refl

none : (r : RequestId) (i : ℕ) → first_end r i [] ≡ None
unfolding first_end
none r i = refl

at_index : (r : RequestId) (i : ℕ) (events : List Event) (e : Event) → i < length events → e ≡ get_or events i e → first_end r i (drop i events) ≡ first_end r i (e ∷ drop (i + 1) events)
at_index r i events e l is = at_drop_more (first_end r i) events i e l ∙ ap (λ (x : Event). first_end r i (x ∷ drop (i + 1) events)) (sym is)

pub end_found : (r : RequestId) (from i : ℕ) (events : List Event) (e : Event) → i < length events → e ≡ get_or events i e → first_end r from (drop from events) ≡ first_end r i (drop i events)
    → ends_run r e ≡ true → first_end r from (drop from events) ≡ Some i
end_found r from i events e l is so_far h = so_far ∙ (at_index r i events e l is ∙ found r i e (drop (i + 1) events) h)

pub end_later : (r : RequestId) (from i : ℕ) (events : List Event) (e : Event) → i < length events → e ≡ get_or events i e → first_end r from (drop from events) ≡ first_end r i (drop i events)
    → ends_run r e ≡ false → first_end r from (drop from events) ≡ first_end r (i + 1) (drop (i + 1) events)
end_later r from i events e l is so_far h = so_far ∙ (at_index r i events e l is ∙ passed r i e (drop (i + 1) events) h)

pub end_none : (r : RequestId) (from i : ℕ) (events : List Event) → length events ≤ i → first_end r from (drop from events) ≡ first_end r i (drop i events) → first_end r from (drop from events) ≡ None
end_none r from i events l so_far = so_far ∙ (at_drop_all (first_end r i) events i l ∙ none r i)

-- ---- runs

runs_none : (i : ℕ) → runs_from i [] ≡ []
unfolding runs_from
runs_none i = refl

runs_at : (i : ℕ) (events : List Event) (e : Event) → i < length events → e ≡ get_or events i e → runs_from i (drop i events) ≡ runs_from i (e ∷ drop (i + 1) events)
runs_at i events e l is = at_drop_more (runs_from i) events i e l ∙ ap (λ (x : Event). runs_from i (x ∷ drop (i + 1) events)) (sym is)

-- no start
skipped : (i : ℕ) (e : Event) (later : List Event) → ((r : RequestId) (p : PlaceId) → e ≡ event.Started r p → ⊥) → runs_from i (e ∷ later) ≡ runs_from (i + 1) later
unfolding runs_from
skipped i (event.Tick t) later nostart = refl
skipped i (event.Command n) later nostart = refl
skipped i (event.OpenSet s) later nostart = refl
skipped i (event.Stage s n) later nostart = refl
skipped i (event.CloseSet s o) later nostart = refl
skipped i (event.LetOut r) later nostart = refl
skipped i (event.Started r p) later nostart = absurd (nostart r p refl)
skipped i (event.Ended r o x) later nostart = refl
skipped i event.Resume later nostart = refl
skipped i (event.Interrupt r) later nostart = refl

started : (i : ℕ) (r : RequestId) (p : PlaceId) (later : List Event)
    → runs_from i (event.Started r p ∷ later) ≡ record { request = r; place = place_of p; from = i; to = first_end r (i + 1) later } ∷ runs_from (i + 1) later
unfolding runs_from
started i r p later = refl

pub runs_more : (events : List Event) (runs more : List Run) (i : ℕ) (e : Event) (r : RequestId) (p : PlaceId) (to : Option ℕ) → i < length events → e ≡ get_or events i e
    → runs_from 0 events ≡ runs ++ runs_from i (drop i events) → e ≡ event.Started r p → to ≡ first_end r (i + 1) (drop (i + 1) events)
    → more ≡ runs ++ record { request = r; place = place_of p; from = i; to = to } ∷ []
    → runs_from 0 events ≡ more ++ runs_from (i + 1) (drop (i + 1) events)
runs_more events runs more i e r p to l is so_far start end m =
    let rest = drop (i + 1) events in
    let run : Run = record { request = r; place = place_of p; from = i; to = to } in
    let here : runs_from i (drop i events) ≡ run ∷ runs_from (i + 1) rest =
    runs_at i events e l is ∙ (ap (λ (x : Event). runs_from i (x ∷ rest)) start ∙ (started i r p rest
    ∙ ap (λ (o : Option ℕ). record { request = r; place = place_of p; from = i; to = o } ∷ runs_from (i + 1) rest) (sym end))) in
    so_far ∙ (ap (λ (xs : List Run). runs ++ xs) here ∙ (sym (append_assoc runs (run ∷ []) (runs_from (i + 1) rest)) ∙ ap (λ (xs : List Run). xs ++ runs_from (i + 1) rest) (sym m)))

pub runs_same : (events : List Event) (runs : List Run) (i : ℕ) (e : Event) → i < length events → e ≡ get_or events i e
    → runs_from 0 events ≡ runs ++ runs_from i (drop i events) → ((r : RequestId) (p : PlaceId) → e ≡ event.Started r p → ⊥)
    → runs_from 0 events ≡ runs ++ runs_from (i + 1) (drop (i + 1) events)
runs_same events runs i e l is so_far nostart = so_far ∙ ap (λ (xs : List Run). runs ++ xs) (runs_at i events e l is ∙ skipped i e (drop (i + 1) events) nostart)

pub runs_all : (events : List Event) (runs : List Run) (i : ℕ) → length events ≤ i → runs_from 0 events ≡ runs ++ runs_from i (drop i events) → runs ≡ runs_from 0 events
runs_all events runs i l so_far = sym (so_far ∙ (ap (λ (xs : List Run). runs ++ xs) (at_drop_all (runs_from i) events i l ∙ runs_none i) ∙ append-nil runs))
