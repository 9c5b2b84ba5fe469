-- Each run has its word in the line of its place.
use Rattle.std.proofs.Common.{◌≡◌, ◌+◌, ℕ, zero, List, [], ◌∷◌, Bool, true, All, Contains, flat_map, refl, sym, ap, subst, arith, if◌then◌else◌}
use Rattle.std.specs.Fmt.{decimal}
use Rattle.std.proofs.lemmas.Bool.Decides.{nat_tests}
use Rattle.std.proofs.lemmas.List.Elements.{All-cons, All-nil, All-weaker, Contains-append_left, Contains-append_right}
use Rattle.conc_types.specs.declared.event.Event.{Event}
use Rattle.conc_types.specs.declared.event.Event.TheVariants as event
use Rattle.conc_types.specs.declared.event.RequestId.{RequestId}
use Rattle.conc_types.specs.declared.event.PlaceId.{PlaceId}
use Rattle.conc_show_model.specs.Runs.{first_end, place_of, runs_from, runs_of}
use Rattle.conc_show_model.specs.declared.model.Place.{Place}
use Rattle.conc_show_model.specs.declared.model.Run.{Run}
use Rattle.conc_show_model.specs.Places.{place_eq}
use Rattle.conc_show_timeline.specs.Lanes.{words_at}

-- the number of the run's request is a word of its place
abbrev HasWord : List Event → Run → Type 0
HasWord events r = Contains (flat_map (words_at r.place) events) (decimal r.request.number)

place_eq_self : (p : Place) → place_eq p p ≡ true
place_eq_self p = grind (arith, nat_tests)

more : (i : ℕ) (e : Event) (later : List Event) (runs : List Run) → All (HasWord later) runs → All (HasWord (e ∷ later)) runs
more i e later runs all =
    All-weaker (HasWord later) (HasWord (e ∷ later))
    (λ r has. Contains-append_right (words_at r.place e) (flat_map (words_at r.place) later) (decimal r.request.number) has) runs all

own_word : (r : RequestId) (p : PlaceId) → Contains (words_at (place_of p) (event.Started r p)) (decimal r.number)
own_word r p =
    let here : (if place_eq (place_of p) (place_of p) then decimal r.number ∷ [] else []) ≡ decimal r.number ∷ [] =
    ap (λ (b : Bool). if b then decimal r.number ∷ [] else []) (place_eq_self (place_of p)) in
    subst (λ (ws : List (List ℕ)). Contains ws (decimal r.number)) (sym here) (zero, omega arith, refl)

words_of : (i : ℕ) (events : List Event) → All (HasWord events) (runs_from i events)
unfolding runs_from
words_of i [] = All-nil (HasWord [])
words_of i (event.Started r p ∷ later) =
    let run : Run = record { request = r; place = place_of p; from = i; to = first_end r (i + 1) later } in
    All-cons (HasWord (event.Started r p ∷ later)) run (runs_from (i + 1) later)
    (Contains-append_left (words_at (place_of p) (event.Started r p)) (flat_map (words_at (place_of p)) later) (decimal r.number) (own_word r p))
    (more i (event.Started r p) later (runs_from (i + 1) later) (words_of (i + 1) later))
words_of i (event.Tick t ∷ later) = more i (event.Tick t) later (runs_from (i + 1) later) (words_of (i + 1) later)
words_of i (event.Command n ∷ later) = more i (event.Command n) later (runs_from (i + 1) later) (words_of (i + 1) later)
words_of i (event.OpenSet s ∷ later) = more i (event.OpenSet s) later (runs_from (i + 1) later) (words_of (i + 1) later)
words_of i (event.Stage s k ∷ later) = more i (event.Stage s k) later (runs_from (i + 1) later) (words_of (i + 1) later)
words_of i (event.CloseSet s o ∷ later) = more i (event.CloseSet s o) later (runs_from (i + 1) later) (words_of (i + 1) later)
words_of i (event.LetOut r ∷ later) = more i (event.LetOut r) later (runs_from (i + 1) later) (words_of (i + 1) later)
words_of i (event.Ended r o x ∷ later) = more i (event.Ended r o x) later (runs_from (i + 1) later) (words_of (i + 1) later)
words_of i (event.Resume ∷ later) = more i event.Resume later (runs_from (i + 1) later) (words_of (i + 1) later)
words_of i (event.Interrupt r ∷ later) = more i (event.Interrupt r) later (runs_from (i + 1) later) (words_of (i + 1) later)

-- each of the runs of a history
pub run_words : (runs : List Run) (events : List Event) → runs ≡ runs_of events
    → All (λ r. Contains (flat_map (words_at r.place) events) (decimal r.request.number)) runs
run_words runs events are = subst (All (HasWord events)) (sym are) (words_of 0 events)
