-- The places of runs: each once, in order, and no others.
use Rattle.std.proofs.Common.{◌≡◌, ◌∙◌, inl, inr, Bool, true, false, List, [], ◌∷◌, All, AllPairs, Contains, IsTrue, refl, sym, ap, arith, if◌then◌else◌, suc, ◌≤◌, ℕ, length, get_or, drop}
use Rattle.std.proofs.lemmas.Bool.Decides.{nat_tests}
use Rattle.std.proofs.Math.ListN.{drop_of_length-le}
use Rattle.std.proofs.lemmas.List.{get_or_default}
use Rattle.std.proofs.lemmas.List.Elements.{All-cons, All-nil, All-head, All-tail, All-weaker, Contains-append_cases, Contains-append_left, Contains-append_right}
use Rattle.std.proofs.lemmas.List.Kept.{AllPairs-cons}
use Rattle.conc_show_model.specs.declared.model.Place.{Place}
use Rattle.conc_show_model.specs.declared.model.Run.{Run}
use Rattle.conc_show_model.specs.Places.{RunsAt, place_eq, places_of, precedes, with_place, with_places}

precedes_on : (a b c : Place) → precedes a b ≡ true → precedes b c ≡ true → precedes a c ≡ true
precedes_on a b c ab bc = grind (arith, nat_tests)

precedes_back : (p q : Place) → precedes p q ≡ false → place_eq p q ≡ false → precedes q p ≡ true
precedes_back p q before same = grind (arith, nat_tests)

same_manager : (p q : Place) → place_eq p q ≡ true → p.manager ≡ q.manager
same_manager p q same = grind (arith, nat_tests)

same_number : (p q : Place) → place_eq p q ≡ true → p.number ≡ q.number
same_number p q same = grind (arith, nat_tests)

pub same_place : (p q : Place) → place_eq p q ≡ true → p ≡ q
same_place p q same =
    ap (λ m. let made : Place = record { manager = m; number = p.number } in made) (same_manager p q same)
    ∙ ap (λ n. let made : Place = record { manager = q.manager; number = n } in made) (same_number p q same)

-- what holds of the place and of each of the others
with_case : (P : Place → Type 0) (p q : Place) (later : List Place) (first same : Bool) → P p → All P (q ∷ later) → All P (with_place p later)
    → All P (if first then p ∷ q ∷ later else if same then q ∷ later else q ∷ with_place p later)
with_case P p q later true same this all kept = All-cons P p (q ∷ later) this all
with_case P p q later false true this all kept = all
with_case P p q later false false this all kept = All-cons P q (with_place p later) (All-head P q later all) kept

all_with : (P : Place → Type 0) (p : Place) (places : List Place) → P p → All P places → All P (with_place p places)
all_with P p [] this all = All-cons P p [] this (All-nil P)
all_with P p (q ∷ later) this all = with_case P p q later (precedes p q) (place_eq p q) this all (all_with P p later this (All-tail P q later all))

-- of two places that stand in order
abbrev Ordered : List Place → Type 0
Ordered places = AllPairs (λ a b. IsTrue (precedes a b)) places

all_behind : (q : Place) (later : List Place) → Ordered (q ∷ later) → All (λ b. IsTrue (precedes q b)) later
all_behind q later all = λ k d inside. all 0 (suc k) d (omega arith) (omega (arith, inside))

rest_ordered : (q : Place) (later : List Place) → Ordered (q ∷ later) → Ordered later
rest_ordered q later all = λ i j d on inside. all (suc i) (suc j) d (omega (arith, on)) (omega (arith, inside))

joined : (q : Place) (later : List Place) → All (λ b. IsTrue (precedes q b)) later → Ordered later → Ordered (q ∷ later)
joined q later behind rest = AllPairs-cons (λ a b. IsTrue (precedes a b)) q later behind rest

none_ordered : Ordered []
none_ordered = λ i j d on inside. absurd (omega (arith, inside))

place_case : (p q : Place) (later : List Place) (first same : Bool) → precedes p q ≡ first → place_eq p q ≡ same → Ordered (q ∷ later)
    → Ordered (with_place p later) → Ordered (if first then p ∷ q ∷ later else if same then q ∷ later else q ∷ with_place p later)
place_case p q later true same is _ all kept =
    joined p (q ∷ later) (All-cons (λ b. IsTrue (precedes p b)) q later is
    (All-weaker (λ b. IsTrue (precedes q b)) (λ b. IsTrue (precedes p b)) (λ b on. precedes_on p q b is on) later (all_behind q later all))) all
place_case p q later false true _ is all kept = all
place_case p q later false false is other all kept =
    joined q (with_place p later) (all_with (λ b. IsTrue (precedes q b)) p later (precedes_back p q is other) (all_behind q later all)) kept

ordered_with : (p : Place) (places : List Place) → Ordered places → Ordered (with_place p places)
ordered_with p [] all = joined p [] (All-nil (λ b. IsTrue (precedes p b))) none_ordered
ordered_with p (q ∷ later) all =
    place_case p q later (precedes p q) (place_eq p q) refl refl all (ordered_with p later (rest_ordered q later all))

ordered_all : (runs : List Run) (places : List Place) → Ordered places → Ordered (with_places runs places)
ordered_all [] places all = all
ordered_all (r ∷ later) places all = ordered_all later (with_place r.place places) (ordered_with r.place places all)

pub places_ordered : (runs : List Run) → AllPairs (λ a b. IsTrue (precedes a b)) (places_of runs)
places_ordered runs = ordered_all runs [] none_ordered

-- ---- each place of a run is there

has_case : (p q : Place) (later : List Place) (first same : Bool) → place_eq p q ≡ same → Contains (with_place p later) p
    → Contains (if first then p ∷ q ∷ later else if same then q ∷ later else q ∷ with_place p later) p
has_case p q later true same _ kept = Contains-append_left (p ∷ []) (q ∷ later) p (0, omega arith, refl)
has_case p q later false true is kept = Contains-append_left (q ∷ []) later p (0, omega arith, sym (same_place p q is))
has_case p q later false false _ kept = Contains-append_right (q ∷ []) (with_place p later) p kept

has_place : (p : Place) (places : List Place) → Contains (with_place p places) p
has_place p [] = (0, omega arith, refl)
has_place p (q ∷ later) = has_case p q later (precedes p q) (place_eq p q) refl (has_place p later)

keeps_case : (p q x : Place) (later : List Place) (first same : Bool) → Contains (q ∷ later) x → (Contains later x → Contains (with_place p later) x)
    → Contains (if first then p ∷ q ∷ later else if same then q ∷ later else q ∷ with_place p later) x
keeps_case p q x later true same has kept = Contains-append_right (p ∷ []) (q ∷ later) x has
keeps_case p q x later false true has kept = has
keeps_case p q x later false false has kept =
    elim (Contains-append_cases (q ∷ []) later x has) [
      | inl h ↦ Contains-append_left (q ∷ []) (with_place p later) x h
      | inr h ↦ Contains-append_right (q ∷ []) (with_place p later) x (kept h)
    ]

keeps_place : (p x : Place) (places : List Place) → Contains places x → Contains (with_place p places) x
keeps_place p x [] has = Contains-append_right (p ∷ []) [] x has
keeps_place p x (q ∷ later) has = keeps_case p q x later (precedes p q) (place_eq p q) has (keeps_place p x later)

keeps_all : (runs : List Run) (places : List Place) (x : Place) → Contains places x → Contains (with_places runs places) x
keeps_all [] places x has = has
keeps_all (r ∷ later) places x has = keeps_all later (with_place r.place places) x (keeps_place r.place x places has)

has_all : (runs : List Run) (places : List Place) → All (λ r. Contains (with_places runs places) r.place) runs
has_all [] places = All-nil (λ r. Contains (with_places [] places) r.place)
has_all (r ∷ later) places =
    let after = with_place r.place places in
    All-cons (λ s. Contains (with_places later after) s.place) r later (keeps_all later after r.place (has_place r.place places)) (has_all later after)

pub places_all : (runs : List Run) → All (λ r. Contains (places_of runs) r.place) runs
places_all runs = has_all runs []

-- ---- and no others

used_by : (P : Place → Type 0) (runs : List Run) (places : List Place) → All P places → All (λ r. P r.place) runs → All P (with_places runs places)
used_by P [] places all each = all
used_by P (r ∷ later) places all each =
    used_by P later (with_place r.place places) (all_with P r.place places (All-head (λ s. P s.place) r later each) all) (All-tail (λ s. P s.place) r later each)

pub places_used : (runs : List Run) → All (RunsAt runs) (places_of runs)
places_used runs =
    used_by (RunsAt runs) runs [] (All-nil (RunsAt runs)) (λ k d inside. (k, get_or runs k d, inside, get_or_default runs k (get_or runs k d) d inside, refl))

-- the end of a loop over the runs
pub placed : (runs : List Run) (i : ℕ) (places : List Place) → length runs ≤ i → with_places (drop i runs) places ≡ places_of runs → places ≡ places_of runs
placed runs i places past so_far = sym (ap (λ (rs : List Run). with_places rs places) (drop_of_length-le runs past)) ∙ so_far
