-- The bars of runs are apart.
use Rattle.std.proofs.Common.{◌≡◌, ◌∙◌, ◌≤◌, ◌<◌, ◌+◌, ◌-◌, ◌*◌, ◌/◌, inl, inr, ℕ, zero, suc, Bool, true, false, List, [], ◌∷◌, All, Contains, Option, None, Some, IsSomeAnd, length, get_or, add-one, min, max, refl, sym, ap, subst, arith, if◌then◌else◌}
use Rattle.std.proofs.Math.Nat.{div-mul-le_self, le-div_iff_mul-le, mul-le-mul_right}
use Rattle.std.proofs.lemmas.Bool.Decides.{nat_tests}
use Rattle.std.proofs.lemmas.Grind.{not_there}
use Rattle.std.proofs.lemmas.Bool.{cases_lt}
use Rattle.std.proofs.lemmas.List.Elements.{All-cons, All-get_or, All-nil, Contains-append_cases}
use Rattle.conc_types.specs.declared.event.Event.{Event}
use Rattle.conc_types.specs.declared.event.Event.TheVariants as event
use Rattle.conc_types.specs.declared.event.RequestId.{RequestId}
use Rattle.conc_base_law.specs.Kinds.{ends_run}
use Rattle.conc_show_model.specs.Runs.{AreApart, first_end, place_of, runs_from, runs_of}
use Rattle.conc_show_model.specs.declared.model.Place.{Place}
use Rattle.conc_show_model.specs.declared.model.Run.{Run}
use Rattle.conc_show_model.proofs.Ordered.{same_place}
use Rattle.conc_show_model.specs.Places.{place_eq}
use Rattle.conc_show_svg.specs.Bars.{View, bar_in_lane, bar_in_row}
use Rattle.conc_show_svg.specs.Geometry.{bar_of, end_of, lane_of, x_of}
use Rattle.conc_show_svg.specs.Picture.{AreClear, AreClearEach, IsInside}

-- ---- events from left to right

div_mono : (a b k : ℕ) → 0 < k → a ≤ b → a / k ≤ b / k
div_mono a b k pos le = (le-div_iff_mul-le pos).1 (omega (arith, div-mul-le_self a k, le))

div_most : (a m k : ℕ) → 0 < k → a ≤ m * k → a / k ≤ m
div_most a m k pos le =
    elim (cases_lt m (a / k)) [
      | inl lt ↦ absurd (omega (arith, div-mul-le_self a k, mul-le-mul_right k lt, le))
      | inr most ↦ most
    ]

pub x_mono : (n i j : ℕ) → i ≤ j → x_of n i ≤ x_of n j
unfolding x_of
x_mono n i j le =
    let a = 78000 * min i n in
    let b = 78000 * min j n in
    let k = max n 1 in
    let pos : 0 < k = omega arith in
    let on : a ≤ b = omega (arith, le) in
    let divided : a / k ≤ b / k = div_mono a b k pos on in
    omega (arith, divided)

x_least : (n i : ℕ) → 26000 ≤ x_of n i
unfolding x_of
x_least n i = omega arith

x_most : (n i : ℕ) → x_of n i ≤ 104000
unfolding x_of
x_most n i =
    let k = max n 1 in
    let top : 78000 * min i n ≤ 78000 * k = omega arith in
    let whole : 78000 * min i n / k ≤ 78000 = div_most (78000 * min i n) 78000 k (omega arith) top in
    omega (arith, whole)

-- ---- a run ends behind its start

end_by : (r : RequestId) (i e : ℕ) (x : Event) (later : List Event) (b : Bool) → ends_run r x ≡ b → first_end r i (x ∷ later) ≡ Some e
    → (first_end r (i + 1) later ≡ Some e → i + 1 ≤ e) → i ≤ e
unfolding first_end
end_by r i e x later true is found rest =
    let same : Some i ≡ Some e = sym (ap (λ (b : Bool). if b then Some i else first_end r (i + 1) later) is) ∙ found in
    let equal : i ≡ e = cc in
    omega (arith, equal)
end_by r i e x later false is found rest =
    let there : first_end r (i + 1) later ≡ Some e = sym (ap (λ (b : Bool). if b then Some i else first_end r (i + 1) later) is) ∙ found in
    omega (arith, rest there)

end_behind : (r : RequestId) (i e : ℕ) (events : List Event) → first_end r i events ≡ Some e → i ≤ e
unfolding first_end
end_behind r i e [] found = cc
end_behind r i e (x ∷ later) found = end_by r i e x later (ends_run r x) refl found (end_behind r (i + 1) e later)

-- the run ends behind its start
abbrev pub EndsBehind : Run → Type 0
EndsBehind r = (e : ℕ) → r.to ≡ Some e → r.from < e

runs_behind : (i : ℕ) (events : List Event) → All EndsBehind (runs_from i events)
unfolding runs_from
runs_behind i [] = All-nil EndsBehind
runs_behind i (event.Started r p ∷ later) =
    let run : Run = record { request = r; place = place_of p; from = i; to = first_end r (i + 1) later } in
    All-cons EndsBehind run (runs_from (i + 1) later) (λ e found. omega (arith, end_behind r (i + 1) e later found)) (runs_behind (i + 1) later)
runs_behind i (event.Tick t ∷ later) = runs_behind (i + 1) later
runs_behind i (event.Command n ∷ later) = runs_behind (i + 1) later
runs_behind i (event.OpenSet s ∷ later) = runs_behind (i + 1) later
runs_behind i (event.Stage s k ∷ later) = runs_behind (i + 1) later
runs_behind i (event.CloseSet s o ∷ later) = runs_behind (i + 1) later
runs_behind i (event.LetOut r ∷ later) = runs_behind (i + 1) later
runs_behind i (event.Ended r o x ∷ later) = runs_behind (i + 1) later
runs_behind i (event.Resume ∷ later) = runs_behind (i + 1) later
runs_behind i (event.Interrupt r ∷ later) = runs_behind (i + 1) later

all_behind : (runs : List Run) (events : List Event) → runs ≡ runs_of events → All EndsBehind runs
all_behind runs events are = subst (All EndsBehind) (sym are) (runs_behind 0 events)

-- ---- two bars

apart_bars : (n : ℕ) (a b : Run) (to : Option ℕ) → a.to ≡ to → IsSomeAnd to (λ e. e < b.from) → EndsBehind a
    → x_of n a.from + (end_of n a.to - x_of n a.from) ≤ x_of n b.from
apart_bars n a b None is on behind = absurd on
apart_bars n a b (Some e) is on behind =
    let ends : end_of n a.to ≡ x_of n e = ap (end_of n) is in
    let later : x_of n e ≤ x_of n b.from = x_mono n e b.from (omega (arith, on)) in
    let start : x_of n a.from ≤ x_of n b.from = x_mono n a.from b.from (omega (arith, on, behind e is)) in
    omega (arith, ends, later, start)

merely_le : {P : Type 0} (x y : ℕ) → ∥ P ∥₁ → (P → x ≤ y) → x ≤ y
merely_le x y p f =
    elim (cases_lt y x) [ inl lt ↦ absurd (not_there p (λ q. let le : x ≤ y = f q in omega (arith, le, lt))) | inr le ↦ le ]

-- ---- lanes

place_eq_self : (p : Place) → place_eq p p ≡ true
place_eq_self p = grind (arith, nat_tests)

other : (q p : Place) → place_eq q p ≡ false → Contains (q ∷ []) p → ⊥
other q p is (zero, inside, same) = cc (is, place_eq_self p)
other q p is (suc k, inside, same) = omega (arith, inside)

lane_by : (places : List Place) (q p d : Place) (b : Bool) → place_eq q p ≡ b → (Contains places p → get_or places (lane_of places p) d ≡ p)
    → Contains (q ∷ places) p → get_or (q ∷ places) (if b then 0 else lane_of places p + 1) d ≡ p
lane_by places q p d true is rest has = same_place q p is
lane_by places q p d false is rest has =
    elim (Contains-append_cases (q ∷ []) places p has) [
      | inl first ↦ absurd (other q p is first)
      | inr later ↦ rw add-one (rest later)
    ]

lane_found : (places : List Place) (p d : Place) → Contains places p → get_or places (lane_of places p) d ≡ p
lane_found [] p d has = absurd (omega (arith, has.1))
lane_found (q ∷ places) p d has = lane_by places q p d (place_eq q p) refl (lane_found places p d) has

same_lane : (places : List Place) (p q : Place) → Contains places p → Contains places q → lane_of places p ≡ lane_of places q → p ≡ q
same_lane places p q has also same =
    sym (lane_found places p p has) ∙ ap (λ (k : ℕ). get_or places k p) same ∙ lane_found places q p also

pub lanes_clear : (v : View) (runs : List Run) → ∥ AreApart runs ∥₁ → runs ≡ runs_of v.events → All (λ r. Contains v.places r.place) runs
    → AreClear (bar_in_lane v) runs
lanes_clear v runs apart are all = λ i j d before inside same.
    let here : i < length runs = omega (arith, before, inside) in
    let a = get_or runs i d in
    let b = get_or runs j d in
    let place : a.place ≡ b.place =
    same_lane v.places a.place b.place (All-get_or (λ r. Contains v.places r.place) runs i d here all)
    (All-get_or (λ r. Contains v.places r.place) runs j d inside all) same in
    merely_le (x_of (length v.events) a.from + (end_of (length v.events) a.to - x_of (length v.events) a.from)) (x_of (length v.events) b.from) apart
    (λ p. apart_bars (length v.events) a b a.to refl (p i j d before inside (inr place)) (All-get_or EndsBehind runs i d here (all_behind runs v.events are)))

pub rows_clear : (v : View) (runs : List Run) → ∥ AreApart runs ∥₁ → runs ≡ runs_of v.events → AreClearEach (bar_in_row v) runs
rows_clear v runs apart are = λ i j d before inside same.
    let here : i < length runs = omega (arith, before, inside) in
    let a = get_or runs i d in
    let b = get_or runs j d in
    merely_le (x_of (length v.events) a.from + (end_of (length v.events) a.to - x_of (length v.events) a.from)) (x_of (length v.events) b.from) apart
    (λ p. apart_bars (length v.events) a b a.to refl (p i j d before inside (inl same)) (All-get_or EndsBehind runs i d here (all_behind runs v.events are)))

-- ---- inside the picture

end_inside : (n : ℕ) (to : Option ℕ) → end_of n to ≤ 104000
end_inside n None = omega arith
end_inside n (Some i) = x_most n i

bar_inside : (n lane : ℕ) (r : Run) → IsInside (bar_of n lane r)
bar_inside n lane r = (x_least n r.from, omega (arith, x_most n r.from, end_inside n r.to))

pub all_inside : (v : View) (runs : List Run) → All (λ r. IsInside (bar_in_lane v r)) runs
all_inside v runs = λ i d inside. bar_inside (length v.events) (lane_of v.places (get_or runs i d).place) (get_or runs i d)
