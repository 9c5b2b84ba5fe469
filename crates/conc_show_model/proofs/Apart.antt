-- The runs of events that are judged are apart.
use Rattle.std.proofs.Common.{◌≡◌, refl, sym, ◌∙◌, subst, ◌<◌, ◌≤◌, ◌+◌, ◌⊎◌, inl, inr, ℕ, zero, suc, Bool, true, false, not, ◌&&◌, ◌||◌, cond, List, [], ◌∷◌, ◌++◌, arith}
use Rattle.std.specs.Prelude.{◌==◌, Option, None, Some, AllPairs, IsSomeAnd, filter}
use Rattle.std.specs.List.{All, list_any}
use Rattle.std.proofs.lemmas.Bool.{and_from, and_parts, eqb-true, eq-eqb, ne_eqb}
use Rattle.std.proofs.lemmas.List.Folds.{list_any-append}
use Rattle.conc_types.specs.declared.event.Event.{Event}
use Rattle.conc_types.specs.declared.event.Event.TheVariants as event
use Rattle.conc_types.specs.declared.event.RequestId.{RequestId}
use Rattle.conc_base_law.specs.Words.{id_eq}
use Rattle.conc_show_model.specs.declared.fail.ChartWhy.{ChartWhy}
use Rattle.conc_show_model.specs.declared.judging.Going.{Going}
use Rattle.conc_show_model.specs.declared.model.Place.{Place}
use Rattle.conc_show_model.specs.declared.model.Row.{Row}
use Rattle.conc_show_model.specs.declared.model.Run.{Run}
use Rattle.conc_show_model.specs.Judging.{fault_at, fault_from, going_after, going_fault, has_row, is_of, named, stands_at, start_fault}
use Rattle.conc_show_model.specs.Runs.{AreApart, first_end, place_of, runs_from, runs_of}
use Rattle.conc_types.specs.Words.{none_or}

-- ---- lists

pub all_nil : {X : Type 0} (P : X → Type 0) → All P []
all_nil P k d l = absurd (omega arith)

pub all_cons : {X : Type 0} (P : X → Type 0) (x : X) (xs : List X) → P x → All P xs → All P (x ∷ xs)
all_cons P x xs h t zero d l = h
all_cons P x xs h t (suc k) d l = t k d (omega arith)

pub pairs_nil : {X : Type 0} (R : X → X → Type 0) → AllPairs R []
pairs_nil R i j d l m = absurd (omega arith)

pub pairs_cons : {X : Type 0} (R : X → X → Type 0) (x : X) (xs : List X) → All (R x) xs → AllPairs R xs → AllPairs R (x ∷ xs)
pairs_cons R x xs h t zero zero d l m = absurd (omega arith)
pairs_cons R x xs h t zero (suc j) d l m = h j d (omega arith)
pairs_cons R x xs h t (suc i) zero d l m = absurd (omega arith)
pairs_cons R x xs h t (suc i) (suc j) d l m = t i j d (omega arith) (omega arith)

any_weaker : {X : Type 0} (p q : X → Bool) → ((x : X) → p x ≡ true → q x ≡ true) → (xs : List X) → list_any p xs ≡ true → list_any q xs ≡ true
any_weaker p q h [] e = absurd cc
any_weaker p q h (x ∷ xs) e = by (p x) (q x) (h x) e (λ m. any_weaker p q h xs m) where
  by : (b c : Bool) → (b ≡ true → c ≡ true) → (b || list_any p xs) ≡ true → (list_any p xs ≡ true → list_any q xs ≡ true) → (c || list_any q xs) ≡ true
  by true c k e' later = rw (k refl) refl
  by false true k e' later = refl
  by false false k e' later = later e'

any_kept : {X : Type 0} (p keep : X → Bool) → ((x : X) → p x ≡ true → keep x ≡ true) → (xs : List X) → list_any p xs ≡ true → list_any p (filter keep xs) ≡ true
any_kept p keep h [] e = absurd cc
any_kept {X} p keep h (x ∷ xs) e = by (p x) (keep x) refl refl e (λ m. any_kept p keep h xs m) where
  by : (b c : Bool) → p x ≡ b → keep x ≡ c → (b || list_any p xs) ≡ true → (list_any p xs ≡ true → list_any p (filter keep xs) ≡ true) → list_any p (cond c (x ∷ filter keep xs) (filter keep xs)) ≡ true
  by true true k m e' later = rw k refl
  by true false k m e' later = let no = h x k in absurd cc
  by false true k m e' later = rw k (later e')
  by false false k m e' later = later e'

any_before : {X : Type 0} (p : X → Bool) (xs ys : List X) → list_any p xs ≡ true → list_any p (xs ++ ys) ≡ true
any_before p xs ys e = rw (list_any-append p xs ys, e) refl

any_pushed : {X : Type 0} (p : X → Bool) (xs : List X) (x : X) → p x ≡ true → list_any p (xs ++ x ∷ []) ≡ true
any_pushed p [] x e = rw e refl
any_pushed p (y ∷ xs) x e = by (p y) (any_pushed p xs x e) where
  by : (b : Bool) → list_any p (xs ++ x ∷ []) ≡ true → (b || list_any p (xs ++ x ∷ [])) ≡ true
  by true later = refl
  by false later = later

-- ---- the runs of events

IsApart : Run → Run → Type 0
IsApart a b = (a.request ≡ b.request) ⊎ (a.place ≡ b.place) → IsSomeAnd a.to (λ end. end < b.from)

-- a run of the request at the place ends, as said, before each of these that it concerns
EndsBefore : RequestId → Place → Option ℕ → Run → Type 0
EndsBefore r p to b = (r ≡ b.request) ⊎ (p ≡ b.place) → IsSomeAnd to (λ end. end < b.from)

-- runs that events start stand behind the event before these
StartsFrom : ℕ → Run → Type 0
StartsFrom i b = i ≤ b.from

later_starts : (i : ℕ) (runs : List Run) → All (StartsFrom (i + 1)) runs → All (StartsFrom i) runs
unfolding StartsFrom
later_starts i runs h k d l = let m : i + 1 ≤ _ = h k d l in omega arith

start_from : (i : ℕ) (events : List Event) → All (StartsFrom i) (runs_from i events)
unfolding runs_from StartsFrom
start_from i [] = all_nil (StartsFrom i)
start_from i (event.Tick t ∷ later) = later_starts i _ (start_from (i + 1) later)
start_from i (event.Command n ∷ later) = later_starts i _ (start_from (i + 1) later)
start_from i (event.OpenSet s ∷ later) = later_starts i _ (start_from (i + 1) later)
start_from i (event.Stage s n ∷ later) = later_starts i _ (start_from (i + 1) later)
start_from i (event.CloseSet s o ∷ later) = later_starts i _ (start_from (i + 1) later)
start_from i (event.LetOut r ∷ later) = later_starts i _ (start_from (i + 1) later)
start_from i (event.Started r p ∷ later) = all_cons (StartsFrom i) _ _ (omega arith) (later_starts i _ (start_from (i + 1) later))
start_from i (event.Ended r o x ∷ later) = later_starts i _ (start_from (i + 1) later)
start_from i (event.Resume ∷ later) = later_starts i _ (start_from (i + 1) later)
start_from i (event.Interrupt r ∷ later) = later_starts i _ (start_from (i + 1) later)

-- an end at i is before all of them
ends_at : (r : RequestId) (p : Place) (i : ℕ) (runs : List Run) → All (StartsFrom (i + 1)) runs → All (EndsBefore r p (Some i)) runs
unfolding StartsFrom EndsBefore
ends_at r p i runs h k d l = λ e. let m : i + 1 ≤ _ = h k d l in omega arith

-- ---- who runs

abbrev is_there : RequestId → Place → Going → Bool
is_there r p g = is_of r g && stands_at p g

-- nothing is wrong with the first event, and with those behind it
fine_here : (rows : List Row) (going : List Going) (n : ℕ) (e : Event) (later : List Event) → fault_from rows going n (e ∷ later) ≡ None
    → (going_fault going e ≡ None) × (fault_from rows (going_after going e) (n + 1) later ≡ None)
unfolding fault_from fault_at
fine_here rows going n e later h = by (none_or (has_row rows) (named e)) refl where
  on : (w : Option ChartWhy) → going_fault going e ≡ w → none_or (has_row rows) (named e) ≡ true → (going_fault going e ≡ None) × (fault_from rows (going_after going e) (n + 1) later ≡ None)
  on None f k = (f, rw (k, f) at h)
  on (Some w) f k = let no = rw (k, f) at h in absurd cc

  by : (b : Bool) → none_or (has_row rows) (named e) ≡ b → (going_fault going e ≡ None) × (fault_from rows (going_after going e) (n + 1) later ≡ None)
  by true k = on (going_fault going e) refl k
  by false k = let no = rw k at h in absurd cc

-- a start: the request does not run, and the place is free
free_here : (going : List Going) (r : RequestId) (p : Place) → start_fault going r p ≡ None → (list_any (is_of r) going ≡ false) × (list_any (stands_at p) going ≡ false)
free_here going r p h = by (list_any (is_of r) going) (list_any (stands_at p) going) refl refl where
  by : (b c : Bool) → list_any (is_of r) going ≡ b → list_any (stands_at p) going ≡ c → (list_any (is_of r) going ≡ false) × (list_any (stands_at p) going ≡ false)
  by true c k m = let no = rw k at h in absurd cc
  by false true k m = let no = rw (k, m) at h in absurd cc
  by false false k m = (k, m)

there_runs : (r : RequestId) (p : Place) (going : List Going) → list_any (is_there r p) going ≡ true → list_any (is_of r) going ≡ true
there_runs r p going h = any_weaker (is_there r p) (is_of r) (λ g k. (and_parts (is_of r g) (stands_at p g) k).0) going h

there_stands : (r : RequestId) (p : Place) (going : List Going) → list_any (is_there r p) going ≡ true → list_any (stands_at p) going ≡ true
there_stands r p going h = any_weaker (is_there r p) (stands_at p) (λ g k. (and_parts (is_of r g) (stands_at p g) k).1) going h

-- another request's start concerns neither the request nor its place
apart_here : (r q : RequestId) (p s : Place) (i : ℕ) (to end : Option ℕ) (going : List Going) → list_any (is_there r p) going ≡ true → list_any (is_of q) going ≡ false → list_any (stands_at s) going ≡ false
    → EndsBefore r p to (record { request = q; place = s; from = i; to = end })
unfolding EndsBefore
apart_here r q p s i to end going there none free = λ e. elim e [
  | inl same ↦ let run : list_any (is_of q) going ≡ true = subst (λ (x : RequestId). list_any (is_of x) going ≡ true) same (there_runs r p going there) in absurd cc
  | inr same ↦ let stand : list_any (stands_at s) going ≡ true = subst (λ (x : Place). list_any (stands_at x) going ≡ true) same (there_stands r p going there) in absurd cc
]

-- one that did not end goes on
stays_there : (r q : RequestId) (p : Place) (going : List Going) → id_eq q r ≡ false → list_any (is_there r p) going ≡ true
    → list_any (is_there r p) (filter (λ g. not (is_of q g)) going) ≡ true
stays_there r q p going ne there = any_kept (is_there r p) (λ g. not (is_of q g)) kept going there where
  kept : (g : Going) → is_there r p g ≡ true → not (is_of q g) ≡ true
  kept g h =
      let is : g.request.number ≡ r.number = eqb-true g.request.number r.number (and_parts (is_of r g) (stands_at p g) h).0 in
      let other : (g.request.number == q.number) ≡ false = ne_eqb g.request.number q.number (λ e. let same : (q.number == r.number) ≡ true = eq-eqb q.number r.number (sym e ∙ is) in absurd cc) in
      rw other refl

-- a request that runs ends before each later run of it or at its place
ends_before : (rows : List Row) (events : List Event) (going : List Going) (n i : ℕ) (r : RequestId) (p : Place) → fault_from rows going n events ≡ None → list_any (is_there r p) going ≡ true
    → All (EndsBefore r p (first_end r i events)) (runs_from i events)
unfolding runs_from first_end
ends_before rows [] going n i r p fine there = all_nil _
ends_before rows (event.Tick t ∷ later) going n i r p fine there = ends_before rows later going (n + 1) (i + 1) r p (fine_here rows going n (event.Tick t) later fine).1 there
ends_before rows (event.Command m ∷ later) going n i r p fine there = ends_before rows later going (n + 1) (i + 1) r p (fine_here rows going n (event.Command m) later fine).1 there
ends_before rows (event.OpenSet s ∷ later) going n i r p fine there = ends_before rows later going (n + 1) (i + 1) r p (fine_here rows going n (event.OpenSet s) later fine).1 there
ends_before rows (event.Stage s m ∷ later) going n i r p fine there = ends_before rows later going (n + 1) (i + 1) r p (fine_here rows going n (event.Stage s m) later fine).1 there
ends_before rows (event.CloseSet s o ∷ later) going n i r p fine there = ends_before rows later going (n + 1) (i + 1) r p (fine_here rows going n (event.CloseSet s o) later fine).1 there
ends_before rows (event.LetOut q ∷ later) going n i r p fine there = ends_before rows later going (n + 1) (i + 1) r p (fine_here rows going n (event.LetOut q) later fine).1 there
ends_before rows (event.Started q s ∷ later) going n i r p fine there =
    let here = fine_here rows going n (event.Started q s) later fine in
    let free = free_here going q (place_of s) here.0 in
    all_cons (EndsBefore r p (first_end r (i + 1) later)) _ _ (apart_here r q p (place_of s) i _ _ going there free.0 free.1)
    (ends_before rows later (going_after going (event.Started q s)) (n + 1) (i + 1) r p here.1 (any_before (is_there r p) going _ there))
ends_before rows (event.Ended q o x ∷ later) going n i r p fine there =
    by (id_eq q r) refl (λ k. ends_before rows later (going_after going (event.Ended q o x)) (n + 1) (i + 1) r p (fine_here rows going n (event.Ended q o x) later fine).1 (stays_there r q p going k there)) where
      by : (b : Bool) → id_eq q r ≡ b → (id_eq q r ≡ false → All (EndsBefore r p (first_end r (i + 1) later)) (runs_from (i + 1) later))
          → All (EndsBefore r p (cond (b || false) (Some i) (first_end r (i + 1) later))) (runs_from (i + 1) later)
      by true k on = ends_at r p i _ (start_from (i + 1) later)
      by false k on = on k
ends_before rows (event.Resume ∷ later) going n i r p fine there = ends_before rows later going (n + 1) (i + 1) r p (fine_here rows going n event.Resume later fine).1 there
ends_before rows (event.Interrupt q ∷ later) going n i r p fine there =
    by (id_eq q r) refl (λ k. ends_before rows later (going_after going (event.Interrupt q)) (n + 1) (i + 1) r p (fine_here rows going n (event.Interrupt q) later fine).1 (stays_there r q p going k there)) where
      by : (b : Bool) → id_eq q r ≡ b → (id_eq q r ≡ false → All (EndsBefore r p (first_end r (i + 1) later)) (runs_from (i + 1) later))
          → All (EndsBefore r p (cond b (Some i) (first_end r (i + 1) later))) (runs_from (i + 1) later)
      by true k on = ends_at r p i _ (start_from (i + 1) later)
      by false k on = on k

there_now : (r : RequestId) (p : Place) (going : List Going) → list_any (is_there r p) (going ++ record { request = r; place = p } ∷ []) ≡ true
there_now r p going =
    any_pushed (is_there r p) going (record { request = r; place = p })
    (and_from (r.number == r.number) _ (eq-eqb r.number r.number refl) (and_from (p.manager == p.manager) (p.number == p.number) (eq-eqb p.manager p.manager refl) (eq-eqb p.number p.number refl)))

concerns : (r : RequestId) (p : Place) (i : ℕ) (to : Option ℕ) (runs : List Run) → All (EndsBefore r p to) runs → All (IsApart (record { request = r; place = p; from = i; to = to })) runs
unfolding EndsBefore IsApart
concerns r p i to runs h = h

apart_from : (rows : List Row) (events : List Event) (going : List Going) (n i : ℕ) → fault_from rows going n events ≡ None → AllPairs IsApart (runs_from i events)
unfolding runs_from
apart_from rows [] going n i fine = pairs_nil IsApart
apart_from rows (event.Tick t ∷ later) going n i fine = apart_from rows later (going_after going (event.Tick t)) (n + 1) (i + 1) (fine_here rows going n (event.Tick t) later fine).1
apart_from rows (event.Command m ∷ later) going n i fine = apart_from rows later (going_after going (event.Command m)) (n + 1) (i + 1) (fine_here rows going n (event.Command m) later fine).1
apart_from rows (event.OpenSet s ∷ later) going n i fine = apart_from rows later (going_after going (event.OpenSet s)) (n + 1) (i + 1) (fine_here rows going n (event.OpenSet s) later fine).1
apart_from rows (event.Stage s m ∷ later) going n i fine = apart_from rows later (going_after going (event.Stage s m)) (n + 1) (i + 1) (fine_here rows going n (event.Stage s m) later fine).1
apart_from rows (event.CloseSet s o ∷ later) going n i fine = apart_from rows later (going_after going (event.CloseSet s o)) (n + 1) (i + 1) (fine_here rows going n (event.CloseSet s o) later fine).1
apart_from rows (event.LetOut q ∷ later) going n i fine = apart_from rows later (going_after going (event.LetOut q)) (n + 1) (i + 1) (fine_here rows going n (event.LetOut q) later fine).1
apart_from rows (event.Ended q o x ∷ later) going n i fine = apart_from rows later (going_after going (event.Ended q o x)) (n + 1) (i + 1) (fine_here rows going n (event.Ended q o x) later fine).1
apart_from rows (event.Resume ∷ later) going n i fine = apart_from rows later (going_after going event.Resume) (n + 1) (i + 1) (fine_here rows going n event.Resume later fine).1
apart_from rows (event.Interrupt q ∷ later) going n i fine = apart_from rows later (going_after going (event.Interrupt q)) (n + 1) (i + 1) (fine_here rows going n (event.Interrupt q) later fine).1
apart_from rows (event.Started q s ∷ later) going n i fine =
    let here = fine_here rows going n (event.Started q s) later fine in
    pairs_cons IsApart _ _ (concerns q (place_of s) i _ _ (ends_before rows later (going_after going (event.Started q s)) (n + 1) (i + 1) q (place_of s) here.1 (there_now q (place_of s) going)))
    (apart_from rows later (going_after going (event.Started q s)) (n + 1) (i + 1) here.1)

-- the runs of events with which nothing is wrong
pub judged_apart : (rows : List Row) (events : List Event) → fault_from rows [] 1 events ≡ None → AreApart (runs_of events)
unfolding IsApart
judged_apart rows events fine = apart_from rows events [] 1 0 fine
