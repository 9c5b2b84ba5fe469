-- The submissions of a series, moment by moment, and those of all series.
use Rattle.std.proofs.Common.{◌≡◌, refl, ◌∙◌, ap, sym, ◌+◌, ◌<◌, ◌≤◌, ℕ, zero, suc, List, [], ◌∷◌, ◌++◌, All, length, get_or, map, take, append_assoc, arith}
use Rattle.std.specs.Prelude.{Option, None, Some}
use Rattle.std.specs.List.{filter_map, range_with_len}
use Rattle.std.proofs.lemmas.List.{append-nil, length-map, length-take, map-append, take_more}
use Rattle.std.proofs.lemmas.List.Elements.{All-map, filter_map-append}
use Rattle.conc_types.specs.declared.event.Moment.{Moment}
use Rattle.conc_repeat.specs.declared.courses.Course.{Course}
use Rattle.conc_repeat.specs.declared.dues.Due.{Due}
use Rattle.conc_repeat.specs.declared.series.Series.{Series}
use Rattle.conc_repeat.specs.Script.{dues_at, dues_from}
use Rattle.conc_repeat.specs.Series.{moment_in, moments_of}

abbrev pub due_at : ℕ → Moment → Due
due_at place at = record { at = at; series = place }

-- the submissions at the first moments of a series
unfoldable pub dues_before : ℕ → Course → ℕ → List Due
dues_before place c k = map (due_at place) (filter_map (moment_in c) (range_with_len 0 k))

range-more : (a n : ℕ) → range_with_len a (n + 1) ≡ range_with_len a n ++ (a + n) ∷ []
range-more a zero = let e : a + 0 ≡ a = omega arith in rw e refl
range-more a (suc n) =
    let next : suc n + 1 ≡ suc (n + 1) = omega arith in
    let last : a + 1 + n ≡ a + suc n = omega arith in
    rw next (ap (λ l. a ∷ l) (range-more (a + 1) n ∙ ap (λ k. range_with_len (a + 1) n ++ k ∷ []) last))

moments-more : (f : ℕ → Option Moment) (k : ℕ) (moments : List Moment) → filter_map f (k ∷ []) ≡ moments
    → filter_map f (range_with_len 0 (k + 1)) ≡ filter_map f (range_with_len 0 k) ++ moments
moments-more f k moments e =
    let last : 0 + k ≡ k = omega arith in
    ap (filter_map f) (range-more 0 k ∙ ap (λ n. range_with_len 0 k ++ n ∷ []) last)
    ∙ (filter_map-append f (range_with_len 0 k) (k ∷ []) ∙ ap (λ l. filter_map f (range_with_len 0 k) ++ l) e)

one-some : (f : ℕ → Option Moment) (k : ℕ) (at : Moment) → Some at ≡ f k → filter_map f (k ∷ []) ≡ at ∷ []
one-some f k at e = rw (← e) refl

one-none : (f : ℕ → Option Moment) (k : ℕ) → None ≡ f k → filter_map f (k ∷ []) ≡ []
one-none f k e = rw (← e) refl

pub none_pushed : (place : ℕ) (c : Course) (start : List Due) → start ≡ start ++ dues_before place c 0
unfolding dues_before
none_pushed place c start = sym (append-nil start)

pub one_pushed : (place : ℕ) (c : Course) (k : ℕ) (at : Moment) (start before now : List Due) → Some at ≡ moment_in c k → before ≡ start ++ dues_before place c k
    → now ≡ before ++ due_at place at ∷ [] → now ≡ start ++ dues_before place c (k + 1)
unfolding dues_before
one_pushed place c k at start before now some was is =
    let moments = moments-more (moment_in c) k (at ∷ []) (one-some (moment_in c) k at some) in
    let more : dues_before place c (k + 1) ≡ dues_before place c k ++ due_at place at ∷ [] =
    ap (map (due_at place)) moments ∙ map-append (due_at place) (filter_map (moment_in c) (range_with_len 0 k)) (at ∷ []) in
    is ∙ (ap (λ l. l ++ due_at place at ∷ []) was ∙ (append_assoc start (dues_before place c k) (due_at place at ∷ []) ∙ ap (λ l. start ++ l) (sym more)))

pub passed_over : (place : ℕ) (c : Course) (k : ℕ) (start now : List Due) → None ≡ moment_in c k → now ≡ start ++ dues_before place c k → now ≡ start ++ dues_before place c (k + 1)
unfolding dues_before
passed_over place c k start now none is =
    let moments = moments-more (moment_in c) k [] (one-none (moment_in c) k none) ∙ append-nil (filter_map (moment_in c) (range_with_len 0 k)) in
    is ∙ ap (λ l. start ++ map (due_at place) l) (sym moments)

pub all_pushed : (place : ℕ) (c : Course) (k : ℕ) (start now : List Due) → k ≤ c.times → c.times ≤ k → now ≡ start ++ dues_before place c k → now ≡ start ++ dues_at place (Some c)
unfolding dues_before
all_pushed place c k start now up down is =
    let same : k ≡ c.times = omega arith in
    is ∙ ap (λ n. start ++ dues_before place c n) same

-- ---- all series

abbrev pub course_kept : Series → Option Course
course_kept s = Some s.course

dues_from-more : (place : ℕ) (courses : List (Option Course)) (c : Option Course) → dues_from place (courses ++ c ∷ []) ≡ dues_from place courses ++ dues_at (place + length courses) c
unfolding dues_from
dues_from-more place [] c = let e : place + 0 ≡ place = omega arith in rw e (append-nil (dues_at place c))
dues_from-more place (d ∷ courses) c =
    let e : place + 1 + length courses ≡ place + suc (length courses) = omega arith in
    ap (λ l. dues_at place d ++ l) (dues_from-more (place + 1) courses c ∙ ap (λ n. dues_from (place + 1) courses ++ dues_at n c) e)
    ∙ sym (append_assoc (dues_at place d) (dues_from (place + 1) courses) (dues_at (place + suc (length courses)) c))

-- each is of the series at its place
pub of_series : (place n : ℕ) (c : Course) → place < n → All (λ (due : Due). due.series < n) (dues_at place (Some c))
of_series place n c within = All-map (λ (due : Due). due.series < n) (due_at place) (moments_of c) (λ k d h. within)

-- the submissions of the first series
unfoldable pub dues_to : List Series → ℕ → List Due
dues_to all n = dues_from 0 (map course_kept (take n all))

pub none_to : (all : List Series) (now : List Due) → now ≡ [] → now ≡ dues_to all 0
unfolding dues_to dues_from
none_to all now e = e

pub more_to : (all : List Series) (n : ℕ) (s : Series) (before now : List Due) → n < length all → get_or all n s ≡ s → before ≡ dues_to all n → now ≡ before ++ dues_at n (Some s.course)
    → now ≡ dues_to all (n + 1)
unfolding dues_to
more_to all n s before now within here was is =
    let front : take (n + 1) all ≡ take n all ++ s ∷ [] = take_more all n s within ∙ ap (λ x. take n all ++ x ∷ []) here in
    let long : length (map course_kept (take n all)) ≡ n = length-map (take n all) course_kept ∙ (length-take n all ∙ omega arith) in
    let place : 0 + length (map course_kept (take n all)) ≡ n = omega (arith, long) in
    is ∙ (ap (λ l. l ++ dues_at n (Some s.course)) was
    ∙ sym (ap (λ l. dues_from 0 (map course_kept l)) front
    ∙ (ap (dues_from 0) (map-append course_kept (take n all) (s ∷ []))
    ∙ (dues_from-more 0 (map course_kept (take n all)) (Some s.course) ∙ ap (λ k. dues_from 0 (map course_kept (take n all)) ++ dues_at k (Some s.course)) place))))

pub all_to : (all : List Series) (n : ℕ) (now : List Due) → length all ≤ n → now ≡ dues_to all n → now ≡ dues_from 0 (map course_kept all)
unfolding dues_to
all_to all n now end is = is ∙ ap (λ l. dues_from 0 (map course_kept l)) (take_all all n end)
  where
    take_all : (xs : List Series) (k : ℕ) → length xs ≤ k → take k xs ≡ xs
    take_all [] zero h = refl
    take_all [] (suc k) h = refl
    take_all (x ∷ xs) zero h = absurd (omega arith)
    take_all (x ∷ xs) (suc k) h = ap (λ l. x ∷ l) (take_all xs k (omega arith))
