-- A history is lawful where the event at each of its positions is.
use Rattle.std.proofs.Common.{◌≡◌, ◌⊎◌, ℕ, zero, suc, ◌+◌, ◌-◌, ◌≤◌, Bool, true, not, ◌&&◌, if◌then◌else◌, List, [], ◌∷◌, length, take, drop, reverse, IsTrue, Option, None, Some, refl, sym, ◌∙◌, ap, subst, inl, inr, arith}
use Rattle.std.specs.Prelude.{slice_get}
use Rattle.std.specs.Option.{option_map}
use Rattle.std.proofs.Math.Seq.{drop-length}
use Rattle.std.proofs.lemmas.Bool.{and_from, and_parts, ne_eqb}
use Rattle.std.proofs.lemmas.List.{take_all}
use Rattle.conc_types.specs.declared.event.Event.{Event}
use Rattle.conc_types.specs.declared.event.Event.TheVariants as event
use Rattle.conc_types.specs.declared.event.Moment.{Moment}
use Rattle.conc_types.specs.declared.facts.State.{State}
use Rattle.conc_types.specs.declared.plan.Plan.{Plan}
use Rattle.conc_types.specs.declared.script.Reading.{Reading}
use Rattle.conc_types.specs.Words.{some_and}
use Rattle.conc_base_law.specs.Kinds.{is_resume}
use Rattle.conc_base_law.specs.Law.{is_lawful, is_lawful_so_far, may_follow}
use Rattle.conc_base_law.specs.Next.{forced, is_allowed, may_come, obeys}
use Rattle.conc_base_law.specs.Readings.{next_reading}
use Rattle.conc_base_law.specs.State.{state}
use Rattle.conc_base_law.proofs.Positions.{reverse-push, slice_get-some, take-suc_at}
use Rattle.conc_history_check.specs.declared.findings.Findings.{Findings}
use Rattle.conc_history_check.specs.declared.prepared.Prepared.{Prepared}
use Rattle.conc_history_check.specs.Findings.{AreFindings, HasTaken}
use Rattle.conc_history_check.specs.Positions.{AreLawfulTo, is_lawful_at, known_before}

-- lawful, where the readings of the last life are known, or none are
abbrev lawful_by : Plan → Option (List Reading) → List Event → Bool
lawful_by plan None past = is_lawful_so_far plan past
lawful_by plan (Some readings) past = is_lawful plan readings past

-- no event is lawful
lawful_by-none : (plan : Plan) (known : Option (List Reading)) → lawful_by plan known [] ≡ true
unfolding is_lawful_so_far is_lawful
lawful_by-none plan None = refl
lawful_by-none plan (Some readings) = refl

-- one more event is lawful where it may follow lawful ones
lawful_by-cons : (plan : Plan) (known : Option (List Reading)) (e : Event) (past : List Event)
    → lawful_by plan known (e ∷ past) ≡ (lawful_by plan (if is_resume e then None else known) past && may_follow plan known past e)
unfolding is_lawful_so_far is_lawful
lawful_by-cons plan None event.Resume past = refl
lawful_by-cons plan None _ past = refl
lawful_by-cons plan (Some readings) event.Resume past = refl
lawful_by-cons plan (Some readings) _ past = refl

-- what is known before one more event
known_before-cons : (readings : List Reading) (e : Event) (later : List Event)
    → known_before readings (e ∷ later) ≡ (if is_resume e then None else known_before readings later)
unfolding known_before
known_before-cons readings event.Resume later = refl
known_before-cons readings _ later = refl

-- the events up to the position are lawful, by what is known there
abbrev lawful_to : Plan → List Reading → List Event → ℕ → Bool
lawful_to plan readings history n = lawful_by plan (known_before readings (drop n history)) (reverse (take n history))

-- the rest of the history begins with the event that stands there
drop_next : (history : List Event) (n : ℕ) (e : Event) → slice_get history n ≡ Some e → drop n history ≡ (e ∷ drop (suc n) history)
drop_next [] n e h = cc
drop_next (x ∷ history) zero e h = let same : x ≡ e = cc in ap (λ z. z ∷ history) same
drop_next (x ∷ history) (suc n) e h = drop_next history n e h

-- the event at a position that is not the first
is_lawful_at-suc : (plan : Plan) (readings : List Reading) (history : List Event) (n : ℕ)
    → is_lawful_at plan readings history (suc n)
    ≡ some_and (may_follow plan (known_before readings (drop (suc n) history)) (reverse (take n history))) (slice_get history n)
unfolding is_lawful_at
is_lawful_at-suc plan readings history n = let same : suc n - 1 ≡ n = omega arith in rw (ne_eqb (suc n) 0 (λ e. omega arith), same) refl

-- one position more
lawful_to-more : (plan : Plan) (readings : List Reading) (history : List Event) (n : ℕ) → suc n ≤ length history
    → lawful_to plan readings history (suc n) ≡ (lawful_to plan readings history n && is_lawful_at plan readings history (suc n))
lawful_to-more plan readings history n within = by (slice_get-some history n (omega arith)) where
  later : List Event
  later = drop (suc n) history

  by : (found : (e : Event) × (slice_get history n ≡ Some e))
      → lawful_to plan readings history (suc n) ≡ (lawful_to plan readings history n && is_lawful_at plan readings history (suc n))
  by (e, found) =
      ap (λ l. lawful_by plan (known_before readings later) (reverse l)) (take-suc_at history n e found)
      ∙ ap (lawful_by plan (known_before readings later)) (reverse-push (take n history) e)
      ∙ lawful_by-cons plan (known_before readings later) e (reverse (take n history))
      ∙ ap (λ k. lawful_by plan k (reverse (take n history)) && may_follow plan (known_before readings later) (reverse (take n history)) e)
      (sym (known_before-cons readings e later) ∙ sym (ap (known_before readings) (drop_next history n e found)))
      ∙ ap (λ b. lawful_to plan readings history n && b)
      (sym (is_lawful_at-suc plan readings history n ∙ ap (some_and (may_follow plan (known_before readings later) (reverse (take n history)))) found))

-- a number up to one more is up to it, or that
up_to_more : (i n : ℕ) → i ≤ suc n → (i ≤ n) ⊎ (i ≡ suc n)
up_to_more zero n h = inl (omega arith)
up_to_more (suc i) zero h = inr (omega arith)
up_to_more (suc i) (suc n) h = elim (up_to_more i n (omega arith)) [ inl a ↦ inl (omega arith) | inr b ↦ inr (omega arith) ]

-- events that are lawful are so at each position
each_position : (plan : Plan) (readings : List Reading) (history : List Event) (n : ℕ) → n ≤ length history
    → lawful_to plan readings history n ≡ true → AreLawfulTo plan readings history n
each_position plan readings history zero within h = λ i least most. absurd (omega arith)
each_position plan readings history (suc n) within h =
    let parts : (lawful_to plan readings history n ≡ true) × (is_lawful_at plan readings history (suc n) ≡ true) =
    and_parts _ _ (sym (lawful_to-more plan readings history n within) ∙ h) in
    λ i least most. elim (up_to_more i n most) [
      | inl below ↦ each_position plan readings history n (omega arith) parts.0 i least below
      | inr here ↦ subst (λ k. is_lawful_at plan readings history k ≡ true) (sym here) parts.1
    ]

-- events that are lawful at each position are lawful
by_positions : (plan : Plan) (readings : List Reading) (history : List Event) (n : ℕ) → n ≤ length history
    → AreLawfulTo plan readings history n → lawful_to plan readings history n ≡ true
by_positions plan readings history zero within h = lawful_by-none plan (known_before readings (drop zero history))
by_positions plan readings history (suc n) within h =
    lawful_to-more plan readings history n within
    ∙ and_from _ _
    (by_positions plan readings history n (omega arith) (λ i least most. h i least (omega arith)))
    (h (suc n) (omega arith) (omega arith))

-- the whole history
lawful_to-all : (plan : Plan) (readings : List Reading) (history : List Event)
    → lawful_to plan readings history (length history) ≡ is_lawful plan readings (reverse history)
unfolding known_before
lawful_to-all plan readings history =
    rw (drop-length history, take_all (length history) history (omega arith)) refl

pub lawful_positions : (plan : Plan) (readings : List Reading) (history : List Event)
    → is_lawful plan readings (reverse history) ≡ true → AreLawfulTo plan readings history (length history)
lawful_positions plan readings history h =
    each_position plan readings history (length history) (omega arith) (lawful_to-all plan readings history ∙ h)

pub positions_lawful : (plan : Plan) (readings : List Reading) (history : List Event)
    → AreLawfulTo plan readings history (length history) → is_lawful plan readings (reverse history) ≡ true
positions_lawful plan readings history h =
    sym (lawful_to-all plan readings history) ∙ by_positions plan readings history (length history) (omega arith) h

-- the event at an index may follow those before it where it may come by what is read of them
pub lawful_here : (plan : Plan) (readings : List Reading) (history : List Event) (i : ℕ) (f : Findings) (e : Event) (next : Option (Option Reading))
    → slice_get history i ≡ Some e → HasTaken plan (reverse (take i history)) f
    → next ≡ option_map (λ known. next_reading known (reverse (take i history))) (known_before readings (drop (suc i) history))
    → may_come plan f.state next e ≡ is_lawful_at plan readings history (suc i)
unfolding may_follow
lawful_here plan readings history i f e next at are known =
    ap (λ s. may_come plan s next e) are.state
    ∙ ap (λ n. may_come plan (state plan (reverse (take i history))) n e) known
    ∙ sym (is_lawful_at-suc plan readings history i
    ∙ ap (some_and (may_follow plan (known_before readings (drop (suc i) history)) (reverse (take i history)))) at)

-- ---- an event that is no tick, of which the next reading says nothing

allowed-next : (plan : Plan) (s : State) (next other : Option (Option Reading)) (e : Event) → ((t : Moment) → e ≡ event.Tick t → ⊥)
    → is_allowed plan s next e ≡ is_allowed plan s other e
unfolding is_allowed
allowed-next plan s next other (event.Tick t) h = absurd (h t refl)
allowed-next plan s next other (event.Started r p) h = refl
allowed-next plan s next other (event.Ended r o x) h = refl
allowed-next plan s next other _ h = refl

obeys-next : (plan : Plan) (s : State) (next other : Option (Option Reading)) (e : Event) (due : Option Event) → ((t : Moment) → e ≡ event.Tick t → ⊥)
    → obeys plan s next e due ≡ obeys plan s other e due
obeys-next plan s next other e None h = allowed-next plan s next other e h
obeys-next plan s next other e (Some due) h = refl

may_come-next : (plan : Plan) (s : State) (next other : Option (Option Reading)) (e : Event) → ((t : Moment) → e ≡ event.Tick t → ⊥)
    → may_come plan s next e ≡ may_come plan s other e
unfolding may_come
may_come-next plan s next other e h = ap (λ b. if is_resume e then not s.empty else b) (obeys-next plan s next other e (forced plan s) h)

pub lawful_without : (plan : Plan) (readings : List Reading) (history : List Event) (i : ℕ) (f : Findings) (e : Event) (next : Option (Option Reading))
    → slice_get history i ≡ Some e → HasTaken plan (reverse (take i history)) f → ((t : Moment) → e ≡ event.Tick t → ⊥)
    → may_come plan f.state next e ≡ is_lawful_at plan readings history (suc i)
lawful_without plan readings history i f e next at are h =
    may_come-next plan f.state next (option_map (λ known. next_reading known (reverse (take i history))) (known_before readings (drop (suc i) history))) e h
    ∙ lawful_here plan readings history i f e _ at are refl

-- ---- one position after the other

-- events that are lawful up to a position are so up to the next one, where the event there is
pub lawful_more : (plan : Plan) (readings : List Reading) (history : List Event) (n : ℕ) → AreLawfulTo plan readings history n
    → IsTrue (is_lawful_at plan readings history (n + 1)) → AreLawfulTo plan readings history (n + 1)
lawful_more plan readings history n before here = λ i least most. elim (up_to_more i n (omega arith)) [
  | inl below ↦ before i least below
  | inr this ↦ let same : n + 1 ≡ i = omega arith in subst (λ k. is_lawful_at plan readings history k ≡ true) same here
]

-- what is read of the events up to a position and of the one there is read of the events up to the next position
pub read_more : (plan : Plan) (prepared : Prepared) (history : List Event) (n : ℕ) (e : Event) (f : Findings) → slice_get history n ≡ Some e
    → AreFindings plan prepared (e ∷ reverse (take n history)) f → AreFindings plan prepared (reverse (take (n + 1) history)) f
read_more plan prepared history n e f found are =
    let next : suc n ≡ n + 1 = omega arith in
    subst (λ past. AreFindings plan prepared past f)
    (sym (ap reverse (take-suc_at history n e found) ∙ reverse-push (take n history) e) ∙ ap (λ k. reverse (take k history)) next) are
