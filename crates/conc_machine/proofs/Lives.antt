-- The readings of a life that begins, and after one more event.
use Rattle.std.proofs.Common.{◌≡◌, ℕ, zero, suc, ◌+◌, ◌≤◌, List, [], ◌∷◌, length, drop, min, Option, None, Some, refl, sym, ◌∙◌, ap, inl, inr, arith}
use Rattle.std.specs.Prelude.{slice_get}
use Rattle.std.specs.List.{filter, filter_map}
use Rattle.std.proofs.Math.Nat.{min-eq_left, min-eq_right}
use Rattle.std.proofs.lemmas.Bool.{cases_lt, ltb-false}
use Rattle.std.specs.Option.{option_copied}
use Rattle.std.specs.Slice.{IsItemAt}
use Rattle.std.proofs.lemmas.Option.{slice_get_past, slice_get_read}
use denote.Ref.{Bor}
use Rattle.conc_types.specs.declared.event.Event.{Event}
use Rattle.conc_types.specs.declared.event.Event.TheVariants as event
use Rattle.conc_types.specs.declared.event.Moment.{Moment}
use Rattle.conc_base_law.specs.Kinds.{tick_of}
use Rattle.conc_base_law.specs.Before.{earlier_lives, last_life}
use Rattle.conc_base_law.specs.Readings.{life_readings, next_reading, ticks}
use Rattle.conc_base_law.specs.State.{is_not_earlier, now}
use Rattle.conc_machine.specs.declared.life.LifeReadings.{LifeReadings}
use Rattle.conc_machine.specs.LifeReadings.{AreLifeReadings}

-- where a life begins, the last tick came before it
begins-now : (past : List Event) → last_life past ≡ [] → now (earlier_lives past) ≡ now past
unfolding now last_life earlier_lives
begins-now [] none = refl
begins-now (event.Resume ∷ past) none = refl
begins-now (_ ∷ past) none = cc

-- a life begins with the readings behind those that are earlier than the last tick
pub life_begins : (life : LifeReadings) (past : List Event) (time : Option Moment) → time ≡ now past → last_life past ≡ []
    → life.next ≤ length life.readings.list
    → filter (λ q. is_not_earlier time q.moment) life.readings.list ≡ drop life.next life.readings.list → AreLifeReadings life past
unfolding life_readings ticks
life_begins life past time same none few behind =
    let taken : length (filter_map tick_of (last_life past)) ≡ 0 = ap (λ l. length (filter_map tick_of l)) none in
    record {
      skipped = life.next;
      rest = ap (λ t. filter (λ q. is_not_earlier t q.moment) life.readings.list) (begins-now past none ∙ sym same) ∙ behind;
      next = sym (min-eq_left (omega arith) ∙ omega arith);
    }

-- a resume begins one
pub life_resumed : (life : LifeReadings) (past : List Event) (time : Option Moment) → time ≡ now past → life.next ≤ length life.readings.list
    → filter (λ q. is_not_earlier time q.moment) life.readings.list ≡ drop life.next life.readings.list → AreLifeReadings life (event.Resume ∷ past)
unfolding now last_life
life_resumed life past time same few behind = life_begins life (event.Resume ∷ past) time same refl few behind

-- a tick takes one reading, if one is left
pub life_ticked : (life : LifeReadings) (n : ℕ) (t : Moment) (past : List Event) → n ≡ min (life.next + 1) (length life.readings.list)
    → AreLifeReadings life past → AreLifeReadings record { readings = life.readings; next = n } (event.Tick t ∷ past)
unfolding life_readings ticks earlier_lives last_life
life_ticked life n t past is before = record {
  skipped = before.skipped;
  rest = before.rest;
  next = omega arith;
}

-- any other event takes none
pub life_same : (life : LifeReadings) (e : Event) (past : List Event) → ((t : Moment) → e ≡ event.Tick t → ⊥) → (e ≡ event.Resume → ⊥) → AreLifeReadings life past
    → AreLifeReadings life (e ∷ past)
unfolding life_readings ticks earlier_lives last_life
life_same life (event.Tick t) past no_tick no_resume before = absurd (no_tick t refl)
life_same life event.Resume past no_tick no_resume before = absurd (no_resume refl)
life_same life _ past no_tick no_resume before = record { skipped = before.skipped; rest = before.rest; next = before.next }

-- an element of what is left behind the first ones
slice_get-drop : {X : Type 0} (k : ℕ) (xs : List X) (n : ℕ) → slice_get (drop k xs) n ≡ slice_get xs (k + n)
slice_get-drop zero xs n = ap (slice_get xs) (omega arith)
slice_get-drop (suc k) [] n = refl
slice_get-drop (suc k) (x ∷ xs) n =
    let next : suc k + n ≡ suc (k + n) = omega arith in
    slice_get-drop k xs n ∙ sym (ap (slice_get (x ∷ xs)) next)

-- beyond the end there is none
slice_get-min : {X : Type 0} (xs : List X) (i : ℕ) → slice_get xs (min i (length xs)) ≡ slice_get xs i
slice_get-min xs i = elim (cases_lt i (length xs)) [
  | inl lt ↦ ap (slice_get xs) (min-eq_left (omega arith))
  | inr ge ↦ ap (slice_get xs) (min-eq_right ge) ∙ slice_get_past xs (length xs) (omega arith) ∙ sym (slice_get_past xs i ge)
]

-- the next reading stands where the life says
pub life_next : (life : LifeReadings) (past : List Event) → AreLifeReadings life past → slice_get life.readings.list life.next ≡ next_reading life.readings.list past
unfolding next_reading
life_next life past is =
    ap (slice_get life.readings.list) is.next
    ∙ slice_get-min life.readings.list (is.skipped + ticks past)
    ∙ sym (slice_get-drop is.skipped life.readings.list (ticks past))
    ∙ sym (ap (λ l. slice_get l (ticks past)) is.rest)

-- what a slice lends at a place, copied
pub copied_at : {X : Type 0} (xs : List X) (i : ℕ) (r : Option (Bor X)) → IsItemAt xs i r → option_copied r ≡ slice_get xs i
copied_at xs i None h = sym (slice_get_past xs i (ltb-false i (length xs) (sym h.0)))
copied_at xs i (Some x) h = sym (slice_get_read xs (length xs) i x.now refl h.3.0 h.1)
