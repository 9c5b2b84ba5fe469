-- The stages of a set that have begun are those whose event stands.
use Rattle.std.proofs.Common.{◌≡◌, ℕ, ◌<◌, ◌-◌, ◌^◌, Bool, true, false, ◌&&◌, ◌||◌, ◌==◌, List, [], ◌∷◌, refl, sym, ◌∙◌, ap, inl, inr, arith}
use Rattle.std.specs.Prelude.{bit_or}
use Rattle.std.specs.Bool.{then_some}
use Rattle.std.specs.Int.{bit_at}
use Rattle.std.specs.Option.{option_map_or}
use Rattle.std.proofs.lemmas.Bool.{and_parts, and_right, cases_Bool, cond-false, cond-true, eq-eqb, eqb-false, eqb-true, leb-true}
use Rattle.std.proofs.lemmas.Nat.Bits.{bit_at-lt, bit_at-pow_other, bit_at-pow_same, bit_at-zero, bit_at_or}
use Rattle.conc_types.specs.declared.event.Event.{Event}
use Rattle.conc_types.specs.declared.event.Event.TheVariants as event
use Rattle.conc_types.specs.declared.event.RequestId.{RequestId}
use Rattle.conc_types.specs.Stages.{has_bit, has_stage, with_stage}
use Rattle.conc_types.specs.Words.{is_between}
use Rattle.conc_base_law.specs.Facts.{stages_begun}
use Rattle.conc_base_law.specs.Kinds.{begins_stage, stage_begun_by}
use Rattle.conc_base_law.specs.Before.{occurs}
use Rattle.conc_base_law.specs.Words.{id_eq}

-- ---- bits

-- the bit that is set is set
bit_at-or_same : (bits i : ℕ) → bit_at (bit_or bits (2 ^ i)) i ≡ 1
bit_at-or_same bits i =
    let one : bit_at (2 ^ i) i ≡ 1 = bit_at-pow_same i in
    let small : bit_at bits i < 2 = bit_at-lt bits i in
    bit_at_or bits (2 ^ i) i ∙ omega arith

-- each other bit is kept
bit_at-or_other : (bits k i : ℕ) → (i ≡ k → ⊥) → bit_at (bit_or bits (2 ^ k)) i ≡ bit_at bits i
bit_at-or_other bits k i other =
    let none : bit_at (2 ^ k) i ≡ 0 = bit_at-pow_other k i other in
    bit_at_or bits (2 ^ k) i ∙ omega arith

-- ---- sets of stages

-- within 1 to 64 a set of stages has the stages of its bits
has_stage-bit : (bits stage : ℕ) → is_between 1 64 stage ≡ true → has_stage bits stage ≡ has_bit bits (stage - 1)
unfolding has_stage
has_stage-bit bits stage h = ap (λ b. b && has_bit bits (stage - 1)) h

-- a stage from 1 to 64 sets its bit
with_stage-in : (bits k : ℕ) → is_between 1 64 k ≡ true → with_stage bits k ≡ bit_or bits (2 ^ (k - 1))
unfolding with_stage
with_stage-in bits k h = cond-true (is_between 1 64 k) _ _ h

-- any other stage changes nothing
with_stage-out : (bits k : ℕ) → is_between 1 64 k ≡ false → with_stage bits k ≡ bits
unfolding with_stage
with_stage-out bits k h = cond-false (is_between 1 64 k) _ _ h

-- a set with a stage has the stage
has_stage-with_same : (bits stage : ℕ) → is_between 1 64 stage ≡ true → has_stage (with_stage bits stage) stage ≡ true
has_stage-with_same bits stage h =
    has_stage-bit (with_stage bits stage) stage h ∙ ap (λ n. has_bit n (stage - 1)) (with_stage-in bits stage h)
    ∙ eq-eqb _ _ (bit_at-or_same bits (stage - 1))

-- a set with one stage more has no other stage more
has_stage-with_other : (bits k stage : ℕ) → is_between 1 64 stage ≡ true → (k == stage) ≡ false → has_stage (with_stage bits k) stage ≡ has_stage bits stage
has_stage-with_other bits k stage h other = elim (cases_Bool (is_between 1 64 k)) [
  | inl within ↦
      let a : (_ ≡ true) × (_ ≡ true) = and_parts _ _ h in
      let b : (_ ≡ true) × (_ ≡ true) = and_parts _ _ within in
      let c = leb-true 1 stage a.0 in
      let d = leb-true 1 k b.0 in
      let apart : stage - 1 ≡ k - 1 → ⊥ = λ e. eqb-false k stage other (omega arith) in
      has_stage-bit (with_stage bits k) stage h ∙ ap (λ n. has_bit n (stage - 1)) (with_stage-in bits k within)
      ∙ ap (λ n. n == 1) (bit_at-or_other bits (k - 1) (stage - 1) apart) ∙ sym (has_stage-bit bits stage h)
  | inr without ↦ ap (λ n. has_stage n stage) (with_stage-out bits k without)
]

-- a set of stages with one more
pub has_stage-with : (bits k stage : ℕ) → is_between 1 64 stage ≡ true → has_stage (with_stage bits k) stage ≡ ((k == stage) || has_stage bits stage)
has_stage-with bits k stage h = elim (cases_Bool (k == stage)) [
  | inl same ↦
      ap (λ n. has_stage (with_stage bits n) stage) (eqb-true k stage same) ∙ has_stage-with_same bits stage h
      ∙ sym (ap (λ b. b || has_stage bits stage) same)
  | inr other ↦ has_stage-with_other bits k stage h other ∙ sym (ap (λ b. b || has_stage bits stage) other)
]

-- ---- events

-- a set of stages to which a test adds a stage or not
has_stage-then : (bits k stage : ℕ) (b : Bool) → is_between 1 64 stage ≡ true
    → has_stage (option_map_or (λ n. with_stage bits n) (then_some b k) bits) stage ≡ ((b && k == stage) || has_stage bits stage)
has_stage-then bits k stage true h = has_stage-with bits k stage h
has_stage-then bits k stage false h = refl

-- the empty set has no stage
has_stage-zero : (stage : ℕ) → has_stage 0 stage ≡ false
unfolding has_stage
has_stage-zero stage = and_right (is_between 1 64 stage) _ (ap (λ n. n == 1) (bit_at-zero (stage - 1)))

-- one event begins its stage, and no other
has_stage-event : (bits : ℕ) (set : RequestId) (stage : ℕ) (e : Event) → is_between 1 64 stage ≡ true
    → has_stage (option_map_or (λ n. with_stage bits n) (stage_begun_by set e) bits) stage ≡ (begins_stage set stage e || has_stage bits stage)
has_stage-event bits set stage (event.Stage s k) h = has_stage-then bits k stage (id_eq s set) h
has_stage-event bits set stage _ h = refl

-- the stages of a set that have begun are those whose event stands
pub stages_begun-occur : (past : List Event) (set : RequestId) (stage : ℕ) → is_between 1 64 stage ≡ true
    → has_stage (stages_begun past set) stage ≡ occurs (begins_stage set stage) past
unfolding stages_begun
stages_begun-occur [] set stage h = has_stage-zero stage
stages_begun-occur (e ∷ past) set stage h =
    has_stage-event (stages_begun past set) set stage e h
    ∙ ap (λ b. begins_stage set stage e || b) (stages_begun-occur past set stage h)
