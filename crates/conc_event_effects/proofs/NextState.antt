-- All that stands after one more event.
use Rattle.std.proofs.Common.{◌≡◌, ℕ, ◌+◌, ◌^◌, ◌≤◌, false, List, ◌∷◌, refl, ◌∙◌, ap, arith, inl, inr}
use Rattle.std.specs.Prelude.{nat_lt}
use Rattle.std.specs.Option.{option_and_then, option_or}
use Rattle.std.proofs.lemmas.Bool.{cases_Bool, le-ltb, ltb-false}
use Rattle.std.proofs.lemmas.List.Sums.{sum_by-cons}
use Rattle.conc_types.specs.declared.event.Event.{Event}
use Rattle.conc_types.specs.declared.facts.State.{State}
use Rattle.conc_types.specs.declared.plan.Plan.{Plan}
use Rattle.conc_base_law.specs.Kinds.{extent_length, tick_of}
use Rattle.conc_base_law.specs.State.{fitting, now, state, used}
use Rattle.conc_event_effects.specs.Advance.{IsAfter, all_after, done_after, named_by, named_facts, used_after}
use Rattle.conc_event_effects.proofs.AllFacts.{all_facts-step}
use Rattle.conc_event_effects.proofs.Flags.{done-step}

-- a sum fits where its part fits and it fits
fitting-add : (n k m : ℕ) → n + k ≡ m → option_and_then (λ i. fitting (i + k)) (fitting n) ≡ fitting m
fitting-add n k m e = elim (cases_Bool (nat_lt n (2 ^ 64))) [
  | inl t ↦ rw t (ap fitting e)
  | inr f ↦
      let large : 2 ^ 64 ≤ n = ltb-false n (2 ^ 64) f in
      let larger : nat_lt m (2 ^ 64) ≡ false = le-ltb m (2 ^ 64) (omega arith) in
      rw (f, larger) refl
]

-- the bytes of all extents, after one more event
used-step : (past : List Event) (e : Event) → used_after (fitting (used past)) e ≡ fitting (used (e ∷ past))
unfolding used
used-step past e = fitting-add (used past) (extent_length e) (used (e ∷ past))
    (omega (arith, sum_by-cons extent_length e past))

-- two with the same parts are the same
State-alike : (a b : State) → a.empty ≡ b.empty → a.time ≡ b.time → a.used ≡ b.used → a.done ≡ b.done → a.facts ≡ b.facts → a ≡ b
State-alike a b e n u d f = grind arith

-- what is after an event is the state after it
pub state-next : (plan : Plan) (old new : State) (e : Event) (past : List Event) → IsAfter plan old new e → old ≡ state plan past
    → new ≡ state plan (e ∷ past)
unfolding state now
state-next plan old new e past after is =
    State-alike new (state plan (e ∷ past))
    after.empty
    (after.time ∙ ap (λ s. option_or (tick_of e) s.time) is)
    (after.used ∙ ap (λ s. used_after s.used e) is ∙ used-step past e)
    (after.done ∙ ap (λ s. done_after s.done e) is ∙ done-step past e plan.script.commands)
    (after.facts
    ∙ ap (λ s. all_after plan (named_facts s.facts (named_by plan e)) e plan.requests s.facts) is
    ∙ all_facts-step plan past e)
