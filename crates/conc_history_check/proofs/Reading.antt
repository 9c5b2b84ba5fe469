-- What is read of one more event.
use Rattle.std.proofs.Common.{◌≡◌, List, ◌∷◌, arith, refl, ◌∙◌, ap}
use Rattle.conc_types.specs.declared.event.Event.{Event}
use Rattle.conc_types.specs.declared.event.Event.TheVariants as event
use Rattle.conc_types.specs.declared.plan.Plan.{Plan}
use Rattle.conc_base_law.specs.Before.{earlier_lives, last_life}
use Rattle.conc_base_law.specs.Readings.{ticks as ticks_of}
use Rattle.conc_base_law.specs.State.{now, state}
use Rattle.conc_event_effects.specs.Advance.{IsAfter}
use Rattle.conc_event_effects.proofs.NextState.{state-next}
use Rattle.conc_history_check.specs.declared.findings.Findings.{Findings}
use Rattle.conc_history_check.specs.Findings.{HasTaken, earlier_after, ticks_after}

earlier-next : (plan : Plan) (e : Event) (past : List Event)
    → earlier_after (state plan past).time (now (earlier_lives past)) e ≡ now (earlier_lives (e ∷ past))
unfolding state earlier_lives
earlier-next plan event.Resume past = refl
earlier-next plan _ past = refl

ticks-next : (e : Event) (past : List Event) → ticks_after (ticks_of past) e ≡ ticks_of (e ∷ past)
unfolding ticks_of last_life
ticks-next event.Resume past = refl
ticks-next (event.Tick t) past = omega arith
ticks-next _ past = refl

pub taken-next : (plan : Plan) (old new : Findings) (e : Event) (past : List Event) → IsAfter plan old.state new.state e
    → new.earlier ≡ earlier_after old.state.time old.earlier e → new.ticks ≡ ticks_after old.ticks e → HasTaken plan past old
    → HasTaken plan (e ∷ past) new
taken-next plan old new e past after earlier ticks are = record {
  state = state-next plan old.state new.state e past after are.state;
  earlier =
      earlier
      ∙ ap (λ s. earlier_after s.time old.earlier e) are.state
      ∙ ap (λ m. earlier_after (state plan past).time m e) are.earlier
      ∙ earlier-next plan e past;
  ticks = ticks ∙ ap (λ n. ticks_after n e) are.ticks ∙ ticks-next e past;
}
