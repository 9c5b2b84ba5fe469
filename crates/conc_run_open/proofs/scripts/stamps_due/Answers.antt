use Rattle.std.proofs.Common.{◌≡◌, ◌+◌, ◌++◌, ◌∷◌, [], ℕ, List, Option, Some, refl, sym, ◌∙◌, ap, map, subst, take}
use Rattle.std.specs.Prelude.{slice_get, unwrap_or}
use Rattle.std.proofs.lemmas.List.{take_all}
use Rattle.std.proofs.lemmas.Option.{slice_get_read}
use Rattle.conc_types.specs.declared.event.Event.{Event}
use Rattle.conc_types.specs.declared.event.Event.TheVariants as event
use Rattle.conc_run_state.specs.Inputs.{AreStampsOf}
use Rattle.conc_run_open.proofs.Scripting.{no-command, stamps-take-more, stamps-take-same}
use Rattle.conc_run_open.proofs.Standing.{stands}
use Rattle.conc_run_open.proofs.scripts.stamps_due.Goals as goal
use Rattle.conc_run_open.proofs.scripts.stamps_due.Goals.{in-Command+in_ok-push, in_default}

pub loop-event-init : goal.loop-event-init
loop-event-init c = sym (ap (map (λ (n : ℕ). Some n)) c.new-stamps.ensures.items)

pub loop-event-preserved : goal.loop-event-preserved
loop-event-preserved c =
    let plan = c.args.plan.now in
    let events = c.args.events.now in
    let i = c.loop-event.event-index in
    let item : slice_get events i ≡ Some c.event-item.result = slice_get_read events _ i c.event-item.result refl c.loop-event-test.true c.event-item.is in
    elim c.match-event.branch [
      | in-Command+in_ok-push w ↦
          let here : slice_get events i ≡ Some (event.Command w.in-Command.number) = item ∙ ap (λ (e : Event). Some e) w.in-Command.is in
          let stamp = stands plan events i w.in-Command.number c.requires here in
          let known : w.unwrap_or.result ≡ stamp.0 = w.unwrap_or.ensures ∙ ap (λ (o : Option ℕ). unwrap_or o 0) (w.stamp.ensures ∙ stamp.1) in
          let pushed : c.match-event.stamps.items ≡ c.loop-event.stamps.items ++ stamp.0 ∷ [] = ap (λ s. s.items) w.stamps-is ∙ w.in_ok-push.ensures.items ∙ ap (λ (n : ℕ). c.loop-event.stamps.items ++ n ∷ []) known in
          subst (AreStampsOf plan (take (i + 1) events)) (sym pushed) (stamps-take-more plan events c.loop-event.stamps.items i w.in-Command.number stamp.0 here c.loop-event.invariant stamp.1)
      | in_default w ↦ subst (AreStampsOf plan (take (i + 1) events)) (sym (ap (λ s. s.items) w.stamps-is)) (stamps-take-same plan events c.loop-event.stamps.items i c.event-item.result item c.loop-event.invariant (no-command c.event-item.result w.in_default.not-Command).1)
    ]

pub returns : goal.returns
returns c = subst (λ (l : List Event). AreStampsOf c.args.plan.now l c.loop-event.stamps.items) (take_all c.loop-event.event-index c.args.events.now c.loop-event-test.false) c.loop-event.invariant
