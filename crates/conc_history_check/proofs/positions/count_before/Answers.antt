use Rattle.std.proofs.Common.{◌≡◌, ◌-◌, ◌+◌, ◌<◌, length, drop, Some, inl, inr, refl, sym, ◌∙◌, ap, arith}
use Rattle.std.specs.Prelude.{slice_get}
use Rattle.std.specs.List.{list_any}
use Rattle.std.proofs.lemmas.Bool.{cases_eq}
use Rattle.std.proofs.lemmas.Option.{slice_get_read}
use Rattle.conc_base_law.specs.Kinds.{is_resume}
use Rattle.conc_history_check.proofs.Anys.{any-end, any-later}
use Rattle.conc_history_check.proofs.LastLives.{before-none, before-some}
use Rattle.conc_history_check.proofs.positions.count_before.Goals as goal

pub loop-count-init : goal.loop-count-init
loop-count-init c = (omega arith, λ k past. any-end is_resume c.args.events.now k (omega (arith, past)))

pub loop-count-preserved : goal.loop-count-preserved
loop-count-preserved c =
    let n = c.loop-count.count in let events = c.args.events.now in
    let within : n - 1 < length events = omega (arith, c.loop-count-test.true, c.loop-count.invariant.0) in
    let at : slice_get events (n - 1) ≡ Some c.index-events-count.result = slice_get_read _ _ (n - 1) c.index-events-count.result refl within c.index-events-count.is in (
      omega (arith, c.loop-count.invariant.0),
      λ k past. elim (cases_eq k (n - 1)) [
        | inl same ↦
            ap (λ j. list_any is_resume (drop j events)) same
            ∙ (any-later is_resume events (n - 1) c.index-events-count.result at (sym c.is_resume.ensures ∙ c.if-not-is_resume.true)
            ∙ c.loop-count.invariant.1 (n - 1 + 1) (omega (arith, c.loop-count-test.true)))
        | inr other ↦ c.loop-count.invariant.1 k (omega (arith, past, other))
      ],
    )

pub returns-else-not-is_resume : goal.returns-else-not-is_resume
returns-else-not-is_resume c =
    let n = c.loop-count.count in let events = c.args.events.now in
    let within : n - 1 < length events = omega (arith, c.loop-count-test.true, c.loop-count.invariant.0) in
    let at : slice_get events (n - 1) ≡ Some c.index-events-count.result = slice_get_read _ _ (n - 1) c.index-events-count.result refl within c.index-events-count.is in
    before-some events n c.index-events-count.result (omega (arith, c.loop-count-test.true)) at (sym c.is_resume.ensures ∙ c.if-not-is_resume.false) c.loop-count.invariant.1

pub returns-after-loop-count : goal.returns-after-loop-count
returns-after-loop-count c = before-none c.args.events.now c.loop-count.count (omega (arith, c.loop-count-test.false)) c.loop-count.invariant.1
