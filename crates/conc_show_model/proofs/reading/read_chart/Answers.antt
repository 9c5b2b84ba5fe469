use Rattle.std.proofs.Common.{◌≡◌, sym, ◌∙◌, ap, subst, List, ◌<◌}
use Rattle.std.specs.Prelude.{AllPairs, None}
use Rattle.std.proofs.lemmas.Grind.{merely}
use Rattle.std.proofs.lemmas.Result.{err_from_is_err_and}
use Rattle.conc_types.specs.declared.event.Event.{Event}
use Rattle.conc_show_model.specs.declared.model.Row.{Row}
use Rattle.conc_show_model.specs.declared.model.Run.{Run}
use Rattle.conc_show_model.specs.Judging.{events_fault}
use Rattle.conc_show_model.specs.Runs.{AreApart, runs_of}
use Rattle.conc_show_model.specs.Whys.{IsFailure}
use Rattle.conc_show_model.proofs.Apart.{judged_apart}
use Rattle.conc_show_model.proofs.Charted.{events_failure}
use Rattle.conc_show_model.proofs.Rising.{rows_rise}
use Rattle.conc_show_model.proofs.reading.read_chart.Goals as goal

pub returns-in_err-judge-clause-err : goal.returns-in_err-judge-clause-err
returns-in_err-judge-clause-err c =
    let p = err_from_is_err_and c.from_residual-in_err-judge.result c.from_residual-in_err-judge.ensures.1 in
    let Fails : List Row → List Event → Type 0 = λ (rows : List Row) (events : List Event). IsFailure (events_fault rows events) c.in_err-judge.field-0.0 in
    let with_rows : Fails c.in_ok-rows.rows.items c.as_slice-2.result.now = subst (λ (rows : List Row). Fails rows c.as_slice-2.result.now) c.as_slice.ensures.value c.in_err-judge.ensures.err in
    let with_events : Fails c.in_ok-rows.rows.items c.in_ok-lines.lines.events = subst (λ (events : List Event). Fails c.in_ok-rows.rows.items events) c.as_slice-2.ensures with_rows in
    rw (p.1, p.2)
    (events_failure c.args.history.now c.first_places.result.now c.skip.result.now c.in_ok-lines.lines c.in_ok-rows.rows.items c.len-count.result _ c.first_places.ensures c.in_ok-lines.ensures
    c.in_default.not-Some c.skip.ensures c.len-count.ensures c.in_ok-rows.ensures.ok c.in_ok-rows.ensures.rows with_events)

pub invariant_of-result-clause-runs_are : goal.invariant_of-result-clause-runs_are
invariant_of-result-clause-runs_are c = c.from_vec-2.ensures ∙ (c.in_ok-runs.ensures ∙ ap runs_of c.as_slice-3.ensures)

pub invariant_of-result-clause-apart : goal.invariant_of-result-clause-apart
invariant_of-result-clause-apart c =
    let fine : events_fault c.as_slice.result.now c.as_slice-2.result.now ≡ None = c.in_ok-judge.ensures.ok in
    let are : c.from_vec-2.result ≡ runs_of c.as_slice-2.result.now = c.from_vec-2.ensures ∙ (c.in_ok-runs.ensures ∙ ap runs_of (c.as_slice-3.ensures ∙ sym c.as_slice-2.ensures)) in
    merely (subst (λ (runs : List Run). AreApart runs) (sym are) (judged_apart c.as_slice.result.now c.as_slice-2.result.now fine))

pub invariant_of-result-clause-rising : goal.invariant_of-result-clause-rising
invariant_of-result-clause-rising c =
    let are = c.from_vec.ensures ∙ c.in_ok-rows.ensures.rows in
    subst (λ (rows : List Row). AllPairs (λ (a b : Row). a.request.number < b.request.number) rows) (sym are) (rows_rise _ 0)
