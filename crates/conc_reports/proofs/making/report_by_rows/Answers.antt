use Rattle.std.proofs.Common.{◌≡◌, ◌∙◌, ap, subst, sym, Result, Ok, Err}
use Rattle.std.specs.Result.{IfOk, OnOk}
use Rattle.conc_base_law.specs.Report.{Report}
use Rattle.conc_reports.proofs.Texts.{report-bad, report-tally}
use Rattle.conc_reports.specs.Figures.{shown}
use Rattle.conc_reports.proofs.making.report_by_rows.Goals as goal

-- what an `Ok` holds, by a fact that stands beside it
with_fact : {T E X : Type 0} (r : Result T E) (f : T → X) (x y : X) (Q : Type 0) → IfOk r (λ made. f made ≡ x) → OnOk r Q → (Q → x ≡ y) → IfOk r (λ made. f made ≡ y)
with_fact (Ok made) f x y Q h q same = h ∙ same q
with_fact (Err e) f x y Q h q same = tt

pub returns-in-Bad-clause-outcome : goal.returns-in-Bad-clause-outcome
returns-in-Bad-clause-outcome c =
    let bad = rw c.in-Bad.is at c.in_ok-number.ensures in
    subst (λ (r : Report). IfOk c.bad_row.result (λ made. made.outcome ≡ r.outcome))
    (sym (report-bad c.args.job.now c.args.argument.now c.args.table.now c.in-Bad.number bad)) c.bad_row.ensures.outcome

pub returns-in-Bad-clause-text : goal.returns-in-Bad-clause-text
returns-in-Bad-clause-text c =
    let bad = rw c.in-Bad.is at c.in_ok-number.ensures in
    subst (λ (r : Report). IfOk c.bad_row.result (λ made. made.text ≡ r.text))
    (sym (report-bad c.args.job.now c.args.argument.now c.args.table.now c.in-Bad.number bad)) c.bad_row.ensures.text

pub returns-in-Whole-clause-outcome : goal.returns-in-Whole-clause-outcome
returns-in-Whole-clause-outcome c =
    let tally = c.in-Whole.tally in
    let whole = rw c.in-Whole.is at c.in_ok-number.ensures in
    with_fact c.report_of_tally.result _ _ _ _ c.report_of_tally.ensures.outcome c.report_of_tally.ensures.ordered
    (λ s. ap (λ (r : Report). r.outcome) (report-tally c.args.job.now c.args.argument.now c.args.table.now (shown tally.total) tally.groups whole s))

pub returns-in-Whole-clause-text : goal.returns-in-Whole-clause-text
returns-in-Whole-clause-text c =
    let tally = c.in-Whole.tally in
    let whole = rw c.in-Whole.is at c.in_ok-number.ensures in
    with_fact c.report_of_tally.result _ _ _ _ c.report_of_tally.ensures.text c.report_of_tally.ensures.ordered
    (λ s. ap (λ (r : Report). r.text) (report-tally c.args.job.now c.args.argument.now c.args.table.now (shown tally.total) tally.groups whole s))
