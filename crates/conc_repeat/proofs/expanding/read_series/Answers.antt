use Rattle.std.proofs.Common.{refl, ◌∙◌, ap, sym, Some, arith}
use Rattle.conc_repeat.specs.declared.courses.Course.{Course}
use Rattle.conc_repeat.specs.Kept.{words_of}
use Rattle.conc_repeat.proofs.ReadSeries.{reads_all, reads_fault, reads_more, reads_none}
use Rattle.conc_repeat.proofs.expanding.read_series.Goals as goal

pub loop-row-init : goal.loop-row-init
loop-row-init c = reads_none _ _ c.new-all.ensures.items

pub returns-in-Err-clause-err : goal.returns-in-Err-clause-err
returns-in-Err-clause-err c =
    let reads = rw (c.in_ok-read.ensures.some c.if-branch.true) at c.loop-row.invariant in
    rw c.refused.ensures (refl, reads_fault _ _ _ _ _ _ c.in-Err.kind reads (omega arith) c.in-Err.ensures.rules)

pub loop-row-preserved : goal.loop-row-preserved
loop-row-preserved c =
    let reads = rw (c.in_ok-read.ensures.some c.if-branch.true) at c.loop-row.invariant in
    let judged = c.in-Ok.ensures in
    let series = c.in_ok-series-in-Ok.ensures in
    let times = ap (λ (x : Course). x.times) series.course in
    let total = c.from-commands.ensures in
    reads_more _ _ _ _ _ _ _ c.in_ok-series-in-Ok.series reads judged.rules (judged.course ∙ ap (λ (x : Course). Some x) (sym series.course))
    (ap words_of judged.fields ∙ sym series.words) (judged.times ∙ sym times) (omega (arith, judged.some, times)) (omega (arith, total, times))
    (omega (arith, judged.few, total)) c.in_ok-push-in-Ok.ensures.items

pub returns-clause-ok : goal.returns-clause-ok
returns-clause-ok c =
    let ends = c.in_ok-read.ensures.none c.if-branch.false in
    reads_all _ _ _ (rw ends.0 at c.loop-row.invariant)
