use Rattle.std.proofs.Common.{refl, arith, ◌∙◌}
use Rattle.conc_script.proofs.ReadLines.{reads_all, reads_fault, reads_more}
use Rattle.conc_script.proofs.clock.read_lines.Goals as goal

pub returns-in-Err-clause-err : goal.returns-in-Err-clause-err
returns-in-Err-clause-err c =
    let reads = rw c.in-Some.ensures.lines at c.loop-line.invariant in
    let before = rw c.deref.ensures.value at (c.copied.ensures ∙ c.last.ensures.value) in
    rw c.refused.ensures (refl, reads_fault _ _ _ _ c.in-Err.kind _ _ reads (omega arith) before c.in-Err.ensures.rules)

pub loop-line-preserved : goal.loop-line-preserved
loop-line-preserved c =
    let reads = rw c.in-Some.ensures.lines at c.loop-line.invariant in
    let before = rw c.deref.ensures.value at (c.copied.ensures ∙ c.last.ensures.value) in
    reads_more _ _ _ _ _ c.in-Ok.reading _ _ reads (omega arith) before c.in-Ok.ensures.ok c.in-Ok.ensures.rules c.in_ok-push-in-Ok.ensures.items

pub returns-clause-ok : goal.returns-clause-ok
returns-clause-ok c = reads_all _ _ (rw c.in_default.ensures.lines at c.loop-line.invariant)
