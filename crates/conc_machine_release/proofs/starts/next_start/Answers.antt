use Rattle.std.proofs.Common.{◌+◌, length, get_or, drop, ap, sym, ◌∙◌, arith}
use Rattle.conc_machine_release.specs.Starts.{next_from}
use Rattle.conc_machine_release.proofs.Alike.{next-from_end, next-from_more}
use Rattle.conc_machine_release.proofs.starts.next_start.Goals as goal

pub loop-r-preserved : goal.loop-r-preserved
loop-r-preserved c =
    ap (λ n. next_from c.args.now n (drop (c.loop-r.r-index + 1) c.args.plan.now.requests)) c.earlier-best.ensures
    ∙ next-from_more c.args.now c.loop-r.best c.args.plan.now.requests c.loop-r.r-index c.r-item.result
    (omega (arith, c.loop-r-test.true, ap length c.as_slice-r-items.ensures))
    (c.r-item.is ∙ ap (λ l. get_or l c.loop-r.r-index c.r-item.result) c.as_slice-r-items.ensures)
    ∙ c.loop-r.invariant

pub returns : goal.returns
returns c =
    sym (next-from_end c.args.now c.loop-r.best c.args.plan.now.requests c.loop-r.r-index (omega (arith, c.loop-r-test.false, ap length c.as_slice-r-items.ensures)))
    ∙ c.loop-r.invariant
