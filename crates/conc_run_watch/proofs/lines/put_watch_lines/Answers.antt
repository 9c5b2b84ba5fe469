use Rattle.std.proofs.Common.{◌∙◌, ap, arith}
use Rattle.conc_run_watch.proofs.Lined.{text_more}
use Rattle.conc_run_watch.proofs.lines.put_watch_lines.Goals as goal

pub loop-i-preserved : goal.loop-i-preserved
loop-i-preserved c =
    let list = c.index-kept-i.result in
    text_more (λ v. v.items) c.args.out.now.items c.loop-i.out.items c.put_lines.new.out.items c.args.kept.now c.loop-i.i list c.as_slice.result.now
    (omega arith) (c.as_slice.ensures.value ∙ ap (λ v. v.items) c.index-kept-i.is) c.loop-i.invariant c.in_ok-put_lines.ensures
