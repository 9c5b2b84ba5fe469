use Rattle.std.proofs.Common.{arith}
use Rattle.conc_run_watch.proofs.Lined.{lines_more}
use Rattle.conc_run_watch.proofs.lines.put_lines.Goals as goal

pub loop-snapshot-preserved : goal.loop-snapshot-preserved
loop-snapshot-preserved c =
    lines_more c.args.watcher c.args.out.now.items _ _ c.args.kept.now c.loop-snapshot.snapshot-index _ (omega arith) c.loop-snapshot.invariant
    c.in_ok-put_line.ensures
