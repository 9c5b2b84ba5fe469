use Rattle.std.proofs.Common.{◌≡◌, ◌++◌, take}
use Rattle.conc_run_watch.specs.Lines.{lines_of}
use Rattle.conc_run_watch.proofs.lines.put_lines.Given as goal

abbrev pub invariant-loop-snapshot : goal.invariant-loop-snapshot
invariant-loop-snapshot l = l.out.items ≡ l.initial.out.items ++ lines_of l.watcher (take l.snapshot-index l.kept)
