use Rattle.std.proofs.Common.{◌≡◌, ◌++◌, map, take}
use Rattle.conc_run_watch.specs.Lines.{watch_text}
use Rattle.conc_run_watch.proofs.lines.put_watch_lines.Given as goal

abbrev pub invariant-loop-i : goal.invariant-loop-i
invariant-loop-i l = l.out.items ≡ l.initial.out.items ++ watch_text 1 (map (λ v. v.items) (take l.i l.kept))
