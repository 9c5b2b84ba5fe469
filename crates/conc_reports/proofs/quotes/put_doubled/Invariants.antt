use Rattle.std.proofs.Common.{◌≡◌, ◌++◌, drop}
use Rattle.conc_base_law.specs.Report.{doubled}
use Rattle.conc_reports.proofs.quotes.put_doubled.Given as goal

abbrev pub invariant-loop-byte : goal.invariant-loop-byte
invariant-loop-byte l = l.out.items ++ doubled (drop l.byte-index l.key)
    ≡ l.fn.out.items ++ doubled l.key
