use Rattle.std.proofs.Common.{◌≡◌, take, true}
use Rattle.std.specs.List.{list_all}
use Rattle.conc_reports.specs.Sieves.{lets}
use Rattle.conc_reports.proofs.sieves.all_let.Given as goal

abbrev pub invariant-loop-sieve : goal.invariant-loop-sieve
invariant-loop-sieve l = list_all (lets l.table l.fn.row) (take l.sieve-index l.sieves) ≡ true
