use Rattle.std.proofs.Common.{◌≡◌, ◌<◌, ℕ, false, get_or, length}
use Rattle.conc_types.specs.Kept.{cell_of}
use Rattle.conc_reports.specs.Checks.{meets}
use Rattle.conc_reports.proofs.sieves.verdicts_of.Given as goal

abbrev pub invariant-loop-sample : goal.invariant-loop-sample
invariant-loop-sample l = record {
  each : length l.verdicts.items ≡ l.sample-index;
  value : (number : ℕ) → number < l.sample-index → get_or l.verdicts.items number false ≡ meets l.fn.check (cell_of l.table.rows (get_or l.numbering.samples.items number 0) l.numbering.column);
}
