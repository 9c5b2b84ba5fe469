use Rattle.std.proofs.Common.{◌≡◌, length}
use Rattle.std.specs.List.{All}
use Rattle.conc_reports.specs.declared.figures.Figures.{Figures}
use Rattle.conc_reports.proofs.listing.Listed.none.Given as goal

abbrev pub invariant-loop : goal.invariant-loop
invariant-loop l = record {
  each : length l.by_number.items ≡ l.counter;
  none : All (λ (f : Figures). f.count ≡ 0) l.by_number.items;
}
