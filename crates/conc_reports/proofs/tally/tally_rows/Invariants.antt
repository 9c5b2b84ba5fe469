use Rattle.conc_reports.specs.Figures.{figures_at, shown}
use Rattle.conc_reports.specs.Tallies.{IsTally, passing_below}
use Rattle.conc_reports.proofs.tally.tally_rows.Given as goal

abbrev pub invariant-loop-row : goal.invariant-loop-row
invariant-loop-row l =
    IsTally l.job.sum l.job.group l.table (passing_below l.job l.argument l.table l.row) (shown l.tally.total) (figures_at l.tally.groups)
