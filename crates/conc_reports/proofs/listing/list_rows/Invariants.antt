use Rattle.conc_reports.specs.Listings.{keys_by}
use Rattle.conc_reports.proofs.SoFar.{IsSoFar}
use Rattle.conc_reports.proofs.listing.list_rows.Given as goal

abbrev pub invariant-loop-row : goal.invariant-loop-row
invariant-loop-row l =
    IsSoFar l.job l.argument l.table (keys_by l.table.rows l.fn.numbering) l.row l.listed.total l.listed.by_number.items
