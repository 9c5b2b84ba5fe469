use Rattle.std.proofs.Common.{take}
use Rattle.conc_reports.specs.Listings.{StandsFor, keys_of}
use Rattle.conc_reports.proofs.listing.groups_of.Given as goal

abbrev pub invariant-loop-number : goal.invariant-loop-number
invariant-loop-number l =
    StandsFor (take l.number (keys_of l.table.rows l.numbering)) (take l.number l.by_number) l.groups
