use Rattle.std.proofs.Common.{◌-◌, ◌≤◌, IfSome, length}
use Rattle.conc_journal_image.specs.Finding.{AreCounted, AreFirst}
use Rattle.conc_journal_image.specs.Layout.{offset_behind}
use Rattle.conc_journal.specs.Reading.{WasRead}
use Rattle.conc_journal.proofs.opened.find_records.Given as goal

-- the disk was only read, and the records that were found are the first ones
abbrev pub invariant-pieces : goal.invariant-pieces
invariant-pieces g l = record {
  read : WasRead (g.D.Disk.state l.fn.disk) (g.D.Disk.state l.disk);
  counted : AreCounted l.found;
  within : offset_behind (length l.found.events.items) ≤ l.end;
  first : IfSome (g.D.Disk.state l.fn.disk).seen (λ image. AreFirst image l.fn.found → AreFirst image l.found);
}

abbrev pub decreases-pieces : goal.decreases-pieces
decreases-pieces g l = 1048577 - length l.found.events.items
