use Rattle.std.proofs.Common.{◌≡◌, length}
use Rattle.conc_board.specs.Owners.{AreOwners}
use Rattle.conc_board.proofs.owners.owners_of.Given as goal

abbrev pub invariant-loop-index : goal.invariant-loop-index
invariant-loop-index l = record {
  count : length l.owners.items ≡ l.index;
  owners : AreOwners l.plan l.index l.owners.items;
}
