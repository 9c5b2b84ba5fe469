use Rattle.std.proofs.Common.{◌≡◌, ◌≤◌, take}
use Rattle.conc_outside.specs.Files.{IsLater}
use Rattle.conc_top_inputs.proofs.FileFailing.{AreRead}
use Rattle.conc_top_inputs.proofs.reading.read_tables.Given as goal

abbrev pub invariant-loop-name : goal.invariant-loop-name
invariant-loop-name g l =
    let state = g.F.Shelf.state in
    record {
      number : l.number ≡ l.name-index;
      later : IsLater (state l.fn.shelf) (state l.shelf);
      fit : l.progress.bytes ≤ 134217728;
      read : AreRead (state l.fn.shelf).files (take l.name-index l.names) l.tables.items l.progress.bytes l.fn.digest l.progress.digest;
    }
