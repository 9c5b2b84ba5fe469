-- What a line shows.
use Rattle.std.specs.Prelude.{List, drop}
use Rattle.left_right.specs.declared.Absorb.{Ghosts}
use Rattle.conc_view.specs.declared.line.Line.{Line}

module _ {T O S : Type 0} {g : Ghosts T O S} where
  -- the value that readers take
  abbrev pub shown : Line T O S g → T
  shown line = line.writer.desk.shown.value

  -- the changes that readers do not see yet
  abbrev pub pending : Line T O S g → List O
  pending line = drop line.writer.behind line.writer.log.items
