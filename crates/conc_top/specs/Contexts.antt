-- What a command works on, before and after it.
use Rattle.std.specs.Prelude.{◌≡◌}
use Rattle.conc_edge_clock.specs.Clocks.{ClockState}
use Rattle.conc_outside.specs.Files.{IsLater}
use Rattle.conc_outside.specs.declared.shelf.Shelf.{Ghosts as ShelfGhosts}
use Rattle.conc_outside.specs.declared.sink.Sink.{Ghosts as SinkGhosts}
use Rattle.conc_top.specs.declared.context.Context.{Context}
use Rattle.conc_top.specs.Answers.{Around, around}
use Rattle.conc_top.specs.Printing.{sunk}

-- it works on the same shelf and the same sink, and the shelf has gone on
pub record Continues {F O : Type 0} (s : ShelfGhosts F) (old new : Context F O) : Type 0 where
  pub same_shelf : new.shelf.ghost_name ≡ old.shelf.ghost_name
  pub same_sink : new.out.ghost_name ≡ old.out.ghost_name
  pub later : IsLater (s.state old.shelf.now) (s.state new.shelf.now)

-- what surrounds the command, with these states of a clock
abbrev pub around_by : {F O : Type 0} → ShelfGhosts F → SinkGhosts O → Context F O → Context F O → ClockState → ClockState → Around
around_by s o old new clock clock' =
    around (s.state old.shelf.now) (s.state new.shelf.now) clock clock' (sunk (o.state old.out.now) (o.state new.out.now))
