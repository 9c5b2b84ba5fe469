use Rattle.std.proofs.Common.{map, Some, sym}
use Rattle.std.specs.String.{string_bytes}
use Rattle.conc_top_words.specs.Words.{command_of}
use Rattle.conc_top_words.specs.declared.command.Command.TheVariants as command
use Rattle.conc_top.specs.Answers.{around}
use Rattle.conc_top.specs.Meaning.{MeansStatus}
use Rattle.conc_top.specs.Printing.{sunk}
use Rattle.conc_top.specs.Ways.{exit_of}
use Rattle.conc_top.proofs.Called.{asked-is, of-same}
use Rattle.conc_top.proofs.commands.show_status.Goals as goal

pub returns-in-Ok-Status-clause-means : goal.returns-in-Ok-Status-clause-means
returns-in-Ok-Status-clause-means g c clock =
    let status = c.in-Ok-Status in
    let is = command.Status status.setup status.script in
    let asked = command_of (map string_bytes c.args.words.now) in
    of-same (λ shelf out end asked. MeansStatus asked (around (g.F.Shelf.state c.args.shelf.now) (g.F.Shelf.state shelf) clock clock (sunk (g.O.Sink.state c.args.out.now) (g.O.Sink.state out)))
    (g.D.Disk.state c.args.journal.now) (g.D.Disk.state c.show_table.new.journal) end)
    c.show_table.new.self.shelf.now c.shelf-1.given.0 c.show_table.new.self.out.now c.out-1.given.0 (exit_of c.show_table.result) c.of.result (Some is) asked
    (c.shelf-1.given.1 (sym c.show_table.ensures.continues.same_shelf)) (c.out-1.given.1 (sym c.show_table.ensures.continues.same_sink)) c.of.ensures (asked-is asked status.field-0 is status.ensures.read status.field-0-is)
    (c.show_table.ensures.answers clock)
