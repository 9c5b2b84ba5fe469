use Rattle.std.proofs.Common.{map, Some, sym}
use Rattle.std.specs.String.{string_bytes}
use Rattle.conc_top_words.specs.Words.{command_of}
use Rattle.conc_top_words.specs.declared.command.Command.TheVariants as command
use Rattle.conc_top.specs.Answers.{around}
use Rattle.conc_top.specs.Meaning.{MeansRepeat}
use Rattle.conc_top.specs.Printing.{sunk}
use Rattle.conc_top.specs.Ways.{exit_of}
use Rattle.conc_top.proofs.Called.{asked-is, of-same}
use Rattle.conc_top.proofs.commands.show_repeat.Goals as goal

pub returns-in-Ok-Repeat-clause-means : goal.returns-in-Ok-Repeat-clause-means
returns-in-Ok-Repeat-clause-means g c clock =
    let repeat = c.in-Ok-Repeat in
    let is = command.Repeat repeat.repeats in
    let asked = command_of (map string_bytes c.args.words.now) in
    of-same (λ shelf out end asked. MeansRepeat asked (around (g.F.Shelf.state c.args.shelf.now) (g.F.Shelf.state shelf) clock clock (sunk (g.O.Sink.state c.args.out.now) (g.O.Sink.state out))) end)
    c.expand_file.new.self.shelf.now c.shelf-1.given.0 c.expand_file.new.self.out.now c.out-1.given.0 (exit_of c.expand_file.result) c.of.result (Some is) asked
    (c.shelf-1.given.1 (sym c.expand_file.ensures.continues.same_shelf)) (c.out-1.given.1 (sym c.expand_file.ensures.continues.same_sink)) c.of.ensures (asked-is asked repeat.field-0 is repeat.ensures.read repeat.field-0-is)
    (c.expand_file.ensures.answers clock)
