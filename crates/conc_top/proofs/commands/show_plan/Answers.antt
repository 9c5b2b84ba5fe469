use Rattle.std.proofs.Common.{map, Some, sym}
use Rattle.std.specs.String.{string_bytes}
use Rattle.conc_top_words.specs.Words.{command_of}
use Rattle.conc_top_words.specs.declared.command.Command.TheVariants as command
use Rattle.conc_top.specs.Answers.{around}
use Rattle.conc_top.specs.Meaning.{MeansPlan}
use Rattle.conc_top.specs.Printing.{sunk}
use Rattle.conc_top.specs.Ways.{exit_of}
use Rattle.conc_top.proofs.Called.{asked-is, of-same}
use Rattle.conc_top.proofs.commands.show_plan.Goals as goal

pub returns-in-Ok-Plan-clause-means : goal.returns-in-Ok-Plan-clause-means
returns-in-Ok-Plan-clause-means g c clock =
    let plan = c.in-Ok-Plan in
    let is = command.Plan plan.setup plan.script in
    let asked = command_of (map string_bytes c.args.words.now) in
    of-same (λ shelf out end asked. MeansPlan asked (around (g.F.Shelf.state c.args.shelf.now) (g.F.Shelf.state shelf) clock clock (sunk (g.O.Sink.state c.args.out.now) (g.O.Sink.state out))) end)
    c.list_files.new.self.shelf.now c.shelf-1.given.0 c.list_files.new.self.out.now c.out-1.given.0 (exit_of c.list_files.result) c.of.result (Some is) asked
    (c.shelf-1.given.1 (sym c.list_files.ensures.continues.same_shelf)) (c.out-1.given.1 (sym c.list_files.ensures.continues.same_sink)) c.of.ensures (asked-is asked plan.field-0 is plan.ensures.read plan.field-0-is)
    (c.list_files.ensures.answers clock)
