use Rattle.std.proofs.Common.{map, Some, subst, sym}
use Rattle.std.specs.String.{string_bytes}
use Rattle.conc_top_words.specs.Words.{command_of}
use Rattle.conc_top_words.specs.declared.command.Command.TheVariants as command
use Rattle.conc_top_inputs.specs.Given.{names_of}
use Rattle.conc_top_inputs.specs.declared.names.FileNames.{FileNames}
use Rattle.conc_top.specs.Answers.{AnswersCheck, around}
use Rattle.conc_top.specs.Meaning.{MeansCheck}
use Rattle.conc_top.specs.Printing.{sunk}
use Rattle.conc_top.specs.Ways.{exit_of}
use Rattle.conc_top.proofs.Called.{asked-is, of-same}
use Rattle.conc_top.proofs.commands.check_history.Goals as goal

pub returns-in-Ok-Check-clause-means : goal.returns-in-Ok-Check-clause-means
returns-in-Ok-Check-clause-means g c =
    let check = c.in-Ok-Check in
    let is = command.Check check.setup check.script check.file check.history in
    let asked = command_of (map string_bytes c.args.words.now) in
    let new = c.check_files.new in
    of-same (λ shelf out end asked. MeansCheck asked (around (g.F.Shelf.state c.args.shelf.now) (g.F.Shelf.state shelf) (g.C.Clock.state c.args.clock.now) (g.C.Clock.state new.clock) (sunk (g.O.Sink.state c.args.out.now) (g.O.Sink.state out))) end)
    c.check_files.new.self.shelf.now c.shelf-1.given.0 c.check_files.new.self.out.now c.out-1.given.0 (exit_of c.check_files.result) c.of.result (Some is) asked
    (c.shelf-1.given.1 (sym c.check_files.ensures.continues.same_shelf)) (c.out-1.given.1 (sym c.check_files.ensures.continues.same_sink)) c.of.ensures (asked-is asked check.field-0 is check.ensures.read check.field-0-is)
    (subst (λ (files : FileNames). AnswersCheck (names_of files) check.history
    (around (g.F.Shelf.state c.args.shelf.now) (g.F.Shelf.state new.self.shelf.now) (g.C.Clock.state c.args.clock.now) (g.C.Clock.state new.clock) (sunk (g.O.Sink.state c.args.out.now) (g.O.Sink.state new.self.out.now)))
    (exit_of c.check_files.result)) c.new-files.ensures c.check_files.ensures.answers)
