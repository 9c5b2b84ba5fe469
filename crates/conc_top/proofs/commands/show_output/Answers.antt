use Rattle.std.proofs.Common.{map, None, Some, sym}
use Rattle.std.specs.String.{string_bytes}
use Rattle.conc_top_words.specs.Words.{command_of}
use Rattle.conc_top_words.specs.declared.command.Command.TheVariants as command
use Rattle.conc_run_state.specs.Disks.{disks}
use Rattle.conc_top_inputs.specs.Given.{named}
use Rattle.conc_top.specs.Answers.{AnswersOutput, around}
use Rattle.conc_top.specs.Meaning.{MeansOutput}
use Rattle.conc_top.specs.Printing.{sunk}
use Rattle.conc_top.specs.Ways.{exit_of}
use Rattle.conc_top.proofs.Called.{asked-is, of-same, of-same-disks}
use Rattle.conc_top.proofs.commands.show_output.Goals as goal

pub returns-in-Ok-Output-clause-means : goal.returns-in-Ok-Output-clause-means
returns-in-Ok-Output-clause-means g c clock =
    let output = c.in-Ok-Output in
    let is = command.Output output.setup output.script output.request in
    let asked = command_of (map string_bytes c.args.words.now) in
    let new = c.show_report.new in
    of-same (λ shelf out end asked. MeansOutput asked (around (g.F.Shelf.state c.args.shelf.now) (g.F.Shelf.state shelf) clock clock (sunk (g.O.Sink.state c.args.out.now) (g.O.Sink.state out)))
    (disks (g.D.Disk.state c.args.journal.now) (g.D.Disk.state c.journal-1.given.0) (g.E.Disk.state c.args.spool.now) (g.E.Disk.state c.spool-1.given.0)) end)
    c.show_report.new.self.shelf.now c.shelf-1.given.0 c.show_report.new.self.out.now c.out-1.given.0 (exit_of c.show_report.result) c.of.result (Some is) asked
    (c.shelf-1.given.1 (sym c.show_report.ensures.continues.same_shelf)) (c.out-1.given.1 (sym c.show_report.ensures.continues.same_sink)) c.of.ensures (asked-is asked output.field-0 is output.ensures.read output.field-0-is)
    (of-same-disks (λ journal spool. AnswersOutput (named output.setup output.script None) output.request
    (around (g.F.Shelf.state c.args.shelf.now) (g.F.Shelf.state new.self.shelf.now) clock clock (sunk (g.O.Sink.state c.args.out.now) (g.O.Sink.state new.self.out.now)))
    (disks (g.D.Disk.state c.args.journal.now) (g.D.Disk.state journal) (g.E.Disk.state c.args.spool.now) (g.E.Disk.state spool)) (exit_of c.show_report.result))
    new.stores.journal.now c.journal-1.given.0 new.stores.spool.now c.spool-1.given.0
    (c.journal-1.given.1 (sym c.show_report.ensures.stores.journal)) (c.spool-1.given.1 (sym c.show_report.ensures.stores.spool))
    (c.show_report.ensures.answers clock))
