use Rattle.std.proofs.Common.{map, Some, subst, sym}
use Rattle.std.specs.String.{string_bytes}
use Rattle.conc_top_words.specs.Words.{command_of}
use Rattle.conc_top_words.specs.declared.command.Command.TheVariants as command
use Rattle.conc_run_state.specs.Disks.{disks}
use Rattle.conc_top_inputs.specs.Given.{names_of}
use Rattle.conc_top_inputs.specs.declared.names.FileNames.{FileNames}
use Rattle.conc_top.specs.Answers.{AnswersRun, around}
use Rattle.conc_top.specs.Meaning.{MeansRun}
use Rattle.conc_top.specs.Printing.{sunk}
use Rattle.conc_top.specs.Ways.{exit_of}
use Rattle.conc_top.proofs.Called.{asked-is, of-same, of-same-disks}
use Rattle.conc_top.proofs.commands.run.Goals as goal

pub returns-in-Ok-Run-clause-means : goal.returns-in-Ok-Run-clause-means
returns-in-Ok-Run-clause-means g c =
    let run = c.in-Ok-Run in
    let is = command.Run run.setup run.script run.file run.threads run.watchers in
    let asked = command_of (map string_bytes c.args.words.now) in
    let new = c.run_files.new in
    of-same (λ shelf out end asked. MeansRun asked (around (g.F.Shelf.state c.args.shelf.now) (g.F.Shelf.state shelf) (g.C.Clock.state c.args.clock.now) (g.C.Clock.state new.clock) (sunk (g.O.Sink.state c.args.out.now) (g.O.Sink.state out)))
    (disks (g.D.Disk.state c.args.journal.now) (g.D.Disk.state c.journal-1.given.0) (g.E.Disk.state c.args.spool.now) (g.E.Disk.state c.spool-1.given.0)) end)
    c.run_files.new.self.shelf.now c.shelf-1.given.0 c.run_files.new.self.out.now c.out-1.given.0 (exit_of c.run_files.result) c.of.result (Some is) asked
    (c.shelf-1.given.1 (sym c.run_files.ensures.continues.same_shelf)) (c.out-1.given.1 (sym c.run_files.ensures.continues.same_sink)) c.of.ensures (asked-is asked run.field-0 is run.ensures.read run.field-0-is)
    (of-same-disks (λ journal spool. AnswersRun run.threads run.watchers (names_of (record { setup = run.setup; script = run.script; clock = run.file }))
    (around (g.F.Shelf.state c.args.shelf.now) (g.F.Shelf.state new.self.shelf.now) (g.C.Clock.state c.args.clock.now) (g.C.Clock.state new.clock) (sunk (g.O.Sink.state c.args.out.now) (g.O.Sink.state new.self.out.now)))
    (disks (g.D.Disk.state c.args.journal.now) (g.D.Disk.state journal) (g.E.Disk.state c.args.spool.now) (g.E.Disk.state spool)) (exit_of c.run_files.result))
    new.stores.journal.now c.journal-1.given.0 new.stores.spool.now c.spool-1.given.0
    (c.journal-1.given.1 (sym c.run_files.ensures.stores.journal)) (c.spool-1.given.1 (sym c.run_files.ensures.stores.spool))
    (subst (λ (files : FileNames). AnswersRun run.threads run.watchers (names_of files)
    (around (g.F.Shelf.state c.args.shelf.now) (g.F.Shelf.state new.self.shelf.now) (g.C.Clock.state c.args.clock.now) (g.C.Clock.state new.clock) (sunk (g.O.Sink.state c.args.out.now) (g.O.Sink.state new.self.out.now)))
    (disks (g.D.Disk.state c.args.journal.now) (g.D.Disk.state new.stores.journal.now) (g.E.Disk.state c.args.spool.now) (g.E.Disk.state new.stores.spool.now)) (exit_of c.run_files.result))
    c.new-files.ensures c.run_files.ensures.answers))
