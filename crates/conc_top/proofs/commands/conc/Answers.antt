use Rattle.std.proofs.Common.{map, None, Some, refl, subst, sym}
use Rattle.std.specs.String.{string_bytes}
use Rattle.conc_top_words.specs.Words.{command_of}
use Rattle.conc_top_words.specs.declared.command.Command.TheVariants as command
use Rattle.conc_run_state.specs.Disks.{AreUntouched, disks}
use Rattle.conc_top_inputs.specs.Given.{named, names_of}
use Rattle.conc_top_inputs.specs.declared.names.FileNames.{FileNames}
use Rattle.conc_top.specs.Answers.{AnswersCheck, AnswersOutput, AnswersRun, around}
use Rattle.conc_top.specs.Meaning.{Means}
use Rattle.conc_top.specs.Printing.{sunk}
use Rattle.conc_top.specs.Ways.{exit_of}
use Rattle.conc_top.proofs.Called.{asked-is, of-same, of-same-disks}
use Rattle.conc_top.proofs.Meaning.{no-command, untouched, untouched-beside}
use Rattle.conc_top.proofs.commands.conc.Goals as goal

pub returns-in-Err-clause-answered : goal.returns-in-Err-clause-answered
returns-in-Err-clause-answered g c =
    no-command (command_of (map string_bytes c.args.words.now))
    (around (g.F.Shelf.state c.args.shelf.now) (g.F.Shelf.state c.args.shelf.now) (g.C.Clock.state c.args.clock.now) (g.C.Clock.state c.args.clock.now) (sunk (g.O.Sink.state c.args.out.now) (g.O.Sink.state c.args.out.now)))
    (disks (g.D.Disk.state c.args.journal.now) (g.D.Disk.state c.args.journal.now) (g.E.Disk.state c.args.spool.now) (g.E.Disk.state c.args.spool.now)) c.in-Err.exit c.in-Err.ensures.none refl (untouched (g.D.Disk.state c.args.journal.now) (g.E.Disk.state c.args.spool.now))

pub returns-in-Run-clause-answered : goal.returns-in-Run-clause-answered
returns-in-Run-clause-answered g c =
    let run = c.in-Run in
    let is = command.Run run.setup run.script run.file run.threads run.watchers in
    let asked = command_of (map string_bytes c.args.words.now) in
    let new = c.run_files.new in
    of-same (λ shelf out end asked. Means asked (around (g.F.Shelf.state c.args.shelf.now) (g.F.Shelf.state shelf) (g.C.Clock.state c.args.clock.now) (g.C.Clock.state new.clock) (sunk (g.O.Sink.state c.args.out.now) (g.O.Sink.state out)))
    (disks (g.D.Disk.state c.args.journal.now) (g.D.Disk.state c.journal-1.given.0) (g.E.Disk.state c.args.spool.now) (g.E.Disk.state c.spool-1.given.0)) end)
    c.run_files.new.self.shelf.now c.shelf-1.given.0 c.run_files.new.self.out.now c.out-1.given.0 (exit_of c.run_files.result) c.of.result (Some is) asked
    (c.shelf-1.given.1 (sym c.run_files.ensures.continues.same_shelf)) (c.out-1.given.1 (sym c.run_files.ensures.continues.same_sink)) c.of.ensures (asked-is asked c.in-Ok.command is c.in-Ok.ensures.read run.is)
    (of-same-disks (λ journal spool. AnswersRun run.threads run.watchers (names_of (record { setup = run.setup; script = run.script; clock = run.file })) (around (g.F.Shelf.state c.args.shelf.now) (g.F.Shelf.state new.self.shelf.now) (g.C.Clock.state c.args.clock.now) (g.C.Clock.state new.clock) (sunk (g.O.Sink.state c.args.out.now) (g.O.Sink.state new.self.out.now)))
    (disks (g.D.Disk.state c.args.journal.now) (g.D.Disk.state journal) (g.E.Disk.state c.args.spool.now) (g.E.Disk.state spool)) (exit_of c.run_files.result))
    new.stores.journal.now c.journal-1.given.0 new.stores.spool.now c.spool-1.given.0
    (c.journal-1.given.1 (sym c.run_files.ensures.stores.journal)) (c.spool-1.given.1 (sym c.run_files.ensures.stores.spool))
    (subst (λ (files : FileNames). AnswersRun run.threads run.watchers (names_of files) (around (g.F.Shelf.state c.args.shelf.now) (g.F.Shelf.state new.self.shelf.now) (g.C.Clock.state c.args.clock.now) (g.C.Clock.state new.clock) (sunk (g.O.Sink.state c.args.out.now) (g.O.Sink.state new.self.out.now)))
    (disks (g.D.Disk.state c.args.journal.now) (g.D.Disk.state new.stores.journal.now) (g.E.Disk.state c.args.spool.now) (g.E.Disk.state new.stores.spool.now)) (exit_of c.run_files.result))
    c.new-files.ensures c.run_files.ensures.answers))

pub returns-in-Plan-clause-answered : goal.returns-in-Plan-clause-answered
returns-in-Plan-clause-answered g c =
    let plan = c.in-Plan in
    let is = command.Plan plan.setup plan.script in
    let asked = command_of (map string_bytes c.args.words.now) in
    let new = c.list_files.new in
    of-same (λ shelf out end asked. Means asked (around (g.F.Shelf.state c.args.shelf.now) (g.F.Shelf.state shelf) (g.C.Clock.state c.args.clock.now) (g.C.Clock.state c.args.clock.now) (sunk (g.O.Sink.state c.args.out.now) (g.O.Sink.state out)))
    (disks (g.D.Disk.state c.args.journal.now) (g.D.Disk.state c.args.journal.now) (g.E.Disk.state c.args.spool.now) (g.E.Disk.state c.args.spool.now)) end)
    c.list_files.new.self.shelf.now c.shelf-in-Plan-1.given.0 c.list_files.new.self.out.now c.out-in-Plan-1.given.0 (exit_of c.list_files.result) c.of-in-Plan.result (Some is) asked
    (c.shelf-in-Plan-1.given.1 (sym c.list_files.ensures.continues.same_shelf)) (c.out-in-Plan-1.given.1 (sym c.list_files.ensures.continues.same_sink)) c.of-in-Plan.ensures (asked-is asked c.in-Ok.command is c.in-Ok.ensures.read plan.is)
    (c.list_files.ensures.answers (g.C.Clock.state c.args.clock.now), untouched (g.D.Disk.state c.args.journal.now) (g.E.Disk.state c.args.spool.now))

pub returns-in-Check-clause-answered : goal.returns-in-Check-clause-answered
returns-in-Check-clause-answered g c =
    let check = c.in-Check in
    let is = command.Check check.setup check.script check.file check.history in
    let asked = command_of (map string_bytes c.args.words.now) in
    let new = c.check_files.new in
    of-same (λ shelf out end asked. Means asked (around (g.F.Shelf.state c.args.shelf.now) (g.F.Shelf.state shelf) (g.C.Clock.state c.args.clock.now) (g.C.Clock.state new.clock) (sunk (g.O.Sink.state c.args.out.now) (g.O.Sink.state out)))
    (disks (g.D.Disk.state c.args.journal.now) (g.D.Disk.state c.args.journal.now) (g.E.Disk.state c.args.spool.now) (g.E.Disk.state c.args.spool.now)) end)
    c.check_files.new.self.shelf.now c.shelf-in-Check-1.given.0 c.check_files.new.self.out.now c.out-in-Check-1.given.0 (exit_of c.check_files.result) c.of-in-Check.result (Some is) asked
    (c.shelf-in-Check-1.given.1 (sym c.check_files.ensures.continues.same_shelf)) (c.out-in-Check-1.given.1 (sym c.check_files.ensures.continues.same_sink)) c.of-in-Check.ensures (asked-is asked c.in-Ok.command is c.in-Ok.ensures.read check.is) (
      subst (λ (files : FileNames). AnswersCheck (names_of files) check.history (around (g.F.Shelf.state c.args.shelf.now) (g.F.Shelf.state new.self.shelf.now) (g.C.Clock.state c.args.clock.now) (g.C.Clock.state new.clock) (sunk (g.O.Sink.state c.args.out.now) (g.O.Sink.state new.self.out.now)))
          (exit_of c.check_files.result)) c.new-files-in-Check.ensures c.check_files.ensures.answers,
      untouched (g.D.Disk.state c.args.journal.now) (g.E.Disk.state c.args.spool.now),
    )

pub returns-in-Status-clause-answered : goal.returns-in-Status-clause-answered
returns-in-Status-clause-answered g c =
    let status = c.in-Status in
    let is = command.Status status.setup status.script in
    let asked = command_of (map string_bytes c.args.words.now) in
    let new = c.show_table.new in
    of-same (λ shelf out end asked. Means asked (around (g.F.Shelf.state c.args.shelf.now) (g.F.Shelf.state shelf) (g.C.Clock.state c.args.clock.now) (g.C.Clock.state c.args.clock.now) (sunk (g.O.Sink.state c.args.out.now) (g.O.Sink.state out)))
    (disks (g.D.Disk.state c.args.journal.now) (g.D.Disk.state new.journal) (g.E.Disk.state c.args.spool.now) (g.E.Disk.state c.args.spool.now)) end)
    c.show_table.new.self.shelf.now c.shelf-in-Status-1.given.0 c.show_table.new.self.out.now c.out-in-Status-1.given.0 (exit_of c.show_table.result) c.of-in-Status.result (Some is) asked
    (c.shelf-in-Status-1.given.1 (sym c.show_table.ensures.continues.same_shelf)) (c.out-in-Status-1.given.1 (sym c.show_table.ensures.continues.same_sink)) c.of-in-Status.ensures (asked-is asked c.in-Ok.command is c.in-Ok.ensures.read status.is)
    (c.show_table.ensures.answers (g.C.Clock.state c.args.clock.now), untouched-beside (g.D.Disk.state c.args.journal.now) (g.D.Disk.state new.journal) (g.E.Disk.state c.args.spool.now) c.show_table.ensures.untouched)

pub returns-in-Output-clause-answered : goal.returns-in-Output-clause-answered
returns-in-Output-clause-answered g c =
    let output = c.in-Output in
    let is = command.Output output.setup output.script output.request in
    let asked = command_of (map string_bytes c.args.words.now) in
    let new = c.show_report.new in
    of-same (λ shelf out end asked. Means asked (around (g.F.Shelf.state c.args.shelf.now) (g.F.Shelf.state shelf) (g.C.Clock.state c.args.clock.now) (g.C.Clock.state c.args.clock.now) (sunk (g.O.Sink.state c.args.out.now) (g.O.Sink.state out)))
    (disks (g.D.Disk.state c.args.journal.now) (g.D.Disk.state c.journal-in-Output-1.given.0) (g.E.Disk.state c.args.spool.now) (g.E.Disk.state c.spool-in-Output-1.given.0)) end)
    c.show_report.new.self.shelf.now c.shelf-in-Output-1.given.0 c.show_report.new.self.out.now c.out-in-Output-1.given.0 (exit_of c.show_report.result) c.of-in-Output.result (Some is) asked
    (c.shelf-in-Output-1.given.1 (sym c.show_report.ensures.continues.same_shelf)) (c.out-in-Output-1.given.1 (sym c.show_report.ensures.continues.same_sink)) c.of-in-Output.ensures (asked-is asked c.in-Ok.command is c.in-Ok.ensures.read output.is)
    (of-same-disks (λ journal spool. AnswersOutput (named output.setup output.script None) output.request (around (g.F.Shelf.state c.args.shelf.now) (g.F.Shelf.state new.self.shelf.now) (g.C.Clock.state c.args.clock.now) (g.C.Clock.state c.args.clock.now) (sunk (g.O.Sink.state c.args.out.now) (g.O.Sink.state new.self.out.now))) (disks (g.D.Disk.state c.args.journal.now) (g.D.Disk.state journal) (g.E.Disk.state c.args.spool.now) (g.E.Disk.state spool)) (exit_of c.show_report.result) × AreUntouched (disks (g.D.Disk.state c.args.journal.now) (g.D.Disk.state journal) (g.E.Disk.state c.args.spool.now) (g.E.Disk.state spool)))
    new.stores.journal.now c.journal-in-Output-1.given.0 new.stores.spool.now c.spool-in-Output-1.given.0
    (c.journal-in-Output-1.given.1 (sym c.show_report.ensures.stores.journal)) (c.spool-in-Output-1.given.1 (sym c.show_report.ensures.stores.spool))
    (c.show_report.ensures.answers (g.C.Clock.state c.args.clock.now), c.show_report.ensures.untouched))

pub returns-in-Repeat-clause-answered : goal.returns-in-Repeat-clause-answered
returns-in-Repeat-clause-answered g c =
    let repeat = c.in-Repeat in
    let is = command.Repeat repeat.repeats in
    let asked = command_of (map string_bytes c.args.words.now) in
    let new = c.expand_file.new in
    of-same (λ shelf out end asked. Means asked (around (g.F.Shelf.state c.args.shelf.now) (g.F.Shelf.state shelf) (g.C.Clock.state c.args.clock.now) (g.C.Clock.state c.args.clock.now) (sunk (g.O.Sink.state c.args.out.now) (g.O.Sink.state out)))
    (disks (g.D.Disk.state c.args.journal.now) (g.D.Disk.state c.args.journal.now) (g.E.Disk.state c.args.spool.now) (g.E.Disk.state c.args.spool.now)) end)
    new.self.shelf.now c.shelf-in-Repeat-1.given.0 new.self.out.now c.out-in-Repeat-1.given.0 (exit_of c.expand_file.result) c.of-in-Repeat.result (Some is) asked
    (c.shelf-in-Repeat-1.given.1 (sym c.expand_file.ensures.continues.same_shelf)) (c.out-in-Repeat-1.given.1 (sym c.expand_file.ensures.continues.same_sink)) c.of-in-Repeat.ensures (asked-is asked c.in-Ok.command is c.in-Ok.ensures.read repeat.is)
    (c.expand_file.ensures.answers (g.C.Clock.state c.args.clock.now), untouched (g.D.Disk.state c.args.journal.now) (g.E.Disk.state c.args.spool.now))
