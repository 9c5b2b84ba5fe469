use Rattle.std.proofs.Common.{None, refl, subst, inl, inr}
use Rattle.conc_top_inputs.specs.Given.{named}
use Rattle.conc_top.specs.Answers.{AnswersStatus, around}
use Rattle.conc_top.specs.Printing.{sunk}
use Rattle.conc_top.specs.Shows.{StatusEnds}
use Rattle.conc_top.specs.Ways.{exit_for_input, exit_of}
use Rattle.conc_top.proofs.Meaning.{handed, unplanned}
use Rattle.conc_top.proofs.context.Context.show_table.Goals as goal

pub returns-in_err-accepted-clause-answers : goal.returns-in_err-accepted-clause-answers
returns-in_err-accepted-clause-answers g c clock =
    let names = named c.args.setup c.args.script None in
    let before = c.args.self.now in
    let a = around (g.F.Shelf.state before.shelf.now) (g.F.Shelf.state c.accept.new.shelf) clock clock (sunk (g.O.Sink.state before.out.now) (g.O.Sink.state before.out.now)) in
    let fail = c.in_err-accepted.field-0.0 in
    let disk = g.D.Disk.state c.args.journal.now in
    handed (AnswersStatus names a disk disk) c.from_residual.result (exit_for_input fail) c.from_residual.ensures.1 (inr (unplanned names a fail (c.in_err-accepted.ensures.answer clock).err refl))

pub returns-clause-answers : goal.returns-clause-answers
returns-clause-answers g c clock =
    let given = (c.in_ok-accepted.ensures.answer clock).ok in
    let plan = c.in_ok-accepted.accepted.plan in
    let sink = sunk (g.O.Sink.state c.args.self.now.out.now) (g.O.Sink.state c.print_table.new.out) in
    inl (
      record { plan = plan; accepted = given.accepts },
      subst (λ digests. StatusEnds plan digests (g.D.Disk.state c.args.journal.now) (g.D.Disk.state c.print_table.new.journal) sink (exit_of c.print_table.result))
          given.digests c.print_table.ensures.ends,
    )
