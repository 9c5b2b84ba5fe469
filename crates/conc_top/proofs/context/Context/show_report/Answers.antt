use Rattle.std.proofs.Common.{None, refl, subst, inl, inr}
use Rattle.conc_top_inputs.specs.Given.{named}
use Rattle.conc_run_state.specs.Stores.{disks_of}
use Rattle.conc_top.specs.Answers.{AnswersOutput, around}
use Rattle.conc_top.specs.Printing.{sunk}
use Rattle.conc_top.specs.Shows.{OutputEnds}
use Rattle.conc_top.specs.Ways.{exit_for_input, exit_of}
use Rattle.conc_top.proofs.Meaning.{handed, unplanned}
use Rattle.conc_top.proofs.context.Context.show_report.Goals as goal

pub returns-in_err-accepted-clause-answers : goal.returns-in_err-accepted-clause-answers
returns-in_err-accepted-clause-answers g c clock =
    let names = named c.args.setup c.args.script None in
    let before = c.args.self.now in
    let a = around (g.F.Shelf.state before.shelf.now) (g.F.Shelf.state c.accept.new.shelf) clock clock (sunk (g.O.Sink.state before.out.now) (g.O.Sink.state before.out.now)) in
    let fail = c.in_err-accepted.field-0.0 in
    let d = disks_of g.D.Disk g.E.Disk c.args.stores.now c.args.stores.now in
    handed (AnswersOutput names c.args.id a d) c.from_residual.result (exit_for_input fail) c.from_residual.ensures.1 (inr (unplanned names a fail (c.in_err-accepted.ensures.answer clock).err refl))

pub returns-clause-answers : goal.returns-clause-answers
returns-clause-answers g c clock =
    let given = (c.in_ok-accepted.ensures.answer clock).ok in
    let plan = c.in_ok-accepted.accepted.plan in
    let d = disks_of g.D.Disk g.E.Disk c.args.stores.now c.print_report.new.stores in
    let sink = sunk (g.O.Sink.state c.args.self.now.out.now) (g.O.Sink.state c.print_report.new.out) in
    inl (
      record { plan = plan; accepted = given.accepts },
      subst (λ digests. OutputEnds plan digests c.args.id d sink (exit_of c.print_report.result)) given.digests c.print_report.ensures.ends,
    )
