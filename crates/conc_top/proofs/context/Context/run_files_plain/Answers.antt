use Rattle.std.proofs.Common.{◌∙◌, ap, refl, inr}
use Rattle.conc_top_inputs.specs.Given.{names_of}
use Rattle.conc_top_inputs.specs.declared.accepting.Accepted.{Accepted}
use Rattle.conc_run_state.specs.Stores.{disks_of}
use Rattle.conc_top.specs.Answers.{AnswersRun, around}
use Rattle.conc_top.specs.Printing.{sunk}
use Rattle.conc_top.specs.Ways.{exit_for_input, exit_of}
use Rattle.conc_top.proofs.Ending.{ran}
use Rattle.conc_top.proofs.Meaning.{handed, unplanned, untouched}
use Rattle.conc_top.proofs.context.Context.run_files_plain.Goals as goal

pub returns-in_err-accepted-clause-answers : goal.returns-in_err-accepted-clause-answers
returns-in_err-accepted-clause-answers g c =
    let names = names_of c.args.files in
    let before = c.args.self.now in
    let a = around (g.F.Shelf.state before.shelf.now) (g.F.Shelf.state c.accept_timed.new.shelf) (g.C.Clock.state c.args.clock.now) (g.C.Clock.state c.accept_timed.new.clock)
    (sunk (g.O.Sink.state before.out.now) (g.O.Sink.state before.out.now)) in
    let fail = c.in_err-accepted.field-0.0 in
    handed (AnswersRun 0 0 names a (disks_of g.D.Disk g.E.Disk c.args.stores.now c.args.stores.now)) c.from_residual.result (exit_for_input fail) c.from_residual.ensures.1
    (inr (unplanned names a fail c.in_err-accepted.ensures.answer.err refl, untouched (g.D.Disk.state c.args.stores.now.journal.now) (g.E.Disk.state c.args.stores.now.spool.now)))

pub returns-clause-answers : goal.returns-clause-answers
returns-clause-answers g c =
    let names = names_of c.args.files in
    let before = c.args.self.now in
    let new = c.run_plainly-ended.new.stores in
    let a = around (g.F.Shelf.state before.shelf.now) (g.F.Shelf.state c.accept_timed.new.shelf) (g.C.Clock.state c.args.clock.now) (g.C.Clock.state c.accept_timed.new.clock)
    (sunk (g.O.Sink.state before.out.now) (g.O.Sink.state c.print_ended.new.out)) in
    ran g.D.Disk g.E.Disk 0 0 names a c.in_ok-accepted.accepted c.in_ok-accepted.readings c.in_ok-accepted.ensures.answer.ok c.input_of-input.result
    (c.input_of-input.ensures.plan ∙ ap (λ (y : Accepted). y.plan) c.with_columns-accepted.ensures) c.input_of-input.ensures.readings
    (c.input_of-input.ensures.digests ∙ ap (λ (y : Accepted). y.digests) c.with_columns-accepted.ensures) c.args.stores.now new (exit_of c.print_ended.result)
    (c.print_ended.ensures 0 0 c.args.stores.now c.run_plainly-ended.ensures.ended)
