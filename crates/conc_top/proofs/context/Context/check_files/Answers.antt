use Rattle.std.proofs.Common.{refl, inl, inr}
use Rattle.conc_top_inputs.specs.Given.{names_of}
use Rattle.conc_top_inputs.proofs.FileFailing.{IsLater-trans}
use Rattle.conc_top.specs.Answers.{AnswersCheck, around}
use Rattle.conc_top.specs.Printing.{sunk}
use Rattle.conc_top.specs.Ways.{exit_for_input, exit_of}
use Rattle.conc_top.proofs.Meaning.{check-earlier, handed, unplanned}
use Rattle.conc_top.proofs.context.Context.check_files.Goals as goal

pub returns-clause-answers : goal.returns-clause-answers
returns-clause-answers g c =
    let state = g.F.Shelf.state in
    let given = c.in_ok-accepted in
    let sink = sunk (g.O.Sink.state c.args.self.now.out.now) (g.O.Sink.state c.judge_and_print.new.out) in
    inl (
      record { plan = given.accepted.plan; readings = given.readings; accepted = given.ensures.answer.ok.accepts },
      check-earlier given.accepted.plan given.readings.list c.args.history (state c.args.self.now.shelf.now) (state c.accept_timed.new.shelf) (state c.judge_and_print.new.shelf)
          sink (exit_of c.judge_and_print.result) c.accept_timed.ensures.later c.judge_and_print.ensures.ends,
    )

pub returns-in_err-accepted-clause-answers : goal.returns-in_err-accepted-clause-answers
returns-in_err-accepted-clause-answers g c =
    let names = names_of c.args.files in
    let before = c.args.self.now in
    let a = around (g.F.Shelf.state before.shelf.now) (g.F.Shelf.state c.accept_timed.new.shelf) (g.C.Clock.state c.args.clock.now) (g.C.Clock.state c.accept_timed.new.clock)
    (sunk (g.O.Sink.state before.out.now) (g.O.Sink.state before.out.now)) in
    let fail = c.in_err-accepted.field-0.0 in
    handed (AnswersCheck names c.args.history a) c.from_residual.result (exit_for_input fail) c.from_residual.ensures.1
    (inr (unplanned names a fail c.in_err-accepted.ensures.answer.err refl))

pub returns-clause-continues : goal.returns-clause-continues
returns-clause-continues g c =
    let state = g.F.Shelf.state in
    record {
      same_shelf = refl;
      same_sink = refl;
      later = IsLater-trans (state c.args.self.now.shelf.now) (state c.accept_timed.new.shelf) (state c.judge_and_print.new.shelf) c.accept_timed.ensures.later c.judge_and_print.ensures.later;
    }
