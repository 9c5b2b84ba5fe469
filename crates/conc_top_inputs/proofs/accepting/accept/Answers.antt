use Rattle.std.proofs.Common.{None, refl}
use Rattle.conc_top_inputs.specs.Given.{named, sources, exposed_by}
use Rattle.conc_top_inputs.proofs.Acceptance.{no-answer, with-readings}
use Rattle.conc_top_inputs.proofs.accepting.accept.Goals as goal

pub returns-in_err-start-clause-answer : goal.returns-in_err-start-clause-answer
returns-in_err-start-clause-answer g c clock =
    let state = g.F.Shelf.state in
    no-answer (sources (state c.args.shelf.now) clock) (sources (state c.read_start.new.shelf) clock) (named c.args.setup c.args.script None) None
    c.from_residual.result c.in_err-start.field-0.0 c.from_residual.ensures.1 (c.in_err-start.ensures.answer.err clock clock None)

pub returns-clause-answer : goal.returns-clause-answer
returns-clause-answer g c clock =
    let state = g.F.Shelf.state in
    let exposed = exposed_by (sources (state c.args.shelf.now) clock) (sources (state c.plan_from.new.shelf) clock) in
    c.plan_from.ensures.answer (state c.args.shelf.now) clock clock None None c.read_start.ensures.later
    (with-readings exposed (named c.args.setup c.args.script None) c.in_ok-start.start None (c.in_ok-start.ensures.answer.ok None) refl)
