use Rattle.std.proofs.Common.{Some, refl}
use Rattle.conc_top_inputs.specs.Given.{exposed_by, names_of, sources}
use Rattle.conc_top_inputs.proofs.Acceptance.{no-timed-answer, with-readings}
use Rattle.conc_top_inputs.proofs.FileFailing.{clock-end, IsLater-trans, reads-clock}
use Rattle.conc_top_inputs.proofs.accepting.accept_timed.Goals as goal

pub returns-in_err-start-clause-answer : goal.returns-in_err-start-clause-answer
returns-in_err-start-clause-answer g c =
    let state = g.F.Shelf.state in
    let clock = g.C.Clock.state c.args.clock.now in
    no-timed-answer (sources (state c.args.shelf.now) clock) (sources (state c.read_start.new.shelf) clock) (names_of c.args.files)
    c.from_residual.result c.in_err-start.field-0.0 c.from_residual.ensures.1 (c.in_err-start.ensures.answer.err clock clock (Some c.args.files.clock))

pub returns-in_err-readings-clause-answer : goal.returns-in_err-readings-clause-answer
returns-in_err-readings-clause-answer g c =
    let state = g.F.Shelf.state in
    let old = sources (state c.args.shelf.now) (g.C.Clock.state c.args.clock.now) in
    let new = sources (state c.read_readings.new.shelf) (g.C.Clock.state c.read_readings.new.clock) in
    let fail = c.in_err-readings.field-0.0 in
    no-timed-answer old new (names_of c.args.files) c.from_residual-in_err-readings.result fail c.from_residual-in_err-readings.ensures.1
    (clock-end old new (state c.read_start.new.shelf) (names_of c.args.files) c.args.files.clock fail
    (c.in_ok-start.ensures.answer.ok (Some c.args.files.clock)).files refl c.read_start.ensures.later c.in_err-readings.ensures.err)

pub returns-in_err-accepted-clause-answer : goal.returns-in_err-accepted-clause-answer
returns-in_err-accepted-clause-answer g c =
    let state = g.F.Shelf.state in
    let start = state c.args.shelf.now in
    let before = g.C.Clock.state c.args.clock.now in
    let after = g.C.Clock.state c.read_readings.new.clock in
    let old = sources start before in
    let new = sources (state c.plan_from.new.shelf) after in
    let readings = c.in_ok-readings.readings in
    let has = with-readings (exposed_by old new) (names_of c.args.files) c.in_ok-start.start (Some readings)
    (c.in_ok-start.ensures.answer.ok (Some c.args.files.clock))
    (reads-clock old new (state c.read_start.new.shelf) c.read_start.ensures.later.files c.args.files.clock readings c.in_ok-readings.ensures.ok) in
    let answer = c.in_err-accepted.ensures.answer start before after (Some c.args.files.clock) (Some readings)
    (IsLater-trans start (state c.read_start.new.shelf) (state c.read_readings.new.shelf) c.read_start.ensures.later c.read_readings.ensures.later) has in
    no-timed-answer old new (names_of c.args.files) c.from_residual-in_err-accepted.result c.in_err-accepted.field-0.0 c.from_residual-in_err-accepted.ensures.1 answer.err

pub returns-clause-answer : goal.returns-clause-answer
returns-clause-answer g c =
    let state = g.F.Shelf.state in
    let start = state c.args.shelf.now in
    let before = g.C.Clock.state c.args.clock.now in
    let after = g.C.Clock.state c.read_readings.new.clock in
    let old = sources start before in
    let new = sources (state c.plan_from.new.shelf) after in
    let readings = c.in_ok-readings.readings in
    let has = with-readings (exposed_by old new) (names_of c.args.files) c.in_ok-start.start (Some readings)
    (c.in_ok-start.ensures.answer.ok (Some c.args.files.clock))
    (reads-clock old new (state c.read_start.new.shelf) c.read_start.ensures.later.files c.args.files.clock readings c.in_ok-readings.ensures.ok) in
    let answer = c.in_ok-accepted.ensures.answer start before after (Some c.args.files.clock) (Some readings)
    (IsLater-trans start (state c.read_start.new.shelf) (state c.read_readings.new.shelf) c.read_start.ensures.later c.read_readings.ensures.later) has in
    record { ok = answer.ok; err = tt }
