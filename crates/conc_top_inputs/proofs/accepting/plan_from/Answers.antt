use Rattle.std.proofs.Common.{◌∙◌, [], ap, length, subst, sym}
use Rattle.std.specs.List.{zip}
use Rattle.conc_top_inputs.specs.Fails.{FailsWith}
use Rattle.conc_top_inputs.specs.Given.{exposed_by, named, sources}
use Rattle.conc_top_inputs.proofs.Acceptance.{accepted, no-answer, tables-end, tables-long, without-plan}
use Rattle.conc_top_inputs.proofs.accepting.plan_from.Goals as goal

pub make_plan-requires-clause-tables : goal.make_plan-requires-clause-tables
make_plan-requires-clause-tables g c =
    ap length c.from_vec.ensures
    ∙ tables-long (g.F.Shelf.state c.args.shelf.now).files c.as_slice.result.now c.in_ok-tables.tables.items c.in_ok-tables.ensures.ok.given
    ∙ ap length c.as_slice.ensures

pub returns-in_err-tables-clause-answer : goal.returns-in_err-tables-clause-answer
returns-in_err-tables-clause-answer g c old before after clock readings later has =
    let state = g.F.Shelf.state in
    let start = sources old before in
    let end = sources (state c.read_tables.new.shelf) after in
    let names = named c.args.setup c.args.script clock in
    no-answer start end names readings c.from_residual.result c.in_err-tables.field-0.0 c.from_residual.ensures.1
    (tables-end start end (state c.args.shelf.now) names c.args.start readings has c.as_slice.result.now c.in_err-tables.field-0.0 c.as_slice.ensures
    later c.in_err-tables.ensures.err)

pub returns-in-Ok-clause-answer : goal.returns-in-Ok-clause-answer
returns-in-Ok-clause-answer g c old before after clock readings later has =
    let read = c.in_ok-tables.ensures.ok in
    let state = g.F.Shelf.state in
    let exposed = exposed_by (sources old before) (sources (state c.read_tables.new.shelf) after) in
    record {
      ok = accepted exposed (state c.args.shelf.now).files (named c.args.setup c.args.script clock)
          (record { plan = c.in-Ok.plan; digests = c.finish.result })
          c.args.start readings has c.as_slice.result.now c.in_ok-tables.tables.items c.as_slice.ensures later.files read.given
          (c.finish.ensures has.files.before.before.bytes has.files.before.bytes (zip c.as_slice.result.now read.given.contents)
          (read.digest has.files.before.before.bytes has.files.before.bytes [] has.digest))
          c.in-Ok.ensures.setup c.in-Ok.ensures.script c.in-Ok.ensures.stamps (c.in-Ok.ensures.tables ∙ c.from_vec.ensures);
      err = tt;
    }

pub returns-in-Err-clause-answer : goal.returns-in-Err-clause-answer
returns-in-Err-clause-answer g c old before after clock readings later has =
    let state = g.F.Shelf.state in
    let start = sources old before in
    let end = sources (state c.read_tables.new.shelf) after in
    let names = named c.args.setup c.args.script clock in
    record {
      ok = tt;
      err = subst (FailsWith start end names) (sym c.fail_without_plan.ensures)
          (without-plan start end (state c.args.shelf.now).files names c.args.start readings has
          c.as_slice.result.now c.in_ok-tables.tables.items c.as_slice.ensures later.files
          c.in_ok-tables.ensures.ok.given c.from_vec.result c.from_vec.ensures c.in-Err.fail c.in-Err.ensures.err);
    }
