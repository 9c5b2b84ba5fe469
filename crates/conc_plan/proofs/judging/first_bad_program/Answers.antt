use Rattle.std.proofs.Common.{arith, ap, length, sym, ◌∙◌}
use Rattle.conc_plan.proofs.Faults.{no_more_faults, program_fails, program_passes}
use Rattle.conc_plan.proofs.judging.first_bad_program.Goals as goal

pub returns-in-Some : goal.returns-in-Some
returns-in-Some c =
    program_fails c.args.setup.now c.args.tables.now _ _ _ _ _ _ c.as_slice-program-items.ensures c.loop-program.invariant.number
    c.loop-program-test.true c.program-item.is (sym c.kind_for.ensures ∙ c.in-Some.is) c.loop-program.invariant.rest

pub loop-program-preserved : goal.loop-program-preserved
loop-program-preserved c = record {
  number = omega arith;
  rest = program_passes c.args.setup.now c.args.tables.now _ _ _ _ _ c.as_slice-program-items.ensures c.loop-program.invariant.number
      c.loop-program-test.true c.program-item.is (sym c.kind_for.ensures ∙ c.in_default.is) c.loop-program.invariant.rest;
}

pub returns : goal.returns
returns c =
    no_more_faults _ _ _ _ _ (omega (arith, ap length c.as_slice-program-items.ensures, c.loop-program-test.false)) c.loop-program.invariant.rest
