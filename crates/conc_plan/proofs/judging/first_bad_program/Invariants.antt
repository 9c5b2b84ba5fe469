use Rattle.std.proofs.Common.{◌≡◌, ◌+◌, ◌-◌, length}
use Rattle.conc_types.specs.Faults.{first_fault}
use Rattle.conc_plan.specs.Faults.{program_kind}
use Rattle.conc_plan.proofs.judging.first_bad_program.Given as goal

abbrev pub invariant-loop-program : goal.invariant-loop-program
invariant-loop-program l = record {
  number : l.number ≡ 1 + l.program-index;
  rest : first_fault (program_kind l.setup l.tables) l.number (length l.setup.programs - l.program-index)
      ≡ first_fault (program_kind l.setup l.tables) 1 (length l.setup.programs);
}
