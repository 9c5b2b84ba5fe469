use Rattle.std.proofs.Common.{arith, sym, ap, length, ◌∙◌}
use Rattle.conc_types.specs.Expansion.{expansion}
use Rattle.conc_types.specs.Faults.{first_fault}
use Rattle.conc_plan.specs.Faults.{program_kind}
use Rattle.conc_plan.proofs.Faults.{are_tables_so}
use Rattle.conc_plan.proofs.making.make_plan.Goals as goal

pub invariant_of-result : goal.invariant_of-result
invariant_of-result c =
    let faultless = ap (λ tables. first_fault (program_kind c.args.setup tables) 1 (length c.args.setup.programs)) (sym c.as_slice.ensures)
    ∙ sym c.first_bad_program.ensures ∙ c.in_default.is in
    record {
      commands = c.requires.commands;
      reports = are_tables_so c.args.setup c.args.tables c.requires.tables faultless;
      expanded = c.from_vec.ensures ∙ c.in_ok-requests.ensures.ok ∙ ap (expansion c.args.setup) c.as_slice-2.ensures;
      few = omega (arith, ap length c.from_vec.ensures, c.in_ok-requests.ensures.few);
      stamped = ap length c.from_vec-2.ensures ∙ c.in_ok-stamps.ensures.count ∙ ap length c.as_slice-3.ensures;
    }
