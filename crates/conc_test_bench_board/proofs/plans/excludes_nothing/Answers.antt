use Rattle.std.proofs.Common.{rules, ◌≡◌, ◌∙◌, [], Bool, true, false, List, ap, sym}
use Rattle.std.specs.List.{list_any}
use Rattle.conc_types.specs.declared.program.Program.{Program}
use Rattle.conc_test_bench_board.proofs.Facts.{none_excluded, not_true}
use Rattle.conc_test_bench_board.proofs.plans.excludes_nothing.Goals as goal

pub returns-then-is_empty : goal.returns-then-is_empty
returns-then-is_empty c = λ none.
    let empty : c.args.plan.now.setup.entries ≡ [] = search rules in
    none_excluded c.args.plan.now empty
    (ap (λ (ps : List Program). list_any (λ p. p.run_alone) ps) (sym c.as_slice.ensures) ∙ (sym c.some_run_alone.ensures ∙ not_true c.some_run_alone.result none))
