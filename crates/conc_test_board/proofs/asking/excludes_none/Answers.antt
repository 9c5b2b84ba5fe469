use Rattle.std.proofs.Common.{◌≡◌, ◌∙◌, List, Some, ap, not, sym, rules}
use Rattle.std.specs.List.{list_all}
use Rattle.conc_types.specs.declared.plan.Req.{Req}
use Rattle.conc_types.specs.Plans.{request}
use Rattle.conc_base_law.specs.Plans.{are_exclusive}
use Rattle.conc_test_board.proofs.Rules.{excludes_no}
use Rattle.conc_test_board.proofs.asking.excludes_none.Goals as goal

pub returns-in-Some : goal.returns-in-Some
returns-in-Some c = λ all.
    let found : request c.args.plan.now c.args.r ≡ Some c.in-Some.x.now = search rules in
    excludes_no c.args.plan.now c.args.r c.in-Some.x.now found
    (ap (λ (xs : List Req). list_all (λ y. not (are_exclusive c.args.plan.now c.in-Some.x.now y)) xs) (sym c.as_slice.ensures) ∙ (sym c.excludes_no_other.ensures ∙ all))
