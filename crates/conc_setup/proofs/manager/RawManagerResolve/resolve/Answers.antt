use Rattle.std.proofs.lemmas.Result.{err_from_is_err_and}
use Rattle.conc_data_fields.proofs.Combined.{both-read, judged-fails}
use Rattle.conc_setup.specs.ThirdPass.{resolved_manager}
use Rattle.conc_setup.proofs.Looked.{manager-resolved}
use Rattle.conc_setup.proofs.manager.RawManagerResolve.resolve.Goals as goal

pub returns-in_err-include : goal.returns-in_err-include
unfolding resolved_manager
returns-in_err-include c =
    let read = both-read _ _ _ _ (rw c.as_slice.ensures at c.resolve_good-included.ensures.value) (rw c.as_slice-2.ensures at c.resolve_good-excluded.ensures.value) in
    let fails = err_from_is_err_and c.from_residual.result c.from_residual.ensures.1 in
    rw (fails.1, fails.2) (judged-fails _ _ _ (rw (← c.both.ensures, c.in_err-include.was) at read))

pub returns : goal.returns
returns c =
    let read = both-read _ _ _ _ (rw c.as_slice.ensures at c.resolve_good-included.ensures.value) (rw c.as_slice-2.ensures at c.resolve_good-excluded.ensures.value) in
    manager-resolved c.args.items.now.programs.now c.args.self.now (c.in_ok-include.include, c.in_ok-include.exclude) _
    (rw (← c.both.ensures, c.in_ok-include.was) at read) c.in_ok-manager_with.ensures
