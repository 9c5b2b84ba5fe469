use Rattle.std.proofs.Common.{inl}
use Rattle.std.proofs.lemmas.Result.{err_from_is_err_and}
use Rattle.conc_run_open.proofs.Beginning.{begins-input}
use Rattle.conc_run_open.proofs.opening.open.Goals as goal

pub returns-in_err-examined-clause-given_up : goal.returns-in_err-examined-clause-given_up
returns-in_err-examined-clause-given_up g c = rw (err_from_is_err_and c.from_residual.result c.from_residual.ensures.1).1 (inl c.examine.ensures.untouched)

pub returns-clause-begun : goal.returns-clause-begun
returns-clause-begun g c =
    (begins-input g.D.Disk g.E.Disk c.args.input.now c.in_ok-examined.examined c.args.stores.now.journal.now c.examine.new.stores.journal.now c.begin.new.journal c.args.stores.now.spool.now c.examine.new.stores.spool.now _
    c.in_ok-examined.ensures.input c.in_ok-examined.ensures.examined c.examine.ensures.untouched c.in_ok-work.ensures.begins).begun
