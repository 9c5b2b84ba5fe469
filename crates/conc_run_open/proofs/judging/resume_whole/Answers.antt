use Rattle.std.proofs.Common.{subst, sym, Option, ℕ}
use Rattle.std.proofs.lemmas.Result.{err_from_is_err_and}
use Rattle.conc_run_open.proofs.Bad.{bad-broken, event-broken}
use Rattle.conc_run_open.proofs.Failing.{check-refused, check-unlisted}
use Rattle.conc_run_state.specs.Judging.{IsBadRecord}
use Rattle.conc_run_open.proofs.judging.resume_whole.Goals as goal

pub returns-in_err-machine-clause-unlisted : goal.returns-in_err-machine-clause-unlisted
returns-in_err-machine-clause-unlisted c =
    let p = err_from_is_err_and c.from_residual.result c.from_residual.ensures.1 in
    rw (p.1, p.2) (check-unlisted c.args.plan.now c.args.events.now c.args.broken _ c.in_err-machine.ensures.unlawful)

pub returns-in_err-machine-clause-refused : goal.returns-in_err-machine-clause-refused
returns-in_err-machine-clause-refused c = λ len far.
    let p = err_from_is_err_and c.from_residual.result c.from_residual.ensures.1 in
    rw (p.1, p.2) (check-refused c.args.plan.now c.args.events.now c.args.broken _ c.in_err-machine.ensures.unlawful len far)

pub returns-in-Some-clause-unlisted : goal.returns-in-Some-clause-unlisted
returns-in-Some-clause-unlisted c = event-broken c.args.plan.now c.args.events.now c.args.broken c.in-Some.number c.in-Some.is c.in_ok-machine.ensures.lawful_so_far

pub returns-in-Some-clause-refused : goal.returns-in-Some-clause-refused
returns-in-Some-clause-refused c = λ len far.
    subst (λ (b : Option ℕ). IsBadRecord c.args.plan.now len c.args.events.now b c.in-Some.number) (sym c.in-Some.is)
    (bad-broken c.args.plan.now len c.args.events.now c.in-Some.number c.in_ok-machine.ensures.lawful_so_far far)
