use Rattle.std.proofs.Common.{refl}
use Rattle.conc_run_workers.proofs.Stepping.{directs, loans-same, not-begun}
use Rattle.conc_run_workers.proofs.running.ResolverDirector.direct.Goals as goal

pub returns-in-Some : goal.returns-in-Some
returns-in-Some g c = not-begun (loans-same refl) refl c.dismiss.ensures c.in-Some.ensures

pub returns : goal.returns
returns g c = directs c.resolve-answer.result c.resolve-answer.ensures.steps c.resolve-answer.ensures.finished (loans-same refl) refl c.dismiss-2.ensures
