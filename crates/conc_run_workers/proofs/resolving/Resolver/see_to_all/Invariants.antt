use Rattle.conc_run_workers.specs.Resolvers.{Went}
use Rattle.conc_run_workers.proofs.resolving.Resolver.see_to_all.Given as goal

abbrev pub invariant-loop-request : goal.invariant-loop-request
invariant-loop-request g l = Went g.D.Disk g.E.Disk g.T.Teller l.initial.self l.self
