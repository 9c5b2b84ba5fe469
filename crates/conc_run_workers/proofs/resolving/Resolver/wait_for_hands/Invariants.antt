use Rattle.conc_run_workers.specs.Resolvers.{Went}
use Rattle.conc_run_workers.proofs.resolving.Resolver.wait_for_hands.Given as goal

abbrev pub invariant-loop : goal.invariant-loop
invariant-loop g l = Went g.D.Disk g.E.Disk g.T.Teller l.initial.self l.self
