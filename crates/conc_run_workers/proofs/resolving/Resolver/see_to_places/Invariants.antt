use Rattle.conc_run_workers.specs.Resolvers.{Went}
use Rattle.conc_run_workers.proofs.resolving.Resolver.see_to_places.Given as goal

abbrev pub invariant-loop-index : goal.invariant-loop-index
invariant-loop-index g l = Went g.D.Disk g.E.Disk g.T.Teller l.initial.self l.self
