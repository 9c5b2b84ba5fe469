use Rattle.conc_run_workers.proofs.Stepping.{none}
use Rattle.conc_run_workers.proofs.resolving.Resolver.see_to_claimed.Goals as goal

pub returns-in-None : goal.returns-in-None
returns-in-None g c = none c.requires (g.met.E.Disk.seen_is_left c.args.self.now.spool.now)
