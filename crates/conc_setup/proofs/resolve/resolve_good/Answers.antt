use Rattle.conc_setup.proofs.Outcomes.{good_count}
use Rattle.conc_setup.proofs.resolve.resolve_good.Goals as goal

pub returns-clause-count : goal.returns-clause-count
returns-clause-count g c =
    good_count (g.T.Resolve.resolved c.args.items.now.programs.now c.args.items.now.sets.now) c.args.values.now c.all_good.result (rw c.in_ok-all.ensures at c.all_good.ensures)
