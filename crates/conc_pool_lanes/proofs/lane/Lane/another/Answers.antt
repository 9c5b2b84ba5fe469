use Rattle.conc_pool_lanes.proofs.Rules.{forks}
use Rattle.conc_pool_lanes.proofs.lane.Lane.another.Goals as goal

pub another-requires-clause-rule : goal.another-requires-clause-rule
another-requires-clause-rule c = forks _ _
