use Rattle.conc_pool_lanes.proofs.Rules.{begins}
use Rattle.conc_pool_lanes.proofs.lane.Lane.new.Goals as goal

pub ruled-requires-clause-rule : goal.ruled-requires-clause-rule
ruled-requires-clause-rule c = begins
