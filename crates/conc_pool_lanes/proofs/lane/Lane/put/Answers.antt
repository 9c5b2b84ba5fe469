use Rattle.conc_pool_lanes.proofs.Rules.{learns, puts}
use Rattle.conc_pool_lanes.proofs.lane.Lane.put.Goals as goal

pub push_as-requires-clause-rule : goal.push_as-requires-clause-rule
push_as-requires-clause-rule g c = (puts _ _ _ _ c.args.putter.now.puts, learns _ _ c.args.putter.now.puts)
