use Rattle.conc_pool_lanes.proofs.Rules.{takes}
use Rattle.conc_pool_lanes.proofs.lane.Lane.take.Goals as goal

pub pop_as-requires-clause-rule : goal.pop_as-requires-clause-rule
pop_as-requires-clause-rule g c = (takes _ _ c.args.taker.now.takes, λ items views h at. tt)
