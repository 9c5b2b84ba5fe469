use Rattle.conc_pool_lanes.proofs.Lists.{lists_for-more}
use Rattle.conc_pool_lanes.proofs.laws.lists_take_one_more.Goals as goal

pub returns : goal.returns
returns c = lists_for-more
