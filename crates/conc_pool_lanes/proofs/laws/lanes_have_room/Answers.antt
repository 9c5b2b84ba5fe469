use Rattle.conc_pool_lanes.proofs.Puts.{puts-shorter}
use Rattle.conc_pool_lanes.proofs.laws.lanes_have_room.Goals as goal

pub returns : goal.returns
returns c = puts-shorter
