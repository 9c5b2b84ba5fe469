use Rattle.conc_pool_lanes.proofs.Rooms.{put-shorter}
use Rattle.conc_pool_lanes.proofs.laws.lists_grow_by_one.Goals as goal

pub returns : goal.returns
returns c = put-shorter
