use Rattle.std.proofs.Common.{[], arith}
use Rattle.conc_history.specs.Listing.{listed}
use Rattle.conc_history.proofs.Joined.{joined_more}
use Rattle.conc_history.proofs.listing.put_plan.Goals as goal

pub loop-r-preserved : goal.loop-r-preserved
loop-r-preserved c =
    joined_more (listed c.args.plan.now) [] _ _ c.as_slice-r-items.result.now c.loop-r.r-index _ (omega arith) c.r-item.is c.loop-r.invariant c.in_ok-put_listed.ensures
