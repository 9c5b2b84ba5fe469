use Rattle.std.proofs.Common.{arith}
use Rattle.conc_history.specs.Table.{line_at}
use Rattle.conc_history.proofs.Joined.{joined_more}
use Rattle.conc_history.proofs.table.put_table.Goals as goal

pub loop-r-preserved : goal.loop-r-preserved
loop-r-preserved c =
    joined_more (line_at c.args.plan.now c.args.state.now) _ _ _ c.as_slice-r-items.result.now c.loop-r.r-index _ (omega arith) c.r-item.is c.loop-r.invariant c.in_ok-put_request_line.ensures
