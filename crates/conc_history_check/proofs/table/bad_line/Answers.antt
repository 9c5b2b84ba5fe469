use Rattle.std.proofs.Common.{◌≤◌, length, arith}
use Rattle.conc_history_check.proofs.Offsets.{next_within}
use Rattle.conc_history_check.proofs.table.bad_line.Goals as goal

pub slice_bounds-first_other-count : goal.slice_bounds-first_other-count
slice_bounds-first_other-count c = rw c.requires (next_within _ c.args.bytes.now)

pub slice_bounds-first_other-start : goal.slice_bounds-first_other-start
slice_bounds-first_other-start c =
    let within : c.args.lines.now.next ≤ length c.args.bytes.now = slice_bounds-first_other-count c in
    omega arith
