use Rattle.std.proofs.Common.{◌≡◌, ◌+◌, true, length, arith}
use Rattle.std.specs.Result.{is_ok}
use Rattle.conc_types.proofs.Places.{AreEnds-push, cut-push}
use Rattle.conc_types.proofs.cells.Cells.push.Goals as goal

pub invariant_of-self-else-is_err : goal.invariant_of-self-else-is_err
invariant_of-self-else-is_err c =
    let ok : is_ok c.extend_from_slice.result ≡ true = grind arith in
    let more = rw ok at c.extend_from_slice.ensures.items in
    let end : c.len.result + length c.args.cell.now ≡ length c.self.inside.bytes.items + length c.args.cell.now = omega arith in
    rw (c.in_ok-push.ensures.items, more) (AreEnds-push 0 c.self.inside.ends.items c.self.inside.bytes.items c.args.cell.now _ end c.self.invariant)

pub returns-clause-ok : goal.returns-clause-ok
returns-clause-ok c =
    let ok : is_ok c.extend_from_slice.result ≡ true = grind arith in
    let more = rw ok at c.extend_from_slice.ensures.items in
    let end : c.len.result + length c.args.cell.now ≡ length c.self.inside.bytes.items + length c.args.cell.now = omega arith in
    rw (← c.self.view_is, c.in_ok-push.ensures.items, more) (cut-push 0 c.self.inside.ends.items c.self.inside.bytes.items c.args.cell.now _ end c.self.invariant)
