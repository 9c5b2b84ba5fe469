use Rattle.std.proofs.Common.{◌≡◌, ap, length, arith}
use Rattle.conc_types.specs.Cells.{cut}
use Rattle.conc_types.proofs.Places.{length-cut}
use Rattle.conc_types.proofs.cells.Cells.len.Goals as goal

pub returns : goal.returns
returns c =
    let seen : length (cut 0 c.self.inside.ends.items c.self.inside.bytes.items) ≡ length c.args.self.now = ap length c.self.view_is in
    omega (arith, length-cut 0 c.self.inside.ends.items c.self.inside.bytes.items)
