use Rattle.std.proofs.Common.{reverse}
use Rattle.conc_base_law.proofs.OnePlace.{one_at_place}
use Rattle.conc_base_law.proofs.one_at_a_place.Goals as goal

pub returns : goal.returns
returns c = λ plan history x y place hx hy lawful rx ry. one_at_place plan (reverse history) x y place hx hy lawful rx ry
