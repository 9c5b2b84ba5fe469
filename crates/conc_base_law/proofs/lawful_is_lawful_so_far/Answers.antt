use Rattle.std.proofs.Common.{reverse}
use Rattle.conc_base_law.proofs.LawfulSoFar.{lawful_is_lawful_so_far}
use Rattle.conc_base_law.proofs.lawful_is_lawful_so_far.Goals as goal

pub returns : goal.returns
returns c = λ plan readings history h. lawful_is_lawful_so_far plan readings.list (reverse history) readings.in_order h
