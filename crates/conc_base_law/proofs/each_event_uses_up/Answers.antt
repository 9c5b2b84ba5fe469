use Rattle.std.proofs.Common.{reverse}
use Rattle.conc_base_law.proofs.Remaining.{remaining_less}
use Rattle.conc_base_law.proofs.each_event_uses_up.Goals as goal

pub returns : goal.returns
returns c = λ plan readings history e past next other. remaining_less plan readings (reverse history) e past next other
