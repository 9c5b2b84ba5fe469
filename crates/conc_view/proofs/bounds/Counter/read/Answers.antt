use Rattle.std.proofs.Common.{ℕ, rules}
use Rattle.conc_view.proofs.Seated.{reads}
use Rattle.conc_view.proofs.bounds.Counter.read.Goals as goal

pub load-requires : goal.load-requires
load-requires g c = (search rules, search rules, reads ℕ _ _ _)
