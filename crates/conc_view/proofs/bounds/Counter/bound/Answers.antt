use Rattle.std.proofs.Common.{ℕ, rules}
use Rattle.conc_view.proofs.Seated.{seats}
use Rattle.conc_view.proofs.bounds.Counter.bound.Goals as goal

pub split_seat-seat-requires : goal.split_seat-seat-requires
split_seat-seat-requires g c = (search rules, search rules, seats ℕ _ _)
