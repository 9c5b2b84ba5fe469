use Rattle.std.proofs.Common.{ℕ, rules}
use Rattle.conc_view.proofs.Seated.{hears, reads, seats}
use Rattle.conc_view.proofs.bounds.Counter.hear.Goals as goal

pub split_seat-seat-requires : goal.split_seat-seat-requires
split_seat-seat-requires g c = (search rules, search rules, seats ℕ _ _)

pub join_seat-requires : goal.join_seat-requires
join_seat-requires g c = (search rules, search rules, search rules, search rules, hears ℕ _ _ _ _)

pub load-requires : goal.load-requires
load-requires g c = (search rules, search rules, reads ℕ _ _ _)
