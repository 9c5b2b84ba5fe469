use Rattle.std.proofs.Common.{◌∙◌, ap, arith}
use Rattle.conc_pool_seats.specs.Places.{has}
use Rattle.conc_pool_seats.proofs.Seats.{splits}
use Rattle.conc_board.proofs.board.Board.split_off.Goals as goal

pub split_seat-seat-requires : goal.split_seat-seat-requires
split_seat-seat-requires g c = let b = c.args.self.now in
    (c.requires.lead.seat, omega (arith, b.words), splits b.table.shared.key _ _ g.J.Passing.passes c.args.lead.now.idle (λ p e. c.requires.places p (ap (λ ps. has ps p) c.requires.pick ∙ e)))
