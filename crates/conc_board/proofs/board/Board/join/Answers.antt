use Rattle.std.proofs.Common.{◌∙◌, ap, arith}
use Rattle.conc_pool_seats.specs.Doings.{carried_by}
use Rattle.conc_pool_seats.proofs.Seats.{joins}
use Rattle.conc_board.proofs.board.Board.join.Goals as goal

pub join_seat-requires : goal.join_seat-requires
join_seat-requires c = let b = c.args.self.now in let h = c.args.hand in
    (c.requires.lead.seat, c.requires.hand.seat, h.carries ∙ ap carried_by c.requires.idle, omega (arith, b.words), joins b.table.shared.key _ _ _ _ c.args.lead.now.leads c.args.lead.now.idle h.serves c.requires.idle)
