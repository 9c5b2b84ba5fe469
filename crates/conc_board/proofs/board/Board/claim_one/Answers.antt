use Rattle.std.proofs.Common.{arith}
use Rattle.conc_pool_seats.proofs.HandSteps.{claims_by}
use Rattle.conc_board.proofs.board.Board.claim_one.Goals as goal

pub compare_exchange-word-requires : goal.compare_exchange-word-requires
compare_exchange-word-requires c =
    let b = c.args.self.now in let q = c.requires.request in let word = c.request_word.ensures in
    (c.requires.may.hand.seat, omega (arith, b.words), claims_by b.table.shared.key _ _ _ c.request_word.result c.args.place c.claimed.result c.claimed.ensures (omega arith) c.requires.may.of_plan c.requires.may.own c.requires.may.idle)
