use Rattle.std.proofs.Common.{◌≤◌, ◌+◌, arith}
use Rattle.conc_pool_seats.proofs.LeadSteps.{switches}
use Rattle.conc_board.proofs.Leads.{sets_flag}
use Rattle.conc_board.proofs.board.Board.finish_all.Goals as goal

pub swap-requires : goal.swap-requires
swap-requires c = let b = c.args.self.now in
    (c.requires.lead.seat, omega (arith, b.words, b.request_count, b.place_count), switches b.table.shared.key _ _ _ _ _ c.args.lead.now.leads (omega (arith, b.request_count)) (omega (arith, b.request_count, b.place_count)) (omega arith))

pub returns : goal.returns
returns c = let b = c.args.self.now in
    sets_flag _ _ _ (b.requests + b.places) _ _ c.swap.result c.requires.lead (omega (arith, b.request_count, b.place_count)) (omega arith) c.swap.ensures.0 c.swap.ensures.2.0 c.swap.ensures.2.2 c.swap.ensures.2.3
