use Rattle.std.proofs.Common.{◌≡◌, ◌≤◌, ◌+◌, ◌==◌, ap, arith, refl}
use Rattle.conc_pool_seats.specs.declared.views.View.{View}
use Rattle.conc_pool_seats.proofs.LeadSteps.{sees}
use Rattle.conc_board.proofs.Hands.{stays_noted}
use Rattle.conc_board.proofs.Leads.{adds_one}
use Rattle.conc_board.proofs.board.Board.is_open.Goals as goal

pub load-requires : goal.load-requires
load-requires c = let b = c.args.self.now in let near = c.requires.place.within in
    (c.requires.hand.seat, omega (arith, b.words, b.request_count, b.place_count), sees b.table.shared.key _ _ _ _ (omega (arith, b.request_count)) (omega (arith, b.request_count, b.place_count)))

pub returns-clause-hand : goal.returns-clause-hand
returns-clause-hand c = stays_noted _ _ _ _ c.load.result c.requires.hand c.load.ensures.0 c.load.ensures.2.0

pub returns-clause-same : goal.returns-clause-same
returns-clause-same c = ap (λ (v : View). v.doing) c.load.ensures.2.0

pub returns-clause-found : goal.returns-clause-found
returns-clause-found c = let b = c.args.self.now in
    adds_one (λ n. (n ≤ 1) × ((c.load.result == 1) ≡ (n == 1))) _ (b.requests + c.args.place.index) c.load.result _ _ (omega (arith, b.request_count, b.place_count)) (c.load.ensures.2.2, refl) (ap (λ (v : View). v.found) c.load.ensures.2.0)
