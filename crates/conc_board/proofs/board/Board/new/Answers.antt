use Rattle.std.proofs.Common.{◌≡◌, ◌∙◌, ◌+◌, ◌<◌, ℕ, ap, arith, get_or, replicate, rules, subst, sym, None}
use Rattle.atomic_table.specs.Table.{opening}
use Rattle.conc_types.specs.declared.plan.Plan.{Plan}
use Rattle.conc_base_law.specs.Places.{count_of_places}
use Rattle.conc_pool_seats.specs.Places.{has}
use Rattle.conc_pool_seats.specs.Rule.{Keep, first_view}
use Rattle.conc_pool_seats.specs.Words.{count_of_words}
use Rattle.conc_pool_seats.proofs.Facts.{replicate_at}
use Rattle.conc_pool_seats.proofs.Seats.{opens}
use Rattle.conc_board.proofs.Opened.{has-below}
use Rattle.conc_board.proofs.board.Board.new.Goals as goal

pub vacant-requires : goal.vacant-requires
vacant-requires c =
    let plan = c.args.plan.now in let ws = c.as_slice.result.now in
    let zeros : ws ≡ replicate (c.len-requests.result + c.place_count-places.result + 1) 0 = search rules in
    let all : c.len-requests.result + c.place_count-places.result + 1 ≡ count_of_words plan = omega arith in
    subst (λ (z : ℕ). Keep plan (opening ws (replicate z None) (first_view plan))) (sym c.len-requests.ensures)
    (opens plan (omega (arith, c.place_count-places.ensures.few)) ws (zeros ∙ ap (λ (z : ℕ). replicate z 0) all))

pub returns-clause-places : goal.returns-clause-places
returns-clause-places c = let t = c.in_ok-table.ensures in record {
  each = λ p near. ap (λ m. has m.0.places p) t.4
      ∙ has-below (count_of_places c.args.plan.now) p (subst (λ (z : Plan). p.index < count_of_places z) t.5 near.within);
}

pub returns-clause-set : goal.returns-clause-set
returns-clause-set c = let t = c.in_ok-table.ensures in record {
  each = λ word. ap (λ m. get_or m.0.switches word 0) t.4 ∙ replicate_at (count_of_words c.args.plan.now) word 0;
}
