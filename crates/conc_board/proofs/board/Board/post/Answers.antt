use Rattle.std.proofs.Common.{◌≡◌, ◌∙◌, ℕ, List, ◌∷◌, ◌++◌, [], Option, Some, None, arith, ap, false, subst, sym}
use Rattle.atomic_table.specs.Table.{rest}
use Rattle.conc_types.specs.declared.event.RequestId.{RequestId}
use Rattle.conc_pool_seats.specs.declared.posted.Posted.{Posted}
use Rattle.conc_pool_seats.specs.declared.views.Doing.{Doing}
use Rattle.conc_pool_seats.specs.declared.views.Doing.TheVariants.{Idle, Serves}
use Rattle.conc_pool_seats.specs.declared.views.View.{View}
use Rattle.conc_pool_seats.specs.Doings.{carried_by}
use Rattle.conc_pool_seats.specs.Reports.{MayLeave}
use Rattle.conc_pool_seats.specs.Rule.{Runs}
use Rattle.conc_pool_seats.specs.Steps.{ServedFits, with_doing, with_left, with_post}
use Rattle.conc_pool_seats.proofs.HandSteps.{posts_by}
use Rattle.conc_board.specs.Seats.{doing_of, plan_of}
use Rattle.conc_board.proofs.Hands.{stays_left}
use Rattle.conc_board.proofs.Leads.{adds_one, request_there}
use Rattle.conc_board.proofs.PolledSo.{runs_at_all, serves_within}
use Rattle.conc_board.proofs.board.Board.post.Goals as goal

pub request_word-word-requires : goal.request_word-word-requires
request_word-word-requires c = let permit = c.args.permit in
    (serves_within (plan_of c.args.self.now) (doing_of c.args.hand.now) permit.request permit.place c.requires.permit.0 c.requires.permit.1 c.requires.hand.within).0.from_one

pub exchange-requires : goal.exchange-requires
exchange-requires c =
    let i = c.request_word-word.result in
    let carried = c.args.hand.now.carries ∙ ap carried_by c.requires.permit.1 in
    (c.requires.hand.seat, (None, carried ∙ (ap (λ (z : ℕ). (z, None) ∷ []) (sym c.request_word-word.ensures) ∙ ap (λ (cs : List (ℕ × Option Posted)). (i, None) ∷ cs) (sym (ap rest carried)))))

pub swap-requires : goal.swap-requires
swap-requires c =
    let b = c.args.self.now in let permit = c.args.permit in let i = c.request_word-word.result in let stop = c.requires.permit.0 in
    let within = serves_within (plan_of b) (doing_of c.args.hand.now) permit.request permit.place stop c.requires.permit.1 c.requires.hand.within in
    let of_plan = within.0 in let word = c.request_word-word.ensures in
    let there = request_there permit.request i word of_plan.from_one in
    let e = c.exchange.ensures in
    let carried = c.args.hand.now.carries ∙ ap carried_by c.requires.permit.1 in (
      e.0 ∙ c.requires.hand.seat,
      omega (arith, b.words),
      posts_by b.table.shared.key _ _ _ i permit.place stop c.args.posted c.ended.result c.ended.ensures
          (ap (λ m. m.0.doing) e.3 ∙ (c.requires.permit.1 ∙ ap (λ (z : RequestId). Serves z permit.place stop) (sym there)))
          (ap (λ m. m.1) e.3 ∙ ap (λ (cs : List (ℕ × Option Posted)). (i, Some c.args.posted) ∷ rest cs) carried)
          (subst (λ (z : RequestId). MayLeave (plan_of b) z stop c.args.posted) (sym there) c.requires.permit.2) (omega arith),
    )

-- the view of the hand that posted: what was in the slot is what it left
left_then : (old mid : View × List (ℕ × Option Posted)) (w : View) (i n : ℕ) (x : Posted) → mid ≡ (old.0, (i, Some x) ∷ rest old.1) → w ≡ with_left (with_doing mid.0 Idle i n) mid.1
    → w ≡ with_post (with_doing old.0 Idle i n) i x
left_then old mid w i n x exchanged left = left ∙ ap (λ (m : View × List (ℕ × Option Posted)). with_left (with_doing m.0 Idle i n) m.1) exchanged

pub returns-clause-hand : goal.returns-clause-hand
returns-clause-hand c =
    let i = c.request_word-word.result in let n = c.swap.result in
    stays_left _ _ _ Idle i n c.args.posted c.requires.hand (c.swap.ensures.0 ∙ c.exchange.ensures.0)
    (left_then c.args.hand.now.seat.me c.exchange.new.seat.me c.swap.new.seat.me.0 i n c.args.posted c.exchange.ensures.3 c.swap.ensures.2.0) tt tt

pub returns-clause-posted : goal.returns-clause-posted
returns-clause-posted c =
    let i = c.request_word-word.result in let n = c.swap.result in let v = c.args.hand.now.seat.me.0 in
    ap (λ (u : View). u.posts) (left_then c.args.hand.now.seat.me c.exchange.new.seat.me c.swap.new.seat.me.0 i n c.args.posted c.exchange.ensures.3 c.swap.ensures.2.0)
    ∙ ap (λ (z : ℕ). v.posts ++ (z, c.args.posted) ∷ []) c.request_word-word.ensures

pub returns-clause-found : goal.returns-clause-found
returns-clause-found c = let permit = c.args.permit in let i = c.request_word-word.result in let n = c.swap.result in let stop = c.requires.permit.0 in
    adds_one (Runs false permit.place) _ i n _ _ c.request_word-word.ensures
    (runs_at_all stop permit.place n (subst (λ (d : Doing). ServedFits d n) (ap (λ m. m.0.doing) c.exchange.ensures.3 ∙ c.requires.permit.1) c.swap.ensures.2.2))
    (ap (λ (u : View). u.found) (left_then c.args.hand.now.seat.me c.exchange.new.seat.me c.swap.new.seat.me.0 i n c.args.posted c.exchange.ensures.3 c.swap.ensures.2.0))
