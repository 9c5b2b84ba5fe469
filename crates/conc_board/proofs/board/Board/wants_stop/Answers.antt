use Rattle.std.proofs.Common.{◌∙◌, ◌==◌, ◌||◌, ◌∷◌, ◌++◌, [], ℕ, arith, ap, subst, sym}
use Rattle.conc_types.specs.declared.event.RequestId.{RequestId}
use Rattle.conc_pool_seats.specs.declared.views.Doing.{Doing}
use Rattle.conc_pool_seats.specs.declared.views.Doing.TheVariants.{Serves}
use Rattle.conc_pool_seats.specs.declared.views.View.{View}
use Rattle.conc_pool_seats.specs.Doings.{warned}
use Rattle.conc_pool_seats.specs.Steps.{ServedFits}
use Rattle.conc_pool_seats.proofs.HandSteps.{warns}
use Rattle.conc_board.specs.Seats.{doing_of, plan_of}
use Rattle.conc_board.proofs.Hands.{stays_doing}
use Rattle.conc_board.proofs.Leads.{request_there}
use Rattle.conc_board.proofs.PolledSo.{serves_within, warned-serves, warned_admitted, warned_within}
use Rattle.conc_board.proofs.board.Board.wants_stop.Goals as goal

pub request_word-requires : goal.request_word-requires
request_word-requires c = let permit = c.args.permit.now in
    (serves_within (plan_of c.args.self.now) (doing_of c.args.hand.now) permit.request permit.place c.requires.permit.0 c.requires.permit.1 c.requires.hand.within).0.from_one

pub load-word-requires : goal.load-word-requires
load-word-requires c =
    let b = c.args.self.now in let permit = c.args.permit.now in let i = c.request_word.result in let stop = c.requires.permit.0 in
    let within = serves_within (plan_of b) (doing_of c.args.hand.now) permit.request permit.place stop c.requires.permit.1 c.requires.hand.within in
    let of_plan = within.0 in let word = c.request_word.ensures in (
      c.requires.hand.seat,
      omega (arith, b.words),
      warns b.table.shared.key _ _ _ i permit.place stop (c.requires.permit.1 ∙ ap (λ (z : RequestId). Serves z permit.place stop) (sym (request_there permit.request i word of_plan.from_one))) (omega arith),
    )

pub returns-clause-hand : goal.returns-clause-hand
returns-clause-hand c = stays_doing _ _ _ (warned (doing_of c.args.hand.now) c.load-word.result) c.request_word.result c.load-word.result c.requires.hand c.load-word.ensures.0 c.load-word.ensures.2.0
    (warned_within (plan_of c.args.self.now) (doing_of c.args.hand.now) c.load-word.result c.requires.hand.within)
    (warned_admitted (plan_of c.args.self.now) (doing_of c.args.hand.now) c.load-word.result c.requires.hand.admitted)

pub returns-clause-warned : goal.returns-clause-warned
returns-clause-warned c =
    let permit = c.args.permit.now in let stop = c.requires.permit.0 in let n = c.load-word.result in let v = c.args.hand.now.seat.me.0 in
    let answers = ap (λ (z : ℕ). n == z) c.stopping.ensures in record {
      stop = stop;
      loaded = n;
      was = c.requires.permit.1;
      now = ap (λ (u : View). u.doing) c.load-word.ensures.2.0 ∙ (ap (λ (d : Doing). warned d n) c.requires.permit.1
          ∙ (warned-serves permit.request permit.place stop n ∙ ap (λ b. Serves permit.request permit.place (b || stop)) (sym answers)));
      answers = answers;
      fits = subst (λ (d : Doing). ServedFits d n) c.requires.permit.1 c.load-word.ensures.2.2;
      found = ap (λ (u : View). u.found) c.load-word.ensures.2.0 ∙ ap (λ (z : ℕ). v.found ++ (z, n) ∷ []) c.request_word.ensures;
    }

pub returns-clause-posts : goal.returns-clause-posts
returns-clause-posts c = ap (λ (u : View). u.posts) c.load-word.ensures.2.0
