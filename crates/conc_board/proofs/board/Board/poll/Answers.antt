use Rattle.std.proofs.Common.{◌∙◌, arith, ap, sym}
use Rattle.conc_types.specs.declared.event.RequestId.{RequestId}
use Rattle.conc_pool_seats.specs.declared.views.Doing.TheVariants.{Waits}
use Rattle.conc_pool_seats.specs.declared.views.View.{View}
use Rattle.conc_pool_seats.specs.Doings.{carried_by, polled}
use Rattle.conc_pool_seats.proofs.HandSteps.{polls}
use Rattle.conc_board.specs.Seats.{doing_of, plan_of}
use Rattle.conc_board.proofs.Hands.{stays_doing}
use Rattle.conc_board.proofs.Leads.{request_there}
use Rattle.conc_board.proofs.PolledSo.{polled_admitted, polled_within, polls_so, waits_within}
use Rattle.conc_board.proofs.board.Board.poll.Goals as goal

pub request_word-requires : goal.request_word-requires
request_word-requires c = (waits_within (plan_of c.args.self.now) (doing_of c.args.hand.now) c.args.claim.request c.args.claim.place c.requires.claim c.requires.hand.within).0.from_one

pub load-word-requires : goal.load-word-requires
load-word-requires c =
    let b = c.args.self.now in let claim = c.args.claim in let i = c.request_word.result in
    let within = waits_within (plan_of b) (doing_of c.args.hand.now) claim.request claim.place c.requires.claim c.requires.hand.within in
    let of_plan = within.0 in let word = c.request_word.ensures in (
      c.requires.hand.seat,
      omega (arith, b.words),
      polls b.table.shared.key _ _ _ i claim.place (c.requires.claim ∙ ap (λ (z : RequestId). Waits z claim.place) (sym (request_there claim.request i word of_plan.from_one)))
          (c.args.hand.now.carries ∙ ap carried_by c.requires.claim) (omega arith),
    )

pub returns-clause-hand : goal.returns-clause-hand
returns-clause-hand c = stays_doing _ _ _ (polled (doing_of c.args.hand.now) c.load-word.result) c.request_word.result c.load-word.result c.requires.hand c.load-word.ensures.0 c.load-word.ensures.2.0
    (polled_within (plan_of c.args.self.now) (doing_of c.args.hand.now) c.load-word.result c.requires.hand.within)
    (polled_admitted (plan_of c.args.self.now) (doing_of c.args.hand.now) c.load-word.result c.requires.hand.admitted)

pub returns-clause-polled : goal.returns-clause-polled
returns-clause-polled c = polls_so (plan_of c.args.self.now) c.args.claim c.args.hand.now _ c.request_word.result c.load-word.result c.requires.claim c.load-word.ensures.2.0 c.request_word.ensures
    c.polled_by.result c.polled_by.ensures

pub returns-clause-posts : goal.returns-clause-posts
returns-clause-posts c = ap (λ (u : View). u.posts) c.load-word.ensures.2.0
