use Rattle.std.proofs.Common.{◌≡◌, ◌∙◌, Option, true, subst, sym, true≢false}
use Rattle.conc_types.specs.declared.event.RequestId.{RequestId}
use Rattle.conc_types.specs.declared.plan.Plan.{Plan}
use Rattle.conc_pool_seats.specs.Words.{IsRequest}
use Rattle.conc_board.specs.Admission.{admits_at}
use Rattle.conc_board.specs.Claims.{LooksNextAtHint}
use Rattle.conc_board.proofs.Scans.{admitted_at, admitted_is_request, next_one}
use Rattle.conc_board.proofs.board.Board.claim_hinted.Goals as goal

pub claim_one-requires-clause-request : goal.claim_one-requires-clause-request
claim_one-requires-clause-request c = subst (λ (z : Plan). IsRequest z c.in_ok-r.r) c.requires.plan
    (admitted_is_request c.args.at.now.plan.now c.in_ok-r.r c.args.at.now.manager.now (sym (admitted_at c.args.at.now.plan.now c.args.at.now.place c.in_ok-r.r c.args.at.now.manager.now c.args.at.now.has_place) ∙ (sym c.admits.ensures ∙ c.if-not-admits.false)))

pub claim_one-requires-clause-admitted : goal.claim_one-requires-clause-admitted
claim_one-requires-clause-admitted c = let plan = c.args.at.now.plan.now in
    subst (λ (z : Plan). admits_at z c.args.at.now.place c.in_ok-r.r ≡ true) c.requires.plan
    (sym c.admits.ensures ∙ c.if-not-admits.false)

pub returns-in_err-r-clause-hint : goal.returns-in_err-r-clause-hint
returns-in_err-r-clause-hint c = subst (λ (h : Option RequestId). LooksNextAtHint c.args.at.now.plan.now c.args.at.now.place h c.args.hand.now c.args.hand.now) (sym c.in_err-r.was) tt

pub returns-then-not-admits-clause-hint : goal.returns-then-not-admits-clause-hint
returns-then-not-admits-clause-hint c = let plan = c.args.at.now.plan.now in let r = c.in_ok-r.r in
    subst (λ (h : Option RequestId). LooksNextAtHint plan c.args.at.now.place h c.args.hand.now c.args.hand.now) (sym c.in_ok-r.was)
    (λ admitted. absurd (true≢false (sym admitted ∙ (sym c.admits.ensures ∙ c.if-not-admits.true))))

pub returns-clause-hint : goal.returns-clause-hint
returns-clause-hint c = subst (λ (h : Option RequestId). LooksNextAtHint c.args.at.now.plan.now c.args.at.now.place h c.args.hand.now c.claim_one.new.hand) (sym c.in_ok-r.was)
    (λ admitted. next_one c.args.self.now c.args.at.now.place c.in_ok-r.r c.args.hand.now c.claim_one.new.hand c.claim_one.result c.claim_one.ensures.claimed c.claim_one.ensures.none)
