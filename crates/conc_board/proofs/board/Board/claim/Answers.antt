use Rattle.std.proofs.Common.{◌≡◌, ◌∙◌, ◌∷◌, ◌++◌, [], ℕ, List, None, ap, eqb-true, inr, rules, subst, sym}
use Rattle.conc_types.specs.declared.plan.Plan.{Plan}
use Rattle.conc_pool_seats.specs.Words.{count_of_requests, place_word}
use Rattle.conc_board.specs.Claims.{AreMissed, FindsNone, LooksNextAtHint}
use Rattle.conc_board.specs.Owners.{manager_at}
use Rattle.conc_board.specs.Seats.{found_by_hand, plan_of}
use Rattle.conc_board.proofs.Scans.{claimed_after, claims_after, closed_hint, found_off, hint_then_any, if_none, looked_at_place, missed_after, no_manager, none_admitted, none_found, open_hint}
use Rattle.conc_board.proofs.board.Board.claim.Goals as goal

pub returns-then-not-is_open-clause-hint : goal.returns-then-not-is_open-clause-hint
returns-then-not-is_open-clause-hint c = let b = c.args.self.now in let e = c.is_open.ensures in let old = found_by_hand c.args.hand.now in
    closed_hint b c.args.place c.args.hint c.args.hand.now c.is_open.new.hand
    (e.found.2 ∙ ap (λ (z : ℕ). old ++ (place_word (plan_of b) c.args.place, z) ∷ []) (found_off e.found.0 e.found.1.0 (sym e.found.1.1 ∙ c.if-not-is_open.true)))

pub returns-in_err-manager-clause-none : goal.returns-in_err-manager-clause-none
returns-in_err-manager-clause-none c = let b = c.args.self.now in let e = c.is_open.ensures in
    let h = c.args.hand.now in let mid = c.is_open.new.hand in let place = c.args.place in
    let o = looked_at_place b place c.is_open.result h mid e.hand c.requires.idle e.same e.found in let word : List (ℕ × ℕ) = (place_word (plan_of b) place, e.found.0) ∷ [] in
    let none : manager_at c.args.plan.now place ≡ None = search rules in
    if_none _ (FindsNone b place h mid)
    (record {
      steps = word;
      made = o;
      cause = inr (subst (λ (z : Plan). AreMissed z place word (count_of_requests z)) c.requires.plan (none_admitted c.args.plan.now place word (count_of_requests c.args.plan.now) none));
    })

pub returns-in_err-manager-clause-hint : goal.returns-in_err-manager-clause-hint
returns-in_err-manager-clause-hint c = let b = c.args.self.now in let e = c.is_open.ensures in
    let h = c.args.hand.now in let mid = c.is_open.new.hand in let place = c.args.place in let old = found_by_hand h in
    let on = e.found.2 ∙ ap (λ (z : ℕ). old ++ (place_word (plan_of b) place, z) ∷ []) (eqb-true e.found.0 1 (sym e.found.1.1 ∙ c.if-not-is_open.false)) in
    let none : manager_at c.args.plan.now place ≡ None = search rules in
    open_hint b place c.args.hint h mid mid on (subst (λ (z : Plan). LooksNextAtHint z place c.args.hint mid mid) c.requires.plan (no_manager c.args.plan.now place c.args.hint mid mid none))

pub returns-in-Some-clause-claimed : goal.returns-in-Some-clause-claimed
returns-in-Some-clause-claimed c = let b = c.args.self.now in let e = c.is_open.ensures in
    let h = c.args.hand.now in let mid = c.is_open.new.hand in let place = c.args.place in
    let o = looked_at_place b place c.is_open.result h mid e.hand c.requires.idle e.same e.found in let word : List (ℕ × ℕ) = (place_word (plan_of b) place, e.found.0) ∷ [] in
    claims_after b place h mid c.claim_hinted.new.hand c.in-Some.claim word o c.in-Some.ensures.claimed

pub returns-in-Some-clause-hint : goal.returns-in-Some-clause-hint
returns-in-Some-clause-hint c = let b = c.args.self.now in let e = c.is_open.ensures in
    let h = c.args.hand.now in let mid = c.is_open.new.hand in let place = c.args.place in let old = found_by_hand h in
    let on = e.found.2 ∙ ap (λ (z : ℕ). old ++ (place_word (plan_of b) place, z) ∷ []) (eqb-true e.found.0 1 (sym e.found.1.1 ∙ c.if-not-is_open.false)) in
    let new = c.claim_hinted.new.hand in
    open_hint b place c.args.hint h mid new on (subst (λ (z : Plan). LooksNextAtHint z place c.args.hint mid new) c.requires.plan c.in-Some.ensures.hint)

pub returns-in-None-clause-claimed : goal.returns-in-None-clause-claimed
returns-in-None-clause-claimed c = let b = c.args.self.now in let e = c.is_open.ensures in
    let h = c.args.hand.now in let mid = c.is_open.new.hand in let place = c.args.place in
    let o = looked_at_place b place c.is_open.result h mid e.hand c.requires.idle e.same e.found in let word : List (ℕ × ℕ) = (place_word (plan_of b) place, e.found.0) ∷ [] in
    let m = c.in-None.ensures.none in let new = c.claim_any.new.hand in
    claimed_after b place h mid new word o c.claim_any.result (claimed_after b place mid c.claim_hinted.new.hand new m.steps m.made c.claim_any.result c.claim_any.ensures.claimed)

pub returns-in-None-clause-none : goal.returns-in-None-clause-none
returns-in-None-clause-none c = let b = c.args.self.now in let e = c.is_open.ensures in
    let h = c.args.hand.now in let mid = c.is_open.new.hand in let place = c.args.place in
    let o = looked_at_place b place c.is_open.result h mid e.hand c.requires.idle e.same e.found in let word : List (ℕ × ℕ) = (place_word (plan_of b) place, e.found.0) ∷ [] in
    let m = c.in-None.ensures.none in let new = c.claim_any.new.hand in
    none_found b place h new c.claim_any.result
    (missed_after b place h mid new word o c.claim_any.result (missed_after b place mid c.claim_hinted.new.hand new m.steps m.made c.claim_any.result c.claim_any.ensures.none))

pub returns-in-None-clause-hint : goal.returns-in-None-clause-hint
returns-in-None-clause-hint c = let b = c.args.self.now in let e = c.is_open.ensures in
    let h = c.args.hand.now in let mid = c.is_open.new.hand in let place = c.args.place in let old = found_by_hand h in
    let on = e.found.2 ∙ ap (λ (z : ℕ). old ++ (place_word (plan_of b) place, z) ∷ []) (eqb-true e.found.0 1 (sym e.found.1.1 ∙ c.if-not-is_open.false)) in
    let new = c.claim_any.new.hand in
    open_hint b place c.args.hint h mid new on (subst (λ (z : Plan). LooksNextAtHint z place c.args.hint mid new) c.requires.plan
    (hint_then_any b c.args.plan.now place c.args.hint mid c.claim_hinted.new.hand new c.claim_any.result c.in-None.ensures.hint c.claim_any.ensures.claimed c.claim_any.ensures.none))
