use Rattle.std.proofs.Common.{◌≡◌, ◌∙◌, ◌∷◌, ◌++◌, [], ℕ, List, arith, false, subst, sym}
use Rattle.conc_types.specs.declared.event.RequestId.{RequestId}
use Rattle.conc_pool_seats.specs.Words.{request_of, request_word}
use Rattle.conc_board.specs.declared.hand.Hand.{Hand}
use Rattle.conc_board.specs.Admission.{admits_at}
use Rattle.conc_board.specs.Claims.{ClaimsNone}
use Rattle.conc_board.proofs.Scans.{are_missed_more, are_missed_same, missed_one, none_after}
use Rattle.conc_board.proofs.board.Board.claim_any.Goals as goal
use Rattle.conc_board.proofs.board.Board.claim_any.Goals.{then-admits+in-None, else-admits}

pub loop-index-preserved : goal.loop-index-preserved
loop-index-preserved c =
    let inv = c.loop-index.invariant in let index = c.loop-index.index in let r : RequestId = request_of index in
    let b = c.args.self.now in let old = c.args.hand.now in
    let word : index ≡ request_word r = omega arith in
    elim c.if-admits.branch [
      | then-admits+in-None w ↦ let m = w.in-None.ensures.none in let steps : List (ℕ × ℕ) = inv.steps ++ (index, m.found.0) ∷ [] in record {
        steps = steps;
        made = subst (λ (h : Hand). ClaimsNone b old h steps) (sym w.hand-is) (none_after b old c.loop-index.hand _ inv.steps ((index, m.found.0) ∷ []) inv.made (missed_one b r index c.loop-index.hand _ m word));
        missed = are_missed_more c.args.at.now.plan.now c.args.at.now.place inv.steps index m.found.0 inv.missed m.found.1;
      }
      | else-admits w ↦ let not : admits_at c.args.at.now.plan.now c.args.at.now.place r ≡ false = sym c.admits.ensures ∙ w.if-admits.false in record {
        steps = inv.steps;
        made = subst (λ (h : Hand). ClaimsNone b old h inv.steps) (sym w.hand-is) inv.made;
        missed = are_missed_same c.args.at.now.plan.now c.args.at.now.place inv.steps index inv.missed not;
      }
    ]
