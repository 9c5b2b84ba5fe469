-- The words of a board at its end.
use Rattle.std.proofs.Common.{◌≡◌, ℕ, ◌≤◌, List, length, get_or, sym, ap, ◌∙◌, subst, inl, inr, arith}
use Rattle.atomic_table.specs.Table.{Seen as SeenBy, Final}
use Rattle.conc_types.specs.declared.event.PlaceId.{PlaceId}
use Rattle.conc_types.specs.declared.event.RequestId.{RequestId}
use Rattle.conc_types.specs.declared.plan.Plan.{Plan}
use Rattle.conc_pool_seats.specs.declared.views.Doing.{Doing}
use Rattle.conc_pool_seats.specs.declared.views.Doing.TheVariants.{Idle, Waits, Serves}
use Rattle.conc_pool_seats.specs.declared.views.LeadState.{LeadState}
use Rattle.conc_pool_seats.specs.declared.views.LeadState.TheVariants.{NotLet, Let, Seen, Gone, Got, Done}
use Rattle.conc_pool_seats.specs.declared.views.View.{View}
use Rattle.conc_pool_seats.specs.Places.{has}
use Rattle.conc_pool_seats.specs.Rule.{Fits, Home, Keep, doing_at, view_at}
use Rattle.conc_pool_seats.specs.LeadStates.{lead_state_at, lead_state_in}
use Rattle.conc_pool_seats.specs.Steps.{Slot}
use Rattle.conc_pool_seats.specs.Words.{IsPlace, request_of, request_word}
use Rattle.conc_pool_seats.proofs.Facts.{at_view}
use Rattle.conc_pool_seats.proofs.Moves.{home, led, word}
use Rattle.conc_board.specs.declared.board.Board.{Board}
use Rattle.conc_board.specs.declared.lead.Lead.{Lead}
use Rattle.conc_board.specs.Ends.{EndFits, Ends}
use Rattle.conc_board.specs.Seats.{HasAllPlaces, plan_of}
use Rattle.conc_board.proofs.Leads.{lead_state_in-request}

-- where no hand has a claim or a permit
end_fits : (plan : Plan) (at : PlaceId → Doing) (r : RequestId) → ((p : PlaceId) → IsPlace plan p → at p ≡ Idle) → (st : LeadState) (w : ℕ) (h : Home) → Fits plan at r st w h → EndFits st w
end_fits plan at r idle NotLet w h f = f.0
end_fits plan at r idle Let w h (inl e, _) = e
end_fits plan at r idle Let w h (inr t, _) = absurd (let a : Idle ≡ Waits r t.0 = sym (idle t.0 t.1) ∙ t.3 in cc)
end_fits plan at r idle (Seen p) w h f = let a : Idle ≡ Waits r p = sym (idle p f.0) ∙ f.2 in cc
end_fits plan at r idle (Gone p m) w h (near, inl (e, inl d)) = absurd (let a : Idle ≡ Waits r p = sym (idle p near) ∙ d.0 in cc)
end_fits plan at r idle (Gone p m) w h (near, inl (e, inr d)) = absurd (let a : Idle ≡ Serves r p d.0 = sym (idle p near) ∙ d.1 in cc)
end_fits plan at r idle (Gone p m) w h (near, inr e) = e.0
end_fits plan at r idle (Got p m) w h f = f.1
end_fits plan at r idle (Done m) w h f = f.0

pub ends : (board : Board) (lead : Lead) (ws : List ℕ) (xs : List Slot) → HasAllPlaces board lead →
    Final (SeenBy (Keep (plan_of board)) lead.seat.id lead.seat.me.0) ws xs → Ends board lead ws
ends board lead ws xs all t =
    let plan = plan_of board in let id = lead.seat.id in let v = lead.seat.me.0 in
    let s = t.0 in let k = t.1.0 in let at = t.1.1 in let l = led plan s k id v at lead.leads in let here = at_view s.views id v at in record {
      all = ap (λ (us : List ℕ). length us) (sym t.2) ∙ k.all_words;
      requests = λ r of_plan. let i = request_word r in
          subst (λ (us : List ℕ). EndFits (lead_state_in v.lead_states r) (get_or us i 0)) t.2
          (subst (λ (z : LeadState). EndFits z (word s i)) (sym (lead_state_in-request v.lead_states r of_plan.from_one))
          (end_fits plan (doing_at s.views k.owner) (request_of i)
          (λ p near. ap (λ (j : ℕ). (view_at s.views j).doing) (k.one_owner id p (ap (λ (u : View). has u.places p) here.1 ∙ all.each p near)) ∙ (ap (λ (u : View). u.doing) here.1 ∙ lead.idle))
          (lead_state_at v.lead_states i) (word s i) (home s i) (l.fits i (omega (arith, of_plan.from_one, of_plan.within)))));
      switches = λ i far. subst (λ (us : List ℕ). (get_or us i 0 ≡ get_or v.switches i 0) × (get_or us i 0 ≤ 1)) t.2 (l.each_switch i far, k.switches i far);
    }
