use Rattle.std.proofs.lemmas.Option.{same_Some}
use Rattle.std.proofs.Common.{◌≡◌, ◌∙◌, ℕ, Bool, List, length, sym, refl, ap, inr, subst, ◌∷◌, ◌++◌, [], Some, None, Option, get_or-set_same, length-set, arith}
use Rattle.atomic_table.specs.Table.{rest}
use Rattle.conc_types.specs.declared.event.PlaceId.{PlaceId}
use Rattle.conc_types.specs.declared.event.RequestId.{RequestId}
use Rattle.conc_types.specs.declared.plan.Plan.{Plan}
use Rattle.conc_pool_seats.specs.declared.posted.Posted.{Posted}
use Rattle.conc_pool_seats.specs.declared.views.LeadState.{LeadState}
use Rattle.conc_pool_seats.specs.declared.views.LeadState.TheVariants.{Done, Gone, Got, NotLet}
use Rattle.conc_pool_seats.specs.declared.views.View.{View}
use Rattle.conc_pool_seats.specs.Courses.{GoesOn}
use Rattle.conc_pool_seats.specs.LeadStates.{WordFits, cleared, got, lead_state_at, lead_state_in}
use Rattle.conc_pool_seats.specs.Steps.{EndedFits, with_lead_state, with_post}
use Rattle.conc_pool_seats.specs.Words.{IsRequest, count_of_requests, ended, request_word}
use Rattle.conc_pool_seats.proofs.LeadSteps.{clears, collects}
use Rattle.conc_board.specs.Seats.{lead_state_of}
use Rattle.conc_board.proofs.Leads.{adds_two, changes_twice, lead_state_there, new_lead_state}
use Rattle.conc_board.proofs.StoppedSo.{gone_place}
use Rattle.conc_board.proofs.board.Board.collect.Goals as goal

-- where the word was found Ended, the request was then got, and then done
module _ (plan : Plan) (r : RequestId) (v mid w : View) (i : ℕ) (p : PlaceId) (m : Bool) (n k : ℕ) (x : Posted) (all : length v.lead_states ≡ count_of_requests plan) (of_plan : IsRequest plan r) (word : i ≡ request_word r)
    (was : lead_state_in v.lead_states r ≡ Gone p m) (one : mid ≡ with_post (with_lead_state v i (got (lead_state_at v.lead_states i)) n) i x) (two : w ≡ with_lead_state mid i (cleared (lead_state_at mid.lead_states i)) k) where
  got_then : lead_state_at mid.lead_states i ≡ Got p m
  got_then = ap (λ (u : View). lead_state_at u.lead_states i) one
      ∙ (get_or-set_same v.lead_states i (got (lead_state_at v.lead_states i)) NotLet (omega (arith, of_plan.from_one, of_plan.within)) ∙ ap got (lead_state_there v.lead_states r i word of_plan.from_one ∙ was))

  done_then : w ≡ with_lead_state mid i (Done m) k
  done_then = two ∙ ap (λ (z : LeadState). with_lead_state mid i (cleared z) k) got_then

  all_then : length mid.lead_states ≡ count_of_requests plan
  all_then = ap (λ (u : View). length u.lead_states) one ∙ (length-set v.lead_states i (got (lead_state_at v.lead_states i)) ∙ all)

  ends_done : lead_state_in w.lead_states r ≡ Done m
  ends_done = new_lead_state plan r mid w i (Done m) k all_then of_plan word done_then

  finds_ended : EndedFits (lead_state_at v.lead_states i) n → WordFits (lead_state_at mid.lead_states i) k → w.found ≡ v.found ++ (request_word r, ended p) ∷ (request_word r, ended p) ∷ []
  finds_ended first second =
      let a : n ≡ ended p = subst (λ (z : LeadState). EndedFits z n) (lead_state_there v.lead_states r i word of_plan.from_one ∙ was) first in
      let b : k ≡ ended p = subst (λ (z : LeadState). WordFits z k) got_then second in
      adds_two (request_word r) i (ended p) (ended p) v.found mid.found w.found word
      (ap (λ (u : View). u.found) one ∙ ap (λ (z : ℕ). v.found ++ (i, z) ∷ []) a)
      (ap (λ (u : View). u.found) two ∙ (λ x. mid.found ++ (word x, b x) ∷ []))

pub load-requires : goal.load-requires
load-requires c =
    let b = c.args.self.now in let q = c.requires.request in let word = c.request_word-word.ensures in
    let t = gone_place (lead_state_of c.args.lead.now c.args.r) c.requires.lead_state in
    let there = lead_state_there c.args.lead.now.seat.me.0.lead_states c.args.r c.request_word-word.result word q.from_one in (
      c.requires.lead.seat,
      omega (arith, b.words),
      collects b.table.shared.key _ _ _ c.request_word-word.result t.0 t.1 c.args.lead.now.leads (omega arith) (there ∙ t.2),
    )

pub take_out-requires : goal.take_out-requires
take_out-requires c =
    let i = c.request_word-word.result in let t = c.load.ensures.2.0 c.if-load-ne4.false in let x = t.1.0 in let e = t.1.2 in
    (c.load.ensures.0 ∙ c.requires.lead.seat, (Some x, e ∙ ap (λ (cs : List (ℕ × Option Posted)). (i, Some x) ∷ cs) (sym (ap rest e))))

pub swap-requires : goal.swap-requires
swap-requires c =
    let b = c.args.self.now in let q = c.requires.request in let i = c.request_word-word.result in let word = c.request_word-word.ensures in
    let v = c.args.lead.now.seat.me.0 in let all = c.requires.lead.lead_states in
    let g = gone_place (lead_state_of c.args.lead.now c.args.r) c.requires.lead_state in
    let there = lead_state_there v.lead_states c.args.r i word q.from_one ∙ g.2 in
    let e = c.take_out.ensures in let t = c.load.ensures.2.0 c.if-load-ne4.false in
    let view = ap (λ m. m.0) e.3 in (
      e.0 ∙ (c.load.ensures.0 ∙ c.requires.lead.seat),
      omega (arith, b.words),
      clears b.table.shared.key _ _ _ i g.0 g.1 (ap (λ (u : View). u.leads) (view ∙ t.1.1) ∙ c.args.lead.now.leads) (omega arith)
          (ap (λ (u : View). lead_state_at u.lead_states i) (view ∙ t.1.1) ∙ (get_or-set_same v.lead_states i (got (lead_state_at v.lead_states i)) NotLet (omega arith) ∙ ap got there))
          (ap (λ m. m.1) e.3 ∙ ap (λ (cs : List (ℕ × Option Posted)). (i, None) ∷ rest cs) (t.1.2 ∙ ap (λ (cs : List (ℕ × Option Posted)). (i, Some t.1.0) ∷ cs) c.args.lead.now.empty)),
    )

pub returns-clause-lead : goal.returns-clause-lead
returns-clause-lead c =
    let v = c.args.lead.now.seat.me.0 in let mid = c.take_out.new.seat.me.0 in let w = c.swap.new.seat.me.0 in
    let g = gone_place (lead_state_of c.args.lead.now c.args.r) c.requires.lead_state in
    let t = c.load.ensures.2.0 c.if-load-ne4.false in
    let one = ap (λ m. m.0) c.take_out.ensures.3 ∙ t.1.1 in
    let plan = c.args.self.now.table.shared.key in let i = c.request_word-word.result in
    changes_twice _ _ _ _ mid i (got (lead_state_at v.lead_states i)) (Done g.1) c.load.result c.swap.result t.1.0 c.requires.lead c.requires.request c.request_word-word.ensures
    (c.swap.ensures.0 ∙ (c.take_out.ensures.0 ∙ c.load.ensures.0)) one
    (done_then plan c.args.r v mid w i g.0 g.1 c.load.result c.swap.result t.1.0 c.requires.lead.lead_states c.requires.request c.request_word-word.ensures g.2 one c.swap.ensures.2.0)
    (subst (λ (z : LeadState). GoesOn z (Done g.1)) (sym g.2) (inr (inr refl))) tt

pub returns-clause-collected : goal.returns-clause-collected
returns-clause-collected c =
    let v = c.args.lead.now.seat.me.0 in let mid = c.take_out.new.seat.me.0 in let w = c.swap.new.seat.me.0 in
    let g = gone_place (lead_state_of c.args.lead.now c.args.r) c.requires.lead_state in
    let t = c.load.ensures.2.0 c.if-load-ne4.false in
    let one = ap (λ m. m.0) c.take_out.ensures.3 ∙ t.1.1 in
    let plan = c.args.self.now.table.shared.key in let i = c.request_word-word.result in
    record {
      place = g.0;
      marked = g.1;
      was = g.2;
      now = ends_done plan c.args.r v mid w i g.0 g.1 c.load.result c.swap.result t.1.0 c.requires.lead.lead_states c.requires.request c.request_word-word.ensures g.2 one c.swap.ensures.2.0;
      found = finds_ended plan c.args.r v mid w i g.0 g.1 c.load.result c.swap.result t.1.0 c.requires.lead.lead_states c.requires.request c.request_word-word.ensures g.2 one c.swap.ensures.2.0 t.0 c.swap.ensures.2.2;
    }

-- what was in the slot is what was taken out of it
first_slot : List (ℕ × Option Posted) → Option Posted
first_slot [] = None
first_slot (slot ∷ slots) = slot.1

same_slot : (cs before after : List (ℕ × Option Posted)) (i : ℕ) (x posted : Posted) (r : Option Posted) → cs ≡ (i, Some x) ∷ before → cs ≡ (i, r) ∷ after → r ≡ Some posted → x ≡ posted
unfolding first_slot
same_slot cs before after i x posted r held out is = same_Some x posted (ap first_slot (sym held ∙ out) ∙ is)

pub returns-clause-taken : goal.returns-clause-taken
returns-clause-taken c =
    let v = c.args.lead.now.seat.me.0 in let w = c.swap.new.seat.me.0 in
    let i = c.request_word-word.result in let t = c.load.ensures.2.0 c.if-load-ne4.false in
    let one = ap (λ m. m.0) c.take_out.ensures.3 ∙ t.1.1 in
    subst (λ (x : Posted). w.posts ≡ v.posts ++ (request_word c.args.r, x) ∷ []) (same_slot _ _ _ i t.1.0 c.in-Some.posted _ t.1.2 c.take_out.ensures.2 c.in-Some.is)
    (ap (λ (u : View). u.posts) c.swap.ensures.2.0 ∙ ap (λ (u : View). u.posts) one ∙ ap (λ (z : ℕ). v.posts ++ (z, t.1.0) ∷ []) c.request_word-word.ensures)
