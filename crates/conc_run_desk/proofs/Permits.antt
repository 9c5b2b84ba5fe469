-- A permit is a run.
use Rattle.std.proofs.Common.{◌≡◌, ℕ, List, ◌∷◌, Option, Some, true, false, sym, ◌∙◌, ap, subst}
use Rattle.conc_types.specs.declared.event.Event.{Event}
use Rattle.conc_types.specs.declared.event.PlaceId.{PlaceId}
use Rattle.conc_types.specs.declared.event.RequestId.{RequestId}
use Rattle.conc_types.specs.declared.plan.Plan.{Plan}
use Rattle.conc_types.specs.declared.plan.Req.{Req}
use Rattle.conc_types.specs.declared.script.Reading.{Reading}
use Rattle.conc_base_law.specs.Facts.{facts_of}
use Rattle.conc_base_law.specs.Kinds.{ends, is_resume}
use Rattle.conc_base_law.specs.Law.{may_follow}
use Rattle.conc_base_law.proofs.Numbering.{found}
use Rattle.conc_board.specs.Permits.{IsServing, SitsAt}
use Rattle.conc_board.specs.Seats.{lead_state_of}
use Rattle.conc_board.specs.declared.lead.Lead.{Lead}
use Rattle.conc_board.proofs.Leads.{lead_state_in-request}
use Rattle.conc_board.proofs.PermitsHeld.{gone_there, have_apart, works}
use Rattle.conc_pool_seats.specs.LeadStates.{IsGone, lead_state_at}
use Rattle.conc_pool_seats.specs.Rule.{BoardState, exclude, view_at}
use Rattle.conc_pool_seats.specs.Words.{request_word}
use Rattle.conc_pool_seats.specs.declared.views.LeadState.{LeadState}
use Rattle.conc_pool_seats.specs.declared.views.LeadState.TheVariants.{Gone}
use Rattle.conc_pool_seats.specs.declared.views.View.{View}
use Rattle.conc_pool_seats.proofs.Facts.{at_view}
use Rattle.conc_pool_seats.proofs.Moves.{led}
use Rattle.conc_run_desk.specs.Permits.{RunsInList, WhatHasTheGoRuns}
use Rattle.conc_run_desk.specs.Ties.{GoesWith, LeadStatesGoWith, RunsAt}
use Rattle.conc_run_desk.proofs.After.{gone_on}
use Rattle.conc_run_desk.proofs.Ends.{named}

pub go-runs : (plan : Plan) (past : List Event) (lead : Lead) → LeadStatesGoWith plan past lead → WhatHasTheGoRuns plan past lead
go-runs plan past lead tied = record {
  each = λ r p marked has gone. subst (λ (z : LeadState). GoesWith z (facts_of plan past r)) gone (tied.each r has);
}

pub recorded-runs : (plan : Plan) (readings : Option (List Reading)) (past : List Event) (e : Event) (lead : Lead) → may_follow plan readings past e ≡ true → is_resume e ≡ false
    → ((r : RequestId) → IsGone (lead_state_of lead r) → ends r e ≡ false) → WhatHasTheGoRuns plan past lead → WhatHasTheGoRuns plan (e ∷ past) lead
recorded-runs plan readings past e lead may no_resume no_end runs = record {
  each = λ r p marked has gone. gone_on plan readings past e r has may no_resume p marked (no_end r.number (subst (λ (z : LeadState). IsGone z) (sym gone) tt)) (runs.each r p marked has gone);
}

pub permit-runs : (plan : Plan) (past : List Event) (lead : Lead) (s : BoardState) → SitsAt plan s lead → WhatHasTheGoRuns plan past lead → (j : ℕ) (r : RequestId) (p : PlaceId) → IsServing s.views j r p
    → RunsInList plan past r p
permit-runs plan past lead s sits runs j r p serves =
    let k = sits.0 in let id = lead.seat.id in let v = lead.seat.me.0 in
    let here = at_view s.views id v sits.1 in
    let l = led plan s k id v sits.1 lead.leads in
    let was : view_at s.views k.lead ≡ v = ap (view_at s.views) (sym l.is) ∙ here.1 in
    let w = works plan s k j r p serves.0 serves.1 in
    let g = gone_there plan s k j r p serves.0 serves.1 in
    let x = named plan r w.1 in
    let has = found plan r x.0 x.1 in
    let same : x.0.number ≡ r = ap (λ n. record { number = n }) has.0 in
    let gone : lead_state_of lead x.0.number ≡ Gone p g.0 =
    ap (lead_state_of lead) same ∙ (lead_state_in-request v.lead_states r w.1.from_one ∙ (ap (λ (u : View). lead_state_at u.lead_states (request_word r)) (sym was) ∙ g.1)) in
    let at : RunsAt p g.0 (facts_of plan past x.0) = runs.each x.0 p g.0 has.1 gone in
    record { req = x.0; there = has.1; number = same; place = at.place_is }

pub no-rivals : (plan : Plan) (lead : Lead) (s : BoardState) → SitsAt plan s lead → (i j : ℕ) (r q : RequestId) (p u : PlaceId) → IsServing s.views i r p → IsServing s.views j q u → exclude plan r q ≡ false
no-rivals plan lead s sits i j r q p u one two = (have_apart plan s sits.0 i j).requests r q p u one two
