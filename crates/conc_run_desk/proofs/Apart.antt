-- A request that is let in the list excludes none that is on the board.
use Rattle.std.proofs.Common.{◌≡◌, Bool, true, false, List, Option, None, Some, is_some, refl, sym, ◌∙◌, ap, subst, ⊎_elim}
use Rattle.std.proofs.lemmas.Bool.{or_left}
use Rattle.conc_types.specs.declared.event.Event.{Event}
use Rattle.conc_types.specs.declared.event.PlaceId.{PlaceId}
use Rattle.conc_types.specs.declared.event.RequestId.{RequestId}
use Rattle.conc_types.specs.declared.plan.Plan.{Plan}
use Rattle.conc_types.specs.declared.plan.Req.{Req}
use Rattle.conc_types.specs.Plans.{request}
use Rattle.conc_types.specs.Words.{some_and}
use Rattle.conc_base_law.specs.Facts.{facts_of, runs}
use Rattle.conc_base_law.specs.Law.{is_lawful_so_far}
use Rattle.conc_base_law.specs.Plans.{are_exclusive}
use Rattle.conc_base_law.specs.State.{is_live}
use Rattle.conc_base_law.specs.Words.{Has}
use Rattle.conc_base_law.proofs.LiveApart.{live_apart}
use Rattle.conc_base_law.proofs.Numbering.{found, numbered_plan}
use Rattle.conc_base_law.proofs.RunningIsLet.{runs_let}
use Rattle.conc_board.specs.declared.lead.Lead.{Lead}
use Rattle.conc_board.specs.Seats.{lead_state_of}
use Rattle.conc_pool_seats.specs.declared.views.LeadState.{LeadState}
use Rattle.conc_pool_seats.specs.declared.views.LeadState.TheVariants.{NotLet, Let, Seen, Gone, Got, Done}
use Rattle.conc_pool_seats.specs.Rule.{exclude}
use Rattle.conc_pool_seats.specs.LeadStates.{IsLetOrGone}
use Rattle.conc_run_desk.specs.Ties.{GoesWith, LeadStatesGoWith, RunsAt, WaitsToStart}

module _ (plan : Plan) (past : List Event) (lawful : is_lawful_so_far plan past ≡ true) where
  waits_live : (y : Req) → WaitsToStart (facts_of plan past y) → is_live (facts_of plan past y) ≡ true
  waits_live y waits = or_left _ _ waits.let_out

  runs_live : (y : Req) (p : PlaceId) (m : Bool) → Has plan.requests y → RunsAt p m (facts_of plan past y) → is_live (facts_of plan past y) ≡ true
  unfolding facts_of runs
  runs_live y p m hy at = or_left _ _ (runs_let plan past y hy lawful (ap (λ (o : Option PlaceId). is_some o) at.place_is))

  -- a request on the board is live in the list
  pub on_board_live : (y : Req) → Has plan.requests y → (st : LeadState) → IsLetOrGone st → GoesWith st (facts_of plan past y) → is_live (facts_of plan past y) ≡ true
  on_board_live y hy NotLet is goes = absurd (⊎_elim (λ x. x) (λ x. x) is)
  on_board_live y hy Let is goes = waits_live y goes
  on_board_live y hy (Seen p) is goes = waits_live y goes
  on_board_live y hy (Gone p m) is goes = runs_live y p m hy goes
  on_board_live y hy (Got p m) is goes = absurd (⊎_elim (λ x. x) (λ x. x) is)
  on_board_live y hy (Done m) is goes = absurd (⊎_elim (λ x. x) (λ x. x) is)

  -- a request that waits to start excludes none that is on the board
  module _ (lead : Lead) (tied : LeadStatesGoWith plan past lead) (x : Req) (hx : Has plan.requests x) (waits : WaitsToStart (facts_of plan past x)) where
    not_exclusive : (y : Req) → Has plan.requests y → IsLetOrGone (lead_state_of lead y.number) → are_exclusive plan x y ≡ false
    not_exclusive y hy on = by (are_exclusive plan x y) refl where
      by : (b : Bool) → are_exclusive plan x y ≡ b → are_exclusive plan x y ≡ false
      by true ex = absurd (live_apart plan past x y hx hy lawful ex (waits_live x waits) (on_board_live y hy (lead_state_of lead y.number) on (tied.each y hy)))
      by false ex = ex

    excludes_none : (q : RequestId) (o : Option Req) → request plan q ≡ o → IsLetOrGone (lead_state_of lead q) → some_and (λ y. are_exclusive plan x y) o ≡ false
    excludes_none q None is on = refl
    excludes_none q (Some y) is on =
        let f = found plan q y is in
        let same : y.number ≡ q = ap (λ n. record { number = n }) f.0 in
        not_exclusive y f.1 (subst (λ (z : RequestId). IsLetOrGone (lead_state_of lead z)) (sym same) on)

    pub apart : (r : RequestId) → x.number ≡ r → (q : RequestId) → IsLetOrGone (lead_state_of lead q) → exclude plan r q ≡ false
    apart r number q on =
        ap (some_and (λ z. some_and (λ y. are_exclusive plan z y) (request plan q))) (ap (request plan) (sym number) ∙ numbered_plan plan x hx)
        ∙ excludes_none q (request plan q) refl on
