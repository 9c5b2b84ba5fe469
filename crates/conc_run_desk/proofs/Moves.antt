-- A call on one request of the board keeps what is true of a desk.
use Rattle.std.proofs.Common.{◌≡◌, ◌≢◌, List, length, reverse, Option, None, Some, sym, ◌∙◌, ap, subst, inl, inr}
use mathlib.Core.Logic.{dite}
use native.Mathlib.Decide.{ℕ_discrete}
use Rattle.conc_types.specs.declared.event.Event.{Event}
use Rattle.conc_types.specs.declared.event.Event.TheVariants as event
use Rattle.conc_types.specs.declared.event.PlaceId.{PlaceId}
use Rattle.conc_types.specs.declared.event.RequestId.{RequestId}
use Rattle.conc_types.specs.declared.facts.Facts.{Facts}
use Rattle.conc_types.specs.declared.plan.Plan.{Plan}
use Rattle.conc_types.specs.declared.plan.Req.{Req}
use Rattle.conc_base_law.specs.Facts.{facts_of}
use Rattle.conc_base_law.specs.Words.{Has}
use Rattle.conc_board.specs.declared.board.Board.{Board}
use Rattle.conc_board.specs.declared.lead.Lead.{Lead}
use Rattle.conc_board.specs.declared.lead.Looked.{Looked}
use Rattle.conc_board.specs.declared.lead.Looked.TheVariants.{Free, Claimed, Running, Ended}
use Rattle.conc_board.specs.Looks.{Looks, LooksOn}
use Rattle.conc_board.specs.Seats.{Changes, IsLeadOf, lead_state_of, plan_of}
use Rattle.conc_pool_seats.specs.declared.views.LeadState.{LeadState}
use Rattle.conc_pool_seats.specs.declared.views.LeadState.TheVariants.{NotLet, Let, Seen, Gone, Got, Done}
use Rattle.conc_pool_seats.specs.LeadStates.{IsGone, IsLet}
use Rattle.conc_pool_seats.specs.Words.{count_of_requests, count_of_words}
use Rattle.conc_run_steps.specs.Steps.{plan_in}
use Rattle.conc_run_state.specs.Works.{list_in}
use Rattle.conc_run_state.specs.declared.work.Work.{Work}
use Rattle.conc_run_desk.specs.Kept.{MayBeKept}
use Rattle.conc_run_desk.specs.Seated.{IsSeated}
use Rattle.conc_run_desk.specs.State.{IsDesk}
use Rattle.conc_run_desk.specs.Ties.{GoesWith, LeadStatesGoWith}

-- two requests are one, or another
same_or_other : {P : Type 0} (q r : RequestId) → (q ≡ r → P) → (q ≢ r → P) → P
same_or_other q r same other = dite (ℕ_discrete q.number r.number) (λ e. same (ap (λ n. record { number = n }) e)) (λ ne. other (λ e. ne (ap (λ z. z.number) e)))

-- a lead of the board is seated
pub seated : (board : Board) (plan : Plan) (lead : Lead) → plan_of board ≡ plan → IsLeadOf board lead → IsSeated plan lead
seated board plan lead is at = record {
  knows = subst (λ (p : Plan). lead.seat.me.0.plan ≡ Some p) is at.plan;
  lead_states = subst (λ (p : Plan). length lead.seat.me.0.lead_states ≡ count_of_requests p) is at.lead_states;
  settled = at.settled;
  switches = subst (λ (p : Plan). length lead.seat.me.0.switches ≡ count_of_words p) is at.switches;
}

-- a lead that is seated at the board is the board's
pub lead_of : (board : Board) (plan : Plan) (lead : Lead) → lead.seat.table_id ≡ board.table.shared.table_id → plan_of board ≡ plan → IsSeated plan lead → IsLeadOf board lead
lead_of board plan lead seat is at = record {
  seat = seat;
  plan = subst (λ (p : Plan). lead.seat.me.0.plan ≡ Some p) (sym is) at.knows;
  lead_states = subst (λ (p : Plan). length lead.seat.me.0.lead_states ≡ count_of_requests p) (sym is) at.lead_states;
  settled = at.settled;
  switches = subst (λ (p : Plan). length lead.seat.me.0.switches ≡ count_of_words p) (sym is) at.switches;
}

module _ (board : Board) (r : RequestId) (work : Work) (kept : Option Event) (old new : Lead) (changes : Changes board r old new) where
  kept_still : (k : Option Event) → (IsGone (lead_state_of new r) → IsGone (lead_state_of old r)) → MayBeKept k work old → MayBeKept k work new
  kept_still None gone may = tt
  kept_still (Some (event.Ended q o x)) gone (lawful, none) = (
    lawful,
    same_or_other q r
        (λ e now. none (subst (λ (z : RequestId). IsGone (lead_state_of old z)) (sym e) (gone (subst (λ (z : RequestId). IsGone (lead_state_of new z)) e now))))
        (λ other now. none (subst IsGone (changes.others q other) now)),
  )
  kept_still (Some e) gone may = may

  tied_still : (plan : Plan) (past : List Event) → LeadStatesGoWith plan past old
      → ((x : Req) → Has plan.requests x → x.number ≡ r → GoesWith (lead_state_of new r) (facts_of plan past x)) → LeadStatesGoWith plan past new
  tied_still plan past tied goes = record {
    each = λ x hx. same_or_other x.number r
        (λ e. subst (λ (z : RequestId). GoesWith (lead_state_of new z) (facts_of plan past x)) (sym e) (goes x hx e))
        (λ other. subst (λ (z : LeadState). GoesWith z (facts_of plan past x)) (sym (changes.others x.number other)) (tied.each x hx));
  }

  -- the lead state of the one request goes with its facts still, and it has the go only where it had it
  pub moved : (own : Plan) → plan_of board ≡ plan_in work → IsDesk own old work kept
      → ((x : Req) → Has (plan_in work).requests x → x.number ≡ r → GoesWith (lead_state_of new r) (facts_of (plan_in work) (reverse (list_in work)) x))
      → (IsGone (lead_state_of new r) → IsGone (lead_state_of old r)) → IsDesk own new work kept
  moved own is desk goes gone = record {
    plan_is = desk.plan_is;
    seated = seated board (plan_in work) new is changes.lead;
    parts = desk.parts;
    tied = tied_still (plan_in work) (reverse (list_in work)) desk.tied goes;
    may_be_kept = kept_still kept gone desk.may_be_kept;
  }

-- ---- a look

seen_goes : (st : LeadState) (p : PlaceId) (facts : Facts) → IsLet st → GoesWith st facts → GoesWith (Seen p) facts
seen_goes NotLet p facts is goes = absurd is
seen_goes Let p facts is goes = goes
seen_goes (Seen q) p facts is goes = goes
seen_goes (Gone q m) p facts is goes = absurd is
seen_goes (Got q m) p facts is goes = absurd is
seen_goes (Done m) p facts is goes = absurd is

pub look_goes : (plan : Plan) (answer : Looked) (old new : LeadState) (facts : Facts) → Looks plan answer old new → GoesWith old facts → GoesWith new facts
look_goes plan Free old new facts l goes = subst (λ (z : LeadState). GoesWith z facts) (l.0 ∙ sym l.1) goes
look_goes plan (Claimed p) old new facts l goes = subst (λ (z : LeadState). GoesWith z facts) (sym l.2) (seen_goes old p facts l.1 goes)
look_goes plan (Running p) old new facts l goes = subst (λ (z : LeadState). GoesWith z facts) (sym l.1.2) goes
look_goes plan (Ended p) old new facts l goes = subst (λ (z : LeadState). GoesWith z facts) (sym l.1.2) goes

pub look_gone : (plan : Plan) (answer : Looked) (old new : LeadState) → Looks plan answer old new → IsGone new → IsGone old
look_gone plan Free old new l now = absurd (subst IsGone l.1 now)
look_gone plan (Claimed p) old new l now = absurd (subst IsGone l.2 now)
look_gone plan (Running p) old new l now = subst IsGone l.1.2 now
look_gone plan (Ended p) old new l now = subst IsGone l.1.2 now

-- a load of the word
pub load_goes : (old new : LeadState) (facts : Facts) → LooksOn old new → GoesWith old facts → GoesWith new facts
load_goes Let new facts (inl same) goes = subst (λ (z : LeadState). GoesWith z facts) (sym same) goes
load_goes Let new facts (inr (p, seen)) goes = subst (λ (z : LeadState). GoesWith z facts) (sym seen) goes
load_goes NotLet new facts same goes = subst (λ (z : LeadState). GoesWith z facts) (sym same) goes
load_goes (Seen p) new facts same goes = subst (λ (z : LeadState). GoesWith z facts) (sym same) goes
load_goes (Gone p m) new facts same goes = subst (λ (z : LeadState). GoesWith z facts) (sym same) goes
load_goes (Got p m) new facts same goes = subst (λ (z : LeadState). GoesWith z facts) (sym same) goes
load_goes (Done m) new facts same goes = subst (λ (z : LeadState). GoesWith z facts) (sym same) goes

pub load_gone : (old new : LeadState) → LooksOn old new → IsGone new → IsGone old
load_gone Let new (inl same) now = subst IsGone same now
load_gone Let new (inr (p, seen)) now = absurd (subst IsGone seen now)
load_gone NotLet new same now = subst IsGone same now
load_gone (Seen p) new same now = subst IsGone same now
load_gone (Gone p m) new same now = tt
load_gone (Got p m) new same now = subst IsGone same now
load_gone (Done m) new same now = subst IsGone same now
