-- Why a command, a close, a stage, a let and an opening come, and with what outcome a request ends.
use Rattle.std.proofs.Common.{◌≡◌, ℕ, true, false, ◌&&◌, List, ◌∷◌, Option, None, Some, if◌then◌else◌, refl, sym, ◌∙◌, ap, subst, inl, inr}
use Rattle.std.specs.List.{enumerate_from, find}
use Rattle.std.proofs.lemmas.Bool.{and_parts, and_right, both_ways, cond-false}
use Rattle.conc_types.specs.declared.event.Event.{Event}
use Rattle.conc_types.specs.declared.event.Event.TheVariants as event
use Rattle.conc_types.specs.declared.event.Extent.{Extent}
use Rattle.conc_types.specs.declared.event.Outcome.{Outcome}
use Rattle.conc_types.specs.declared.facts.State.{State}
use Rattle.conc_types.specs.declared.plan.Plan.{Plan}
use Rattle.conc_types.specs.declared.plan.Req.{Req}
use Rattle.conc_types.specs.declared.script.Order.{Order}
use Rattle.conc_types.specs.declared.script.Reading.{Reading}
use Rattle.conc_base_law.specs.Alone.{report_of}
use Rattle.conc_base_law.specs.Ends.{IsReported}
use Rattle.conc_base_law.specs.Facts.{facts_of, was_terminated}
use Rattle.conc_base_law.specs.Law.{may_follow}
use Rattle.conc_base_law.specs.Next.{forced, forced_command, forced_interrupt, forced_let, forced_step, has_step, is_allowed, is_due, is_left_running, is_report_outcome, is_terminated, let_event, may_end, may_let}
use Rattle.conc_base_law.specs.Plans.{precedes}
use Rattle.conc_base_law.specs.Report.{Report}
use Rattle.conc_base_law.specs.Stages.{set_step}
use Rattle.conc_base_law.specs.State.{facts_at, is_running, is_stopping, state}
use Rattle.conc_base_law.specs.Words.{first_by, Has}
use Rattle.conc_base_law.proofs.Comes.{came, same_request}
use Rattle.conc_base_law.proofs.Due.{IsStepped, stage_stepped}
use Rattle.conc_base_law.proofs.FactsAt.{facts_at-state}
use Rattle.conc_base_law.proofs.FirstBy.{find-some}
use Rattle.conc_base_law.proofs.ForcedBy.{IsLet, IsStep, let_event-let, set_step-step}
use Rattle.conc_base_law.proofs.Numbering.{numbered_plan}
use Rattle.conc_base_law.proofs.Options.{and_then-some, map-some, or-some}
use Rattle.conc_base_law.proofs.Stops.{end_comes}
use Rattle.conc_base_law.proofs.Calm.{Calm, calm-before, calm-follows, terminated-not}

-- ---- commands and closes

-- the command with this number is due
pub record IsDueCommand (plan : Plan) (s : State) (n : ℕ) : Type 0 where
  pub order : ℕ × Order
  pub element : Has (enumerate_from 1 plan.script.commands) order
  pub number : order.0 ≡ n
  pub due : is_due s order ≡ true

-- a forced event is an interrupt, a command that is due, the step of a set, or a let
pub data Cause (plan : Plan) (s : State) (e : Event) : Type 0 where
  by_interrupt : (r : Req) → e ≡ event.Interrupt r.number → Cause plan s e
  by_command : (order : ℕ × Order) → Has (enumerate_from 1 plan.script.commands) order → is_due s order ≡ true → e ≡ event.Command order.0 → Cause plan s e
  by_step : (set : Req) → Has plan.requests set → set_step plan s set ≡ Some e → IsStep set e → Cause plan s e
  by_let : (r : Req) → IsLet r e → Cause plan s e

-- what is forced has such a cause
cause : (plan : Plan) (s : State) (e : Event) → forced plan s ≡ Some e → Cause plan s e
unfolding forced forced_interrupt forced_command forced_step forced_let
cause plan s e h =
    elim (or-some (forced_interrupt plan s) _ _ h) [
      | inl a ↦
          let p : (r : Req) × (find (is_left_running s) plan.requests ≡ Some r) × (event.Interrupt r.number ≡ e) =
          map-some (λ r. event.Interrupt r.number) (find (is_left_running s) plan.requests) _ a in
          by_interrupt p.0 (sym p.2)
      | inr b ↦ elim (or-some (forced_command plan s) _ _ b) [
        | inl a ↦
            let p : (order : ℕ × Order) × (find (is_due s) (enumerate_from 1 plan.script.commands) ≡ Some order) × (event.Command order.0 ≡ e) =
            map-some (λ order. event.Command order.0) (find (is_due s) (enumerate_from 1 plan.script.commands)) _ a in
            let f : (is_due s p.0 ≡ true) × Has (enumerate_from 1 plan.script.commands) p.0 = find-some (is_due s) (enumerate_from 1 plan.script.commands) p.0 p.1 in
            by_command p.0 f.1 f.0 (sym p.2)
        | inr c ↦ elim (or-some (forced_step plan s) _ _ c) [
          | inl a ↦
              let p : (set : Req) × (find (has_step plan s) plan.requests ≡ Some set) × (set_step plan s set ≡ Some e) =
              and_then-some (set_step plan s) (find (has_step plan s) plan.requests) _ a in
              let f : (has_step plan s p.0 ≡ true) × Has plan.requests p.0 = find-some (has_step plan s) plan.requests p.0 p.1 in
              by_step p.0 f.1 p.2 (set_step-step plan s p.0 e p.2)
          | inr d ↦
              let p : (r : Req) × (first_by precedes (may_let plan s) plan.requests ≡ Some r) × (let_event r ≡ e) =
              map-some let_event (first_by precedes (may_let plan s) plan.requests) _ d in
              by_let p.0 (let_event-let p.0 e p.2)
        ]
      ]
    ]

-- a command is forced where it is due
command_by : (plan : Plan) (s : State) (n : ℕ) → Cause plan s (event.Command n) → IsDueCommand plan s n
command_by plan s n (by_interrupt r e) = cc
command_by plan s n (by_command order h d e) = let k : order.0 ≡ n = cc in record { order = order; element = h; number = k; due = d }
command_by plan s n (by_step set h p (inl x)) = let k : event.Command n ≡ event.Stage set.number x.0 = x.1 in cc
command_by plan s n (by_step set h p (inr x)) = let k : event.Command n ≡ event.CloseSet set.number x.0 = x.1 in cc
command_by plan s n (by_let r (inl x)) = let k : event.Command n ≡ event.OpenSet r.number = x.1 in cc
command_by plan s n (by_let r (inr x)) = let k : event.Command n ≡ event.LetOut r.number = x.1 in cc

-- a command that comes is due
pub command_due : (plan : Plan) (past : List Event) (n : ℕ) → may_follow plan None past (event.Command n) ≡ true → IsDueCommand plan (state plan past) n
unfolding may_follow is_allowed
command_due plan past n h = elim (came plan (state plan past) None (event.Command n) refl h) [
  | inl f ↦ command_by plan (state plan past) n (cause plan (state plan past) (event.Command n) f)
  | inr a ↦ cc
]

-- a close is forced as the step of its set
close_by : (plan : Plan) (s : State) (set : Req) (o : Outcome) → Has plan.requests set → Cause plan s (event.CloseSet set.number o) → set_step plan s set ≡ Some (event.CloseSet set.number o)
close_by plan s set o hs (by_interrupt r e) = cc
close_by plan s set o hs (by_command order h d e) = cc
close_by plan s set o hs (by_step q h p (inl x)) = let k : event.CloseSet set.number o ≡ event.Stage q.number x.0 = x.1 in cc
close_by plan s set o hs (by_step q h p (inr x)) =
    let k : event.CloseSet set.number o ≡ event.CloseSet q.number x.0 = x.1 in
    let n : q.number ≡ set.number = cc in
    subst (λ z. set_step plan s z ≡ Some (event.CloseSet set.number o)) (same_request plan q set h hs n) p
close_by plan s set o hs (by_let r (inl x)) = let k : event.CloseSet set.number o ≡ event.OpenSet r.number = x.1 in cc
close_by plan s set o hs (by_let r (inr x)) = let k : event.CloseSet set.number o ≡ event.LetOut r.number = x.1 in cc

-- a close that comes is the step of its set
pub close_step : (plan : Plan) (past : List Event) (set : Req) (o : Outcome) → Has plan.requests set → may_follow plan None past (event.CloseSet set.number o) ≡ true
    → set_step plan (state plan past) set ≡ Some (event.CloseSet set.number o)
unfolding may_follow is_allowed
close_step plan past set o hs h = elim (came plan (state plan past) None (event.CloseSet set.number o) refl h) [
  | inl f ↦ close_by plan (state plan past) set o hs (cause plan (state plan past) _ f)
  | inr a ↦ cc
]

-- so is a stage
pub stage_step : (plan : Plan) (past : List Event) (set : Req) (k : ℕ) → Has plan.requests set → may_follow plan None past (event.Stage set.number k) ≡ true
    → set_step plan (state plan past) set ≡ Some (event.Stage set.number k)
stage_step plan past set k hs h =
    let p : IsStepped plan (state plan past) set.number k = stage_stepped plan None past set.number k h in
    subst (λ z. set_step plan (state plan past) z ≡ Some (event.Stage set.number k)) (same_request plan p.req set p.element hs p.number) p.step

-- ---- an end

-- r has this outcome by its report
pub record HasReport (plan : Plan) (r : Req) (o : Outcome) : Type 0 where
  pub made : Report
  pub report : report_of plan r ≡ Some made
  pub outcome : o ≡ made.outcome

-- a request has one outcome
pub one_report : (plan : Plan) (r : Req) (o p : Outcome) → HasReport plan r o → HasReport plan r p → o ≡ p
one_report plan r o p a b =
    let e : Some a.made ≡ Some b.made = sym a.report ∙ b.report in
    let same : a.made ≡ b.made = cc in
    a.outcome ∙ ap (λ m. m.outcome) same ∙ sym b.outcome

-- no request is stopping
pub stopping-not : (plan : Plan) (readings : List Reading) (past : List Event) (r : Req) → Has plan.requests r → Calm plan readings past → is_stopping (facts_at (state plan past) r) ≡ false
unfolding facts_of
stopping-not plan readings past r hr c =
    let t : (facts_at (state plan past) r).terminated ≡ was_terminated plan past r = ap (λ f. f.terminated) (facts_at-state plan past r hr) in
    and_right _ _ (t ∙ terminated-not plan past r c.submits)

-- an end has an extent
pub end_extent : (s : State) (r : Req) (o : Outcome) (x : Option Extent) → is_stopping (facts_at s r) ≡ false → may_end s r o x ≡ true → (y : Extent) × (x ≡ Some y)
unfolding may_end
end_extent s r o None stop h =
    let p : (if is_stopping (facts_at s r) then is_terminated o && true else is_report_outcome o && false) ≡ true = (and_parts (is_running (facts_at s r)) _ h).1 in
    let q : (is_report_outcome o && false) ≡ true = sym (cond-false (is_stopping (facts_at s r)) _ _ stop) ∙ p in
    absurd (both_ways _ (and_right (is_report_outcome o) false refl) q)
end_extent s r o (Some y) stop h = (y, refl)

-- a request ends with the outcome of its report
pub end_report : (plan : Plan) (readings : List Reading) (past : List Event) (r : Req) (o : Outcome) (x : Option Extent) → Has plan.requests r
    → Calm plan readings (event.Ended r.number o x ∷ past) → HasReport plan r o
end_report plan readings past r o x hr c =
    let may : may_end (state plan past) r o x ≡ true = end_comes plan None past r o x hr (calm-follows plan readings past (event.Ended r.number o x) c) in
    let b : Calm plan readings past = calm-before plan readings past (event.Ended r.number o x) c in
    let y : (y : Extent) × (x ≡ Some y) = end_extent (state plan past) r o x (stopping-not plan readings past r hr b) may in
    let t : IsReported plan r.number o y.0 = c.reported r.number o y.0 (inl (ap (λ z. event.Ended r.number o z) (sym y.1))) in
    let e : Some t.ended ≡ Some r = sym t.found ∙ numbered_plan plan r hr in
    let same : t.ended ≡ r = cc in
    record { made = t.made; report = ap (report_of plan) (sym same) ∙ t.report; outcome = t.same_outcome }
