-- The outcomes of what may come next.
use Rattle.std.proofs.Common.{◌≡◌, refl, sym, ◌∙◌, ap, subst, ℕ, Bool, true, false, ◌&&◌, ◌==◌, List, map, inl, inr}
use Rattle.std.specs.Prelude.{if◌then◌else◌, Option, None, Some, is_none}
use Rattle.std.specs.List.{enumerate_from, filter_map, find}
use Rattle.std.specs.Option.{option_map}
use Rattle.std.proofs.lemmas.Bool.{and_parts, both_ways}
use Rattle.conc_types.specs.declared.event.Event.{Event}
use Rattle.conc_types.specs.declared.event.Event.TheVariants as event
use Rattle.conc_types.specs.declared.event.Extent.{Extent}
use Rattle.conc_types.specs.declared.event.Outcome.{Outcome}
use Rattle.conc_types.specs.declared.event.Outcome.TheVariants as outcome
use Rattle.conc_types.specs.declared.event.RequestId.{RequestId}
use Rattle.conc_types.specs.declared.facts.State.{State}
use Rattle.conc_types.specs.declared.plan.Plan.{Plan}
use Rattle.conc_types.specs.declared.plan.Req.{Req}
use Rattle.conc_types.specs.Words.{greatest, is_empty, some_and}
use Rattle.conc_base_law.specs.Law.{may_follow}
use Rattle.conc_base_law.specs.Next.{forced, forced_command, forced_interrupt, forced_let, forced_step, has_step, is_allowed, is_due, is_left_running, is_next_extent, is_report_outcome, is_terminated, let_event, may_end, may_let}
use Rattle.conc_base_law.specs.Plans.{members, precedes}
use Rattle.conc_base_law.specs.Readings.{next_reading}
use Rattle.conc_base_law.specs.Stages.{after_stage, critical_stages, has_ended, next_stage, of_severity, outcome_at, set_outcome, set_step, severity, stage_outcome, step_from, worst}
use Rattle.conc_base_law.specs.State.{facts_at, is_running, is_stopping, state}
use Rattle.conc_base_law.specs.Words.{first_by, Has}
use Rattle.conc_base_law.proofs.Comes.{came}
use Rattle.conc_base_law.proofs.EqualEvents.{id_same}
use Rattle.conc_base_law.proofs.FirstBy.{find-some}
use Rattle.conc_base_law.proofs.ForcedBy.{let_event-let}
use Rattle.conc_base_law.proofs.Options.{and_then-some, map-some, or-some, then_some-some}
use Rattle.conc_base_law.proofs.Remaining.{end_about, IsAboutOne}
use Rattle.conc_base_law.proofs.Stops.{end_comes}

-- ---- steps of sets

-- a stage or a close
is_step : Event → Bool
is_step (event.Stage s k) = true
is_step (event.CloseSet s o) = true
is_step _ = false

-- a forced step is one of a set of the plan
pub record IsStepOf (plan : Plan) (s : State) (e : Event) : Type 0 where
  pub set : Req
  pub element : Has plan.requests set
  pub step : set_step plan s set ≡ Some e

not_step : (d e : Event) → is_step d ≡ false → d ≡ e → is_step e ≡ true → ⊥
not_step d e h same k = both_ways (is_step d) h (ap is_step same ∙ k)

forced_by_step : (plan : Plan) (s : State) (e : Event) → is_step e ≡ true → forced plan s ≡ Some e → IsStepOf plan s e
unfolding forced forced_interrupt forced_command forced_step forced_let is_step
forced_by_step plan s e k h =
    elim (or-some (forced_interrupt plan s) _ e h) [
      | inl a ↦
          let p = map-some (λ r. event.Interrupt r.number) (find (is_left_running s) plan.requests) e a in
          absurd (not_step (event.Interrupt p.0.number) e refl p.2 k)
      | inr b ↦ elim (or-some (forced_command plan s) _ e b) [
        | inl a ↦
            let p = map-some (λ order. event.Command order.0) (find (is_due s) (enumerate_from 1 plan.script.commands)) e a in
            absurd (not_step (event.Command p.0.0) e refl p.2 k)
        | inr c ↦ elim (or-some (forced_step plan s) _ e c) [
          | inl a ↦
              let p = and_then-some (set_step plan s) (find (has_step plan s) plan.requests) e a in
              let f : (has_step plan s p.0 ≡ true) × Has plan.requests p.0 = find-some (has_step plan s) plan.requests p.0 p.1 in
              record { set = p.0; element = f.1; step = p.2 }
          | inr d ↦
              let p = map-some let_event (first_by precedes (may_let plan s) plan.requests) e d in
              elim (let_event-let p.0 e p.2) [
                | inl x ↦ absurd (not_step (event.OpenSet p.0.number) e refl (sym x.1) k)
                | inr x ↦ absurd (not_step (event.LetOut p.0.number) e refl (sym x.1) k)
              ]
        ]
      ]
    ]

-- a close comes where a set of the plan has it as its step
close_forced : (plan : Plan) (past : List Event) (id : RequestId) (o : Outcome) → may_follow plan None past (event.CloseSet id o) ≡ true → IsStepOf plan (state plan past) (event.CloseSet id o)
unfolding may_follow is_allowed is_step
close_forced plan past id o h =
    elim (came plan (state plan past) (option_map (λ known. next_reading known past) None) (event.CloseSet id o) refl h) [
      | inl f ↦ forced_by_step plan (state plan past) (event.CloseSet id o) refl f
      | inr a ↦ cc
    ]

-- a stage comes where a set of the plan has it as its step
pub stage_forced : (plan : Plan) (past : List Event) (id : RequestId) (k : ℕ) → may_follow plan None past (event.Stage id k) ≡ true → IsStepOf plan (state plan past) (event.Stage id k)
unfolding may_follow is_allowed is_step
stage_forced plan past id k h =
    elim (came plan (state plan past) (option_map (λ known. next_reading known past) None) (event.Stage id k) refl h) [
      | inl f ↦ forced_by_step plan (state plan past) (event.Stage id k) refl f
      | inr a ↦ cc
    ]

-- ---- the outcome of a set

severity_report : (n : ℕ) → is_report_outcome (of_severity n) ≡ true
severity_report n = by (n == 0) (n == 1) where
  by : (a b : Bool) → is_report_outcome (if a then outcome.Normal else (if b then outcome.Warning else outcome.Error)) ≡ true
  by true b = refl
  by false true = refl
  by false false = refl

worst_report : (outcomes : List Outcome) → is_report_outcome (worst outcomes) ≡ true
unfolding worst
worst_report outcomes = severity_report (greatest (map severity outcomes))

set_report : (plan : Plan) (s : State) (set : Req) (last : ℕ) → is_report_outcome (set_outcome plan s set last) ≡ true
unfolding set_outcome stage_outcome
set_report plan s set last = by (is_empty (critical_stages plan s set)) where
  by : (b : Bool) → is_report_outcome (if b then stage_outcome plan s set last else worst (map (λ stage. stage_outcome plan s set stage.0) (critical_stages plan s set))) ≡ true
  by true = worst_report (filter_map (outcome_at s) (members plan set.number last))
  by false = worst_report (map (λ stage. stage_outcome plan s set stage.0) (critical_stages plan s set))

close_after : (plan : Plan) (s : State) (set : Req) (last : ℕ) (next : Option ℕ) (id : RequestId) (o : Outcome) → after_stage plan s set last next ≡ event.CloseSet id o → is_report_outcome o ≡ true
close_after plan s set last None id o h =
    let same : set_outcome plan s set last ≡ o = cc in
    ap is_report_outcome (sym same) ∙ set_report plan s set last
close_after plan s set last (Some next) id o h = cc

close_report : (plan : Plan) (s : State) (set : Req) (current : Option ℕ) (id : RequestId) (o : Outcome) → step_from plan s set current ≡ Some (event.CloseSet id o) → is_report_outcome o ≡ true
close_report plan s set None id o h = cc
close_report plan s set (Some stage) id o h =
    close_after plan s set stage (next_stage plan s set stage) id o (then_some-some (has_ended plan s set stage) (after_stage plan s set stage (next_stage plan s set stage)) (event.CloseSet id o) h).1

close_step : (plan : Plan) (s : State) (set : Req) (id : RequestId) (o : Outcome) → set_step plan s set ≡ Some (event.CloseSet id o) → is_report_outcome o ≡ true
unfolding set_step
close_step plan s set id o h = close_report plan s set (facts_at s set).stage id o h

-- a set that closes has the outcome of a report
pub close_outcome : (plan : Plan) (past : List Event) (id : RequestId) (o : Outcome) → may_follow plan None past (event.CloseSet id o) ≡ true → is_report_outcome o ≡ true
close_outcome plan past id o h = let f = close_forced plan past id o h in close_step plan (state plan past) f.set id o f.step

-- ---- the outcome of an end without an extent

without_extent : (s : State) (stop : Bool) (o : Outcome) (x : Option Extent) → x ≡ None
    → (if stop then is_terminated o && is_none x else is_report_outcome o && some_and (is_next_extent s) x) ≡ true → is_terminated o ≡ true
without_extent s true o None none h = (and_parts (is_terminated o) true h).0
without_extent s false o None none h = let never : false ≡ true = (and_parts (is_report_outcome o) false h).1 in cc
without_extent s stop o (Some x) none h = cc

may_end_without : (s : State) (r : Req) (o : Outcome) → may_end s r o None ≡ true → is_terminated o ≡ true
unfolding may_end
may_end_without s r o h = without_extent s (is_stopping (facts_at s r)) o None refl (and_parts (is_running (facts_at s r)) _ h).1

-- a request that ends without an extent was terminated
pub end_outcome : (plan : Plan) (past : List Event) (id : RequestId) (o : Outcome) → may_follow plan None past (event.Ended id o None) ≡ true → is_terminated o ≡ true
end_outcome plan past id o m =
    let p : IsAboutOne plan (event.Ended id o None) = end_about plan None past id o None m in
    let same : id ≡ p.0.number = id_same id p.0.number p.2 in
    let n : may_follow plan None past (event.Ended p.0.number o None) ≡ true = subst (λ z. may_follow plan None past (event.Ended z o None) ≡ true) same m in
    may_end_without (state plan past) p.0 o (end_comes plan None past p.0 o None p.1 n)
