-- What holds of the command and of the stage that an event begins.
use Rattle.std.proofs.Common.{◌≡◌, ℕ, true, false, not, List, Option, Some, refl, sym, ◌∙◌, ap, inl, inr}
use Rattle.std.specs.Prelude.{unwrap_or}
use Rattle.std.specs.List.{enumerate_from, find}
use Rattle.std.specs.Option.{option_map}
use Rattle.std.proofs.lemmas.Bool.{and_parts, not-true}
use Rattle.conc_types.specs.declared.event.Event.{Event}
use Rattle.conc_types.specs.declared.event.Event.TheVariants as event
use Rattle.conc_types.specs.declared.event.RequestId.{RequestId}
use Rattle.conc_types.specs.declared.facts.State.{State}
use Rattle.conc_types.specs.declared.plan.Plan.{Plan}
use Rattle.conc_types.specs.declared.plan.Req.{Req}
use Rattle.conc_types.specs.declared.script.Order.{Order}
use Rattle.conc_types.specs.declared.script.Reading.{Reading}
use Rattle.conc_types.specs.Words.{numbered}
use Rattle.conc_base_law.specs.Law.{may_follow}
use Rattle.conc_base_law.specs.Next.{forced, forced_command, forced_interrupt, forced_let, forced_step, has_step, is_allowed, is_due, is_left_running, let_event, may_let}
use Rattle.conc_base_law.specs.Plans.{precedes}
use Rattle.conc_base_law.specs.Readings.{next_reading}
use Rattle.conc_base_law.specs.Stages.{set_step}
use Rattle.conc_base_law.specs.State.{has_come, is_done, state}
use Rattle.conc_base_law.specs.Words.{first_by, Has}
use Rattle.conc_base_law.proofs.Comes.{came}
use Rattle.conc_base_law.proofs.FactsAt.{numbered-map}
use Rattle.conc_base_law.proofs.FirstBy.{find-some}
use Rattle.conc_base_law.proofs.ForcedBy.{let_event-let, set_step-step}
use Rattle.conc_base_law.proofs.Numbers.{enumerated-numbered}
use Rattle.conc_base_law.proofs.Options.{and_then-some, map-some, or-some}

-- ---- a command

-- a command with this number is one of the plan's, and is not done
pub record IsUndone (plan : Plan) (past : List Event) (n : ℕ) : Type 0 where
  pub order : ℕ × Order
  pub element : Has (enumerate_from 1 plan.script.commands) order
  pub number : order.0 ≡ n
  pub undone : is_done past order ≡ false

-- a command that is due is not done
due_undone : (plan : Plan) (past : List Event) (order : ℕ × Order) → Has (enumerate_from 1 plan.script.commands) order
    → is_due (state plan past) order ≡ true → is_done past order ≡ false
unfolding is_due state
due_undone plan past order here h =
    let commands = enumerate_from 1 plan.script.commands in
    let p : not (unwrap_or (numbered (state plan past).done order.0) false) ≡ true =
    (and_parts (not (unwrap_or (numbered (state plan past).done order.0) false)) (has_come (state plan past).time order.1.at) h).0 in
    let q : unwrap_or (numbered (state plan past).done order.0) false ≡ false = not-true _ p in
    sym (ap (λ o. unwrap_or o false) (numbered-map (is_done past) commands order.0)
    ∙ ap (λ o. unwrap_or (option_map (is_done past) o) false) (enumerated-numbered plan.script.commands order here))
    ∙ q

-- a forced command is one that is due
forced-command : (plan : Plan) (past : List Event) (n : ℕ) → forced plan (state plan past) ≡ Some (event.Command n) → IsUndone plan past n
unfolding forced forced_interrupt forced_command forced_step forced_let
forced-command plan past n h =
    let s = state plan past in
    let commands = enumerate_from 1 plan.script.commands in
    elim (or-some (forced_interrupt plan s) _ _ h) [
      | inl a ↦
          let p : (r : Req) × (find (is_left_running s) plan.requests ≡ Some r) × (event.Interrupt r.number ≡ event.Command n) =
          map-some (λ r. event.Interrupt r.number) (find (is_left_running s) plan.requests) _ a in
          cc
      | inr b ↦ elim (or-some (forced_command plan s) _ _ b) [
        | inl a ↦
            let p : (order : ℕ × Order) × (find (is_due s) commands ≡ Some order) × (event.Command order.0 ≡ event.Command n) =
            map-some (λ order. event.Command order.0) (find (is_due s) commands) _ a in
            let f : (is_due s p.0 ≡ true) × Has commands p.0 = find-some (is_due s) commands p.0 p.1 in
            let same : p.0.0 ≡ n = cc in
            record { order = p.0; element = f.1; number = same; undone = due_undone plan past p.0 f.1 f.0 }
        | inr c ↦ elim (or-some (forced_step plan s) _ _ c) [
          | inl a ↦
              let p : (set : Req) × (find (has_step plan s) plan.requests ≡ Some set) × (set_step plan s set ≡ Some (event.Command n)) =
              and_then-some (set_step plan s) (find (has_step plan s) plan.requests) _ a in
              elim (set_step-step plan s p.0 _ p.2) [ inl x ↦ let k : event.Command n ≡ event.Stage p.0.number x.0 = x.1 in cc | inr x ↦ let k : event.Command n ≡ event.CloseSet p.0.number x.0 = x.1 in cc ]
          | inr d ↦
              let p : (r : Req) × (first_by precedes (may_let plan s) plan.requests ≡ Some r) × (let_event r ≡ event.Command n) =
              map-some let_event (first_by precedes (may_let plan s) plan.requests) _ d in
              elim (let_event-let p.0 _ p.2) [ inl x ↦ let k : event.Command n ≡ event.OpenSet p.0.number = x.1 in cc | inr x ↦ let k : event.Command n ≡ event.LetOut p.0.number = x.1 in cc ]
        ]
      ]
    ]

-- a command that may follow is not done
pub command_undone : (plan : Plan) (readings : Option (List Reading)) (past : List Event) (n : ℕ) → may_follow plan readings past (event.Command n) ≡ true
    → IsUndone plan past n
unfolding may_follow is_allowed
command_undone plan readings past n h =
    elim (came plan (state plan past) (option_map (λ known. next_reading known past) readings) (event.Command n) refl h) [
      | inl f ↦ forced-command plan past n f
      | inr a ↦ cc
    ]

-- ---- a stage

-- the set with this number is a request of the plan, and begins this stage next
pub record IsStepped (plan : Plan) (s : State) (id : RequestId) (k : ℕ) : Type 0 where
  pub req : Req
  pub element : Has plan.requests req
  pub number : req.number ≡ id
  pub step : set_step plan s req ≡ Some (event.Stage id k)

-- a forced stage is the step of its set
forced-stage : (plan : Plan) (s : State) (id : RequestId) (k : ℕ) → forced plan s ≡ Some (event.Stage id k) → IsStepped plan s id k
unfolding forced forced_interrupt forced_command forced_step forced_let
forced-stage plan s id k h =
    elim (or-some (forced_interrupt plan s) _ _ h) [
      | inl a ↦
          let p : (r : Req) × (find (is_left_running s) plan.requests ≡ Some r) × (event.Interrupt r.number ≡ event.Stage id k) =
          map-some (λ r. event.Interrupt r.number) (find (is_left_running s) plan.requests) _ a in
          cc
      | inr b ↦ elim (or-some (forced_command plan s) _ _ b) [
        | inl a ↦
            let p : (order : ℕ × Order) × (find (is_due s) (enumerate_from 1 plan.script.commands) ≡ Some order) × (event.Command order.0 ≡ event.Stage id k) =
            map-some (λ order. event.Command order.0) (find (is_due s) (enumerate_from 1 plan.script.commands)) _ a in
            cc
        | inr c ↦ elim (or-some (forced_step plan s) _ _ c) [
          | inl a ↦
              let p : (set : Req) × (find (has_step plan s) plan.requests ≡ Some set) × (set_step plan s set ≡ Some (event.Stage id k)) =
              and_then-some (set_step plan s) (find (has_step plan s) plan.requests) _ a in
              let f : (has_step plan s p.0 ≡ true) × Has plan.requests p.0 = find-some (has_step plan s) plan.requests p.0 p.1 in
              elim (set_step-step plan s p.0 _ p.2) [
                | inl x ↦
                    let e : event.Stage id k ≡ event.Stage p.0.number x.0 = x.1 in
                    let same : p.0.number ≡ id = cc in
                    record { req = p.0; element = f.1; number = same; step = p.2 }
                | inr x ↦ let e : event.Stage id k ≡ event.CloseSet p.0.number x.0 = x.1 in cc
              ]
          | inr d ↦
              let p : (r : Req) × (first_by precedes (may_let plan s) plan.requests ≡ Some r) × (let_event r ≡ event.Stage id k) =
              map-some let_event (first_by precedes (may_let plan s) plan.requests) _ d in
              elim (let_event-let p.0 _ p.2) [ inl x ↦ let e : event.Stage id k ≡ event.OpenSet p.0.number = x.1 in cc | inr x ↦ let e : event.Stage id k ≡ event.LetOut p.0.number = x.1 in cc ]
        ]
      ]
    ]

-- a stage that may follow is the step of its set
pub stage_stepped : (plan : Plan) (readings : Option (List Reading)) (past : List Event) (id : RequestId) (k : ℕ) → may_follow plan readings past (event.Stage id k) ≡ true
    → IsStepped plan (state plan past) id k
unfolding may_follow is_allowed
stage_stepped plan readings past id k h =
    elim (came plan (state plan past) (option_map (λ known. next_reading known past) readings) (event.Stage id k) refl h) [
      | inl f ↦ forced-stage plan (state plan past) id k f
      | inr a ↦ cc
    ]
