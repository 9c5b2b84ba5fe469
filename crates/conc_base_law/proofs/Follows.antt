-- What comes in any life has come in one that is finished.
use Rattle.std.proofs.Common.{◌≡◌, ℕ, true, false, not, ◌==◌, List, [], ◌∷◌, Option, None, Some, is_none, is_some, refl, sym, ◌∙◌, ap, subst, inl, inr}
use Rattle.std.specs.Option.{option_and_then}
use Rattle.std.specs.Prelude.{unwrap_or}
use Rattle.std.proofs.lemmas.Bool.{and_from, and_parts, both_ways, cases_Bool, eqb-true, not-false, not_from_true, or_cases, or_right}
use Rattle.conc_types.specs.declared.event.Event.{Event}
use Rattle.conc_types.specs.declared.event.Event.TheVariants as event
use Rattle.conc_types.specs.declared.event.Extent.{Extent}
use Rattle.conc_types.specs.declared.event.Outcome.{Outcome}
use Rattle.conc_types.specs.declared.event.RequestId.{RequestId}
use Rattle.conc_types.specs.declared.facts.State.{State}
use Rattle.conc_types.specs.declared.plan.Plan.{Plan}
use Rattle.conc_types.specs.declared.plan.Req.{Req}
use Rattle.conc_types.specs.declared.script.Order.{Order}
use Rattle.conc_types.specs.declared.script.Reading.{Reading}
use Rattle.conc_types.specs.Plans.{request}
use Rattle.conc_types.specs.Scripts.{are_in_order}
use Rattle.conc_types.specs.Stages.{has_stage}
use Rattle.conc_types.specs.Words.{is_between, numbered, some_and}
use Rattle.conc_base_law.specs.Facts.{completion, current_stage, is_entered, is_let, is_open, stages_begun, unlets, waits_for_stage}
use Rattle.conc_base_law.specs.Kinds.{begins_stage, closes, ends, is_command, lets, opens}
use Rattle.conc_base_law.specs.Law.{may_follow}
use Rattle.conc_base_law.specs.Next.{has_step, is_due, may_let}
use Rattle.conc_base_law.specs.Before.{occurs}
use Rattle.conc_base_law.specs.Plans.{parent}
use Rattle.conc_base_law.specs.Readings.{next_reading}
use Rattle.conc_base_law.specs.Stages.{has_ended, next_stage, set_step}
use Rattle.conc_base_law.specs.State.{has_come, now, state}
use Rattle.conc_base_law.specs.Words.{Has, id_eq, is_set}
use Rattle.conc_base_law.proofs.BegunStages.{stages_begun-occur}
use Rattle.conc_base_law.proofs.Comes.{close_comes, stage_comes}
use Rattle.conc_base_law.proofs.Completed.{opened_open}
use Rattle.conc_base_law.proofs.EqualEvents.{id_same}
use Rattle.conc_base_law.proofs.FactsAt.{opened-state}
use Rattle.conc_base_law.proofs.LiveApart.{let_could, open_could, opens-event, lets-event}
use Rattle.conc_base_law.proofs.Numbering.{numbered_plan}
use Rattle.conc_base_law.proofs.OpenSets.{open_set}
use Rattle.conc_base_law.proofs.RunningIsLet.{runs_let}
use Rattle.conc_base_law.proofs.Stops.{end_runs}
use Rattle.conc_base_law.specs.Steady.{Steady}
use Rattle.conc_base_law.proofs.Calm.{Calm, calm-before, calm-follows, since-occurs}
use Rattle.conc_base_law.proofs.Causes.{close_step, command_due, IsDueCommand, one_report, stage_step}
use Rattle.conc_base_law.proofs.Chains.{close_from, ended-member, FromStage, IsMember, member, outcome-at, same-ended, same-next, SameOutcomes, stage_from, steps_first, steps_on, has_stage-occurs}
use Rattle.conc_base_law.proofs.Endings.{closed_set_item, closes-event, completed-some, ended, ends-event, IsEnded, IsParent, open_opened, opened_or_closed, waits-parent, way, Way, way_cancel, way_close, way_end}
use Rattle.conc_base_law.proofs.Members.{member-no_set}
use Rattle.conc_base_law.proofs.Settled.{command_done, could-ready, IsReady, IsResting, ready-ended, ready-opened}
use Rattle.conc_base_law.proofs.StageChains.{Chain, chain, IsClosed, Leads, leads_last, leads_on_to}
use Rattle.conc_base_law.proofs.Times.{come-by_end}

-- a life of a steady plan that is finished
pub record IsFinal (plan : Plan) (readings : List Reading) (all : List Event) : Type 0 where
  pub steady : Steady plan readings
  pub order : are_in_order readings ≡ true
  pub calm : Calm plan readings all
  pub rest : IsResting plan (state plan all)
  pub done : is_none (next_reading readings all) ≡ true

-- what came before has come in all
pub record Follows (plan : Plan) (past all : List Event) : Type 0 where
  pub commands : (n : ℕ) → occurs (is_command n) past ≡ true → occurs (is_command n) all ≡ true
  pub opened : (s : Req) → Has plan.requests s → occurs (opens s.number) past ≡ true → occurs (opens s.number) all ≡ true
  pub begun : (s : Req) (k : ℕ) → Has plan.requests s → occurs (begins_stage s.number k) past ≡ true → occurs (begins_stage s.number k) all ≡ true
  pub let_out : (r : Req) → Has plan.requests r → occurs (lets r.number) past ≡ true → occurs (ends r.number) all ≡ true
  pub closed : (s : Req) → Has plan.requests s → occurs (closes s.number) past ≡ true → occurs (closes s.number) all ≡ true

-- ---- waiting

-- the request of a set is found by its number
parent-found : (plan : Plan) (r set : Req) → Has plan.requests set → r.parent ≡ Some set.number → parent plan r ≡ Some set
unfolding parent
parent-found plan r set hs h = ap (option_and_then (request plan)) h ∙ numbered_plan plan set hs

-- a member waits where its stage has not begun
waits-is : (plan : Plan) (past : List Event) (r set : Req) → parent plan r ≡ Some set → waits_for_stage plan past r ≡ not (has_stage (stages_begun past set.number) r.stage)
unfolding waits_for_stage
waits-is plan past r set h = ap (some_and (λ set. not (has_stage (stages_begun past set.number) r.stage))) h

-- a stage that has begun is one of the first 64
between : (bits k : ℕ) → has_stage bits k ≡ true → is_between 1 64 k ≡ true
unfolding has_stage
between bits k h = (and_parts (is_between 1 64 k) _ h).0

-- what waits in all waits before
pub waits-less : (plan : Plan) (past all : List Event) (r : Req) → ((s : Req) (k : ℕ) → Has plan.requests s → occurs (begins_stage s.number k) past ≡ true → occurs (begins_stage s.number k) all ≡ true)
    → waits_for_stage plan past r ≡ false → waits_for_stage plan all r ≡ false
waits-less plan past all r begun h = elim (cases_Bool (waits_for_stage plan all r)) [
  | inr f ↦ f
  | inl t ↦
      let p : (set : Req) × IsParent plan r set = waits-parent plan all r t in
      let set = p.0 in
      let b : has_stage (stages_begun past set.number) r.stage ≡ true = not-false _ (sym (waits-is plan past r set p.1.is) ∙ h) in
      let i : is_between 1 64 r.stage ≡ true = between (stages_begun past set.number) r.stage b in
      let s : occurs (begins_stage set.number r.stage) all ≡ true = begun set r.stage p.1.element (has_stage-occurs past set.number r.stage b) in
      waits-is plan all r set p.1.is ∙ not_from_true _ (stages_begun-occur all set.number r.stage i ∙ s)
]

-- what is ready before is ready in all
ready-all : (plan : Plan) (readings : List Reading) (past all : List Event) (r : Req) → IsFinal plan readings all → Calm plan readings past → Follows plan past all → IsReady plan past r → IsReady plan all r
unfolding is_entered
ready-all plan readings past all r f c w p = record {
  entered = w.commands r.command p.entered;
  come = come-by_end plan readings past all r.start f.order c f.calm f.done p.come;
  can = p.can;
  waits_not = waits-less plan past all r w.begun p.waits_not;
}

-- ---- a command, an opening and a let

-- the event of a command
command-event : (n : ℕ) (e : Event) → is_command n e ≡ true → e ≡ event.Command n
command-event n (event.Command m) h = ap (λ z. event.Command z) (eqb-true m n h)
command-event n _ h = cc

-- the moment of a command that is due has come
due-come : (s : State) (order : ℕ × Order) → is_due s order ≡ true → has_come s.time order.1.at ≡ true
unfolding is_due
due-come s order h = (and_parts (not (unwrap_or (numbered s.done order.0) false)) _ h).1

-- a command that comes is done in all
command-all : (plan : Plan) (readings : List Reading) (past all : List Event) (n : ℕ) → IsFinal plan readings all → Calm plan readings past → may_follow plan None past (event.Command n) ≡ true
    → occurs (is_command n) all ≡ true
unfolding state
command-all plan readings past all n f c m =
    let d : IsDueCommand plan (state plan past) n = command_due plan past n m in
    let come : has_come (now past) d.order.1.at ≡ true = due-come (state plan past) d.order d.due in
    subst (λ z. occurs (is_command z) all ≡ true) d.number
    (command_done plan all d.order f.rest d.element (come-by_end plan readings past all d.order.1.at f.order c f.calm f.done come))

-- a set that opens was opened in all
open-all : (plan : Plan) (readings : List Reading) (past all : List Event) (s : Req) → Has plan.requests s → IsFinal plan readings all → Calm plan readings past → Follows plan past all
    → may_follow plan None past (event.OpenSet s.number) ≡ true → occurs (opens s.number) all ≡ true
open-all plan readings past all s hs f c w m =
    let could : (may_let plan (state plan past) s ≡ true) × (is_set s.item ≡ true) = open_could plan None past s hs m in
    ready-opened plan readings all s f.steady hs f.calm f.rest could.1 (ready-all plan readings past all s f c w (could-ready plan past s hs could.0))

-- a request that is let out has ended in all
let-all : (plan : Plan) (readings : List Reading) (past all : List Event) (r : Req) → Has plan.requests r → IsFinal plan readings all → Calm plan readings past → Follows plan past all
    → may_follow plan None past (event.LetOut r.number) ≡ true → occurs (ends r.number) all ≡ true
let-all plan readings past all r hr f c w m =
    let could : (may_let plan (state plan past) r ≡ true) × (is_set r.item ≡ false) = let_could plan None past r hr m in
    ready-ended plan readings all r f.steady hr f.calm f.rest could.1 (ready-all plan readings past all r f c w (could-ready plan past r hr could.0))

-- ---- outcomes of stages

-- a let request was let out
was_let : (plan : Plan) (past : List Event) (r : Req) → is_let plan past r ≡ true → occurs (lets r.number) past ≡ true
unfolding is_let
was_let plan past r h = since-occurs (lets r.number) (unlets plan r) past h

-- a request that ended was let
pub ended-let : (plan : Plan) (readings : List Reading) (past : List Event) (r : Req) → Has plan.requests r → Calm plan readings past → occurs (ends r.number) past ≡ true → occurs (lets r.number) past ≡ true
ended-let plan readings [] r hr c h = cc
ended-let plan readings (e ∷ past) r hr c h = elim (or_cases (ends r.number e) _ h) [
  | inl k ↦
      let p : (o : Outcome) × (x : Option Extent) × (e ≡ event.Ended r.number o x) = ends-event r.number e k in
      let b : Calm plan readings past = calm-before plan readings past e c in
      let m = subst (λ d. may_follow plan None past d ≡ true) p.2 (calm-follows plan readings past e c) in
      or_right _ _ (was_let plan past r (runs_let plan past r hr b.so_far (end_runs plan None past r p.0 p.1 hr m)))
  | inr k ↦ or_right _ _ (ended-let plan readings past r hr (calm-before plan readings past e c) k)
]

-- a request that ended in both ended with the same outcome
pub ended-same : (plan : Plan) (readings : List Reading) (a b : List Event) (r : Req) → Has plan.requests r → Calm plan readings a → Calm plan readings b
    → occurs (ends r.number) a ≡ true → occurs (ends r.number) b ≡ true → completion plan a r ≡ completion plan b r
ended-same plan readings a b r hr c d h k =
    let p : IsEnded plan a r = ended plan readings a r hr c h in
    let q : IsEnded plan b r = ended plan readings b r hr d k in
    p.is ∙ (ap (λ z. Some z) (one_report plan r p.outcome q.outcome p.report q.report) ∙ sym q.is)

-- the members of a stage that began and has ended have ended in all, with the same outcomes
pub members-same : (plan : Plan) (readings : List Reading) (past all : List Event) (set : Req) (k : ℕ) → Has plan.requests set → Calm plan readings past → Calm plan readings all
    → ((r : Req) → Has plan.requests r → occurs (lets r.number) past ≡ true → occurs (ends r.number) all ≡ true)
    → has_ended plan (state plan past) set k ≡ true → occurs (begins_stage set.number k) past ≡ true → SameOutcomes plan set past all k
members-same plan readings past all set k hs c d goes h b = λ r m.
    let i : IsMember plan set.number k r = member plan set.number k r m in
    let o : (o : Outcome) × (completion plan past r ≡ Some o) = completed-some plan past r (ended-member plan past set k r h m) in
    outcome-at plan past r i.element ∙ (by r i (way plan readings past r o.0 c o.1) ∙ sym (outcome-at plan all r i.element)) where
      by : (r : Req) → IsMember plan set.number k r → {o : Outcome} → Way plan past r o → completion plan past r ≡ completion plan all r
      by r i (way_end e) = ended-same plan readings past all r i.element c d e (goes r i.element (ended-let plan readings past r i.element c e))
      by r i (way_close e) = absurd (both_ways _ (member-no_set plan r i.element (ap is_some i.parent)) (closed_set_item plan readings past r i.element c e))
      by r i (way_cancel e w n) =
          let p : parent plan r ≡ Some set = parent-found plan r set hs i.parent in
          let in_it : is_between 1 64 k ≡ true = (chain plan readings past set hs c).within k b in
          let began : has_stage (stages_begun past set.number) k ≡ true = stages_begun-occur past set.number k in_it ∙ b in
          let here : has_stage (stages_begun past set.number) r.stage ≡ true = ap (has_stage (stages_begun past set.number)) i.stage ∙ began in
          absurd (both_ways _ (waits-is plan past r set p ∙ not_from_true _ here) w)

-- ---- a stage and a close

-- no open set of a finished list has a step
no_step : (plan : Plan) (all : List Event) (set : Req) → Has plan.requests set → IsResting plan (state plan all) → is_open all set ≡ true → is_some (set_step plan (state plan all) set) ≡ true → ⊥
unfolding has_step
no_step plan all set hs rest o h = both_ways _ (rest.no_step set hs) (and_from _ _ (opened-state plan all set hs ∙ o) h)

-- where the current stage of a finished list has ended, its set was closed
ended-closed : (plan : Plan) (readings : List Reading) (all : List Event) (set : Req) (j : ℕ) → Has plan.requests set → IsFinal plan readings all → is_set set.item ≡ true → occurs (opens set.number) all ≡ true
    → FromStage plan all set j → occurs (closes set.number) all ≡ true
ended-closed plan readings all set j hs f item o from = elim (opened_or_closed all set item o) [
  | inl opened ↦ absurd (no_step plan all set hs f.rest opened (steps_on plan all set j hs from))
  | inr closed ↦ closed
]

-- a set that was opened has a current stage
pub opened-current : (plan : Plan) (readings : List Reading) (all : List Event) (set : Req) → Has plan.requests set → IsFinal plan readings all → is_set set.item ≡ true → occurs (opens set.number) all ≡ true
    → (j : ℕ) × (current_stage all set.number ≡ Some j)
opened-current plan readings all set hs f item o = elim (opened_or_closed all set item o) [
  | inl opened ↦ by (current_stage all set.number) refl opened
  | inr closed ↦ let l : IsClosed plan all set = (chain plan readings all set hs f.calm).closed closed in (l.last, l.from.current)
] where
  by : (c : Option ℕ) → current_stage all set.number ≡ c → is_open all set ≡ true → (j : ℕ) × (current_stage all set.number ≡ Some j)
  by None is opened = absurd (no_step plan all set hs f.rest opened (steps_first plan all set hs is))
  by (Some j) is opened = (j, is)

-- the event of a stage
stage-event : (s : RequestId) (k : ℕ) (e : Event) → begins_stage s k e ≡ true → e ≡ event.Stage s k
stage-event s k (event.Stage q j) h =
    let p : (id_eq q s ≡ true) × ((j == k) ≡ true) = and_parts _ _ h in
    ap (λ z. event.Stage z j) (id_same q s p.0) ∙ ap (λ z. event.Stage s z) (eqb-true j k p.1)
stage-event s k _ h = cc

-- what a stage that has ended before says of all
pub record Reached (plan : Plan) (past all : List Event) (set : Req) (j : ℕ) : Type 0 where
  pub begun : occurs (begins_stage set.number j) all ≡ true
  pub ended : has_ended plan (state plan all) set j ≡ true
  pub next : next_stage plan (state plan past) set j ≡ next_stage plan (state plan all) set j

-- it says this
reached : (plan : Plan) (readings : List Reading) (past all : List Event) (set : Req) (j : ℕ) → Has plan.requests set → IsFinal plan readings all → Calm plan readings past → Follows plan past all
    → FromStage plan past set j → Reached plan past all set j
reached plan readings past all set j hs f c w from =
    let b = (chain plan readings past set hs c).begun j from.current in
    let same : SameOutcomes plan set past all j = members-same plan readings past all set j hs c f.calm w.let_out from.ended b in
    record { begun = w.begun set j hs b; ended = sym (same-ended plan set past all j same) ∙ from.ended; next = same-next plan set past all j same }

-- a stage that begins has begun in all
stage-all : (plan : Plan) (readings : List Reading) (past all : List Event) (set : Req) (k : ℕ) → Has plan.requests set → IsFinal plan readings all → Calm plan readings past → Follows plan past all
    → may_follow plan None past (event.Stage set.number k) ≡ true → occurs (begins_stage set.number k) all ≡ true
stage-all plan readings past all set k hs f c w m =
    let opened : is_open past set ≡ true = opened_open plan past set hs (stage_comes plan None past set.number k m) in
    let item : is_set set.item ≡ true = open_set past set opened in
    let o : occurs (opens set.number) all ≡ true = w.opened set hs (open_opened past set opened) in
    let d : Chain plan all set = chain plan readings all set hs f.calm in
    elim (stage_from plan past set k hs (stage_step plan past set k hs m)) [
      | inl n ↦
          let j : (j : ℕ) × (current_stage all set.number ≡ Some j) = opened-current plan readings all set hs f item o in
          subst (λ z. occurs (begins_stage set.number z) all ≡ true) (sym n.1) (d.first j.0 j.1)
      | inr p ↦
          let q : Reached plan past all set p.0 = reached plan readings past all set p.0 hs f c w p.1 in
          by item o p.0 q (sym q.next ∙ p.2) (d.leads p.0 q.begun)
    ] where
      by : is_set set.item ≡ true → occurs (opens set.number) all ≡ true → (j : ℕ) → Reached plan past all set j → next_stage plan (state plan all) set j ≡ Some k → Leads plan all set j
          → occurs (begins_stage set.number k) all ≡ true
      by item o j q next (leads_on_to n h i b) =
          let e : Some n ≡ Some k = sym i ∙ next in
          let s : n ≡ k = cc in
          subst (λ z. occurs (begins_stage set.number z) all ≡ true) s b
      by item o j q next (leads_last l) =
          let closed = ended-closed plan readings all set j hs f item o (record { current = l; ended = q.ended }) in
          let z : IsClosed plan all set = (chain plan readings all set hs f.calm).closed closed in
          let e : Some z.last ≡ Some j = sym z.from.current ∙ l in
          let s : z.last ≡ j = cc in
          let none : next_stage plan (state plan all) set j ≡ None = ap (next_stage plan (state plan all) set) (sym s) ∙ z.none in
          absurd (cc (none, next))

-- a set that closes was closed in all
close-all : (plan : Plan) (readings : List Reading) (past all : List Event) (set : Req) (o : Outcome) → Has plan.requests set → IsFinal plan readings all → Calm plan readings past → Follows plan past all
    → may_follow plan None past (event.CloseSet set.number o) ≡ true → occurs (closes set.number) all ≡ true
close-all plan readings past all set o hs f c w m =
    let opened : is_open past set ≡ true = opened_open plan past set hs (close_comes plan None past set.number o m) in
    let item : is_set set.item ≡ true = open_set past set opened in
    let p = close_from plan past set o hs (close_step plan past set o hs m) in
    let q : Reached plan past all set p.0 = reached plan readings past all set p.0 hs f c w p.1 in
    by item (w.opened set hs (open_opened past set opened)) p.0 q (sym q.next ∙ p.2) ((chain plan readings all set hs f.calm).leads p.0 q.begun) where
      by : is_set set.item ≡ true → occurs (opens set.number) all ≡ true → (j : ℕ) → Reached plan past all set j → next_stage plan (state plan all) set j ≡ None → Leads plan all set j
          → occurs (closes set.number) all ≡ true
      by item o j q next (leads_on_to n h i b) = absurd (cc (i, next))
      by item o j q next (leads_last l) = ended-closed plan readings all set j hs f item o (record { current = l; ended = q.ended })

-- ---- all events

-- what comes in any life has come in one that is finished
pub follows : (plan : Plan) (readings : List Reading) (past all : List Event) → IsFinal plan readings all → Calm plan readings past → Follows plan past all
follows plan readings [] all f c = record {
  commands = λ n h. cc;
  opened = λ s hs h. cc;
  begun = λ s k hs h. cc;
  let_out = λ r hr h. cc;
  closed = λ s hs h. cc;
}
follows plan readings (e ∷ past) all f c =
    let b : Calm plan readings past = calm-before plan readings past e c in
    let w : Follows plan past all = follows plan readings past all f b in
    let m : may_follow plan None past e ≡ true = calm-follows plan readings past e c in
    record {
      commands = λ n h. elim (or_cases (is_command n e) _ h) [
        | inl k ↦ command-all plan readings past all n f b (subst (λ d. may_follow plan None past d ≡ true) (command-event n e k) m)
        | inr k ↦ w.commands n k
      ];
      opened = λ s hs h. elim (or_cases (opens s.number e) _ h) [
        | inl k ↦ open-all plan readings past all s hs f b w (subst (λ d. may_follow plan None past d ≡ true) (opens-event s.number e k) m)
        | inr k ↦ w.opened s hs k
      ];
      begun = λ s i hs h. elim (or_cases (begins_stage s.number i e) _ h) [
        | inl k ↦ stage-all plan readings past all s i hs f b w (subst (λ d. may_follow plan None past d ≡ true) (stage-event s.number i e k) m)
        | inr k ↦ w.begun s i hs k
      ];
      let_out = λ r hr h. elim (or_cases (lets r.number e) _ h) [
        | inl k ↦ let-all plan readings past all r hr f b w (subst (λ d. may_follow plan None past d ≡ true) (lets-event r.number e k) m)
        | inr k ↦ w.let_out r hr k
      ];
      closed = λ s hs h. elim (or_cases (closes s.number e) _ h) [
        | inl k ↦ let p : (o : Outcome) × (e ≡ event.CloseSet s.number o) = closes-event s.number e k in
            close-all plan readings past all s p.0 hs f b w (subst (λ d. may_follow plan None past d ≡ true) p.1 m)
        | inr k ↦ w.closed s hs k
      ];
    }
