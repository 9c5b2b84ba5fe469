-- What holds where a request ends or is interrupted.
use Rattle.std.proofs.Common.{◌≡◌, true, false, not, ◌&&◌, List, Option, if◌then◌else◌, refl, sym, ◌∙◌, ap, subst, inl, inr}
use Rattle.std.specs.Option.{option_map}
use Rattle.std.specs.Prelude.{is_none}
use Rattle.std.proofs.lemmas.Bool.{and_parts, not-true}
use Rattle.conc_types.specs.declared.event.Event.{Event}
use Rattle.conc_types.specs.declared.event.Event.TheVariants as event
use Rattle.conc_types.specs.declared.event.Extent.{Extent}
use Rattle.conc_types.specs.declared.event.Outcome.{Outcome}
use Rattle.conc_types.specs.declared.event.RequestId.{RequestId}
use Rattle.conc_types.specs.declared.facts.State.{State}
use Rattle.conc_types.specs.declared.plan.Plan.{Plan}
use Rattle.conc_types.specs.declared.plan.Req.{Req}
use Rattle.conc_types.specs.declared.script.Reading.{Reading}
use Rattle.conc_types.specs.Plans.{request}
use Rattle.conc_types.specs.Words.{some_and}
use Rattle.conc_base_law.specs.Facts.{runs}
use Rattle.conc_base_law.specs.Law.{may_follow}
use Rattle.conc_base_law.specs.Next.{is_allowed, is_left_running, is_next_extent, is_report_outcome, is_terminated, may_end}
use Rattle.conc_base_law.specs.Readings.{next_reading}
use Rattle.conc_base_law.specs.State.{facts_at, is_running, is_stopping, state}
use Rattle.conc_base_law.specs.Words.{Has}
use Rattle.conc_base_law.proofs.Comes.{comes_allowed, comes_forced, same_request}
use Rattle.conc_base_law.proofs.FactsAt.{is_running-state}
use Rattle.conc_base_law.proofs.ForcedBy.{by_command, by_interrupt, by_let, by_step, ForcedBy}
use Rattle.conc_base_law.proofs.Numbering.{numbered_plan}

-- ---- an end

-- a request that ends may end so
pub end_comes : (plan : Plan) (readings : Option (List Reading)) (past : List Event) (r : Req) (o : Outcome) (x : Option Extent) → Has plan.requests r
    → may_follow plan readings past (event.Ended r.number o x) ≡ true → may_end (state plan past) r o x ≡ true
unfolding may_follow is_allowed
end_comes plan readings past r o x hr h =
    let s = state plan past in
    let allowed : some_and (λ q. may_end s q o x) (request plan r.number) ≡ true =
    (comes_allowed plan s (option_map (λ known. next_reading known past) readings) (event.Ended r.number o x) refl refl h).1 in
    ap (some_and (λ q. may_end s q o x)) (sym (numbered_plan plan r hr)) ∙ allowed

-- a request that may end runs
pub may_end-runs : (s : State) (r : Req) (o : Outcome) (x : Option Extent) → may_end s r o x ≡ true → is_running (facts_at s r) ≡ true
unfolding may_end
may_end-runs s r o x h =
    (and_parts
    (is_running (facts_at s r))
    (if is_stopping (facts_at s r) then is_terminated o && is_none x else is_report_outcome o && some_and (is_next_extent s) x)
    h).0

-- a request that ends runs
pub end_runs : (plan : Plan) (readings : Option (List Reading)) (past : List Event) (r : Req) (o : Outcome) (x : Option Extent) → Has plan.requests r
    → may_follow plan readings past (event.Ended r.number o x) ≡ true → runs past r.number ≡ true
end_runs plan readings past r o x hr h =
    sym (is_running-state plan past r hr) ∙ may_end-runs (state plan past) r o x (end_comes plan readings past r o x hr h)

-- ---- an interrupt

-- r is a request of the plan with this number, and runs since an earlier life
pub record LeftRunning (plan : Plan) (s : State) (id : RequestId) : Type 0 where
  pub req : Req
  pub element : Has plan.requests req
  pub number : req.number ≡ id
  pub runs_on : is_left_running s req ≡ true

-- a forced interrupt is that of such a request
interrupt_by : (plan : Plan) (s : State) (id : RequestId) → ForcedBy plan s (event.Interrupt id) → LeftRunning plan s id
interrupt_by plan s id (by_interrupt r hr p e) = let n : r.number ≡ id = cc in record { req = r; element = hr; number = n; runs_on = p }
interrupt_by plan s id (by_command n e) = cc
interrupt_by plan s id (by_step set hs p (inl e)) = let k : event.Interrupt id ≡ event.Stage set.number e.0 = e.1 in cc
interrupt_by plan s id (by_step set hs p (inr e)) = let k : event.Interrupt id ≡ event.CloseSet set.number e.0 = e.1 in cc
interrupt_by plan s id (by_let r hr p (inl e)) = let k : event.Interrupt id ≡ event.OpenSet r.number = e.1 in cc
interrupt_by plan s id (by_let r hr p (inr e)) = let k : event.Interrupt id ≡ event.LetOut r.number = e.1 in cc

-- a request that is interrupted runs since an earlier life
pub interrupt_comes : (plan : Plan) (readings : Option (List Reading)) (past : List Event) (id : RequestId)
    → may_follow plan readings past (event.Interrupt id) ≡ true → LeftRunning plan (state plan past) id
unfolding may_follow is_allowed
interrupt_comes plan readings past id h =
    interrupt_by plan (state plan past) id
    (comes_forced plan (state plan past) (option_map (λ known. next_reading known past) readings) (event.Interrupt id) refl refl h)

-- the same, of a request of the plan
pub interrupt_left : (plan : Plan) (readings : Option (List Reading)) (past : List Event) (r : Req) → Has plan.requests r
    → may_follow plan readings past (event.Interrupt r.number) ≡ true
    → (is_running (facts_at (state plan past) r) ≡ true) × ((facts_at (state plan past) r).started ≡ false)
unfolding is_left_running
interrupt_left plan readings past r hr h =
    let l : LeftRunning plan (state plan past) r.number = interrupt_comes plan readings past r.number h in
    let same : l.req ≡ r = same_request plan l.req r l.element hr l.number in
    let p : (is_running (facts_at (state plan past) r) && not (facts_at (state plan past) r).started) ≡ true =
    subst (λ z. (is_running (facts_at (state plan past) z) && not (facts_at (state plan past) z).started) ≡ true) same l.runs_on in
    let q : (is_running (facts_at (state plan past) r) ≡ true) × (not (facts_at (state plan past) r).started ≡ true) = and_parts _ _ p in
    (q.0, not-true _ q.1)

-- a request that is interrupted runs
pub interrupt_runs : (plan : Plan) (readings : Option (List Reading)) (past : List Event) (r : Req) → Has plan.requests r
    → may_follow plan readings past (event.Interrupt r.number) ≡ true → runs past r.number ≡ true
interrupt_runs plan readings past r hr h = sym (is_running-state plan past r hr) ∙ (interrupt_left plan readings past r hr h).0
