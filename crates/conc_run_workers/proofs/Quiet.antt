-- Steps of the resolver that let no request.
use Rattle.std.proofs.Common.{◌≡◌, inl, inr, false, List, [], ◌∷◌, ◌++◌, Option, Some, Result, Ok, Err, append-nil, append_assoc, refl, sym, ◌∙◌, ap, subst}
use Rattle.conc_types.specs.declared.event.Event.{Event}
use Rattle.conc_types.specs.declared.event.Event.TheVariants as event
use Rattle.conc_types.specs.declared.event.Extent.{Extent}
use Rattle.conc_types.specs.declared.event.Moment.{Moment}
use Rattle.conc_types.specs.declared.event.Outcome.{Outcome}
use Rattle.conc_types.specs.declared.event.PlaceId.{PlaceId}
use Rattle.conc_types.specs.declared.event.RequestId.{RequestId}
use Rattle.conc_types.specs.declared.plan.Plan.{Plan}
use Rattle.conc_types.specs.Plans.{request}
use Rattle.conc_base_law.specs.Alone.{end_of}
use Rattle.conc_base_law.specs.Kinds.{is_resume}
use Rattle.conc_base_law.specs.State.{facts_at, is_stopping, state}
use Rattle.conc_base_law.proofs.Options.{and_then-some}
use Rattle.conc_pool_lanes.specs.Puts.{lets_of}
use Rattle.conc_pool_lanes.proofs.LetsRoom.{lets_of-append}
use Rattle.conc_run_state.specs.Machines.{Machine, plan_of}
use Rattle.conc_journal.specs.Journals.{list_of}
use Rattle.conc_journal.specs.declared.journal.Journal.{Journal}
use Rattle.conc_run_state.specs.Works.{list_in}
use Rattle.conc_run_state.specs.declared.error.RunFail.{RunFail}
use Rattle.conc_run_state.specs.declared.work.Work.{Work}
use Rattle.conc_run_steps.specs.Steps.{plan_in}
use Rattle.conc_run_desk.specs.Desks.{list_at, SameWork}
use Rattle.conc_run_desk.specs.Keeping.{end_in, SameList}
use Rattle.conc_run_desk.specs.Logging.{IsLogged, IsUnlogged}
use Rattle.conc_run_desk.specs.State.{DeskState}
use Rattle.conc_run_desk.proofs.Ends.{ends_it}
use Rattle.conc_run_workers.specs.Filling.{Adds, AddsEvent, AddsNoLet}
use Rattle.conc_run_workers.proofs.Filled.{any-append, no-resume}

-- ---- one event

pub adds-logged : (e : Event) (old new : DeskState) → IsLogged e old new → Adds old new (e ∷ [])
adds-logged e old new logged = record { plan = logged.plan; begun_with = logged.begun_with; list = logged.list }

pub adds-unlogged : (e : Event) (old new : DeskState) → IsUnlogged e old new → Adds old new []
adds-unlogged e old new logged = record {
  plan = ap (λ (m : Machine). plan_of m) logged.machine;
  begun_with = logged.begun_with;
  list = logged.list ∙ sym (append-nil (list_at old));
}

-- however it was told
pub adds-told : (e : Event) (old new : DeskState) (answer : Result Unit RunFail) → Adds old new (e ∷ []) → AddsEvent e answer old new
adds-told e old new (Ok x) adds = adds
adds-told e old new (Err fail) adds = inr adds

-- ---- none that lets a request

-- of one event
pub quiet-one : (e : Event) (old new : DeskState) → is_resume e ≡ false → lets_of (e ∷ []) ≡ [] → Adds old new (e ∷ []) → AddsNoLet old new
quiet-one e old new none calm adds = record { added = e ∷ []; adds = adds; no_resume = no-resume e none; no_let = calm }

pub quiet-empty : (old new : DeskState) → Adds old new [] → AddsNoLet old new
unfolding lets_of
quiet-empty old new adds = record { added = []; adds = adds; no_resume = refl; no_let = refl }

-- of one event or none
pub quiet-event : (e : Event) (old new : DeskState) (fail : RunFail) → is_resume e ≡ false → lets_of (e ∷ []) ≡ [] → AddsEvent e (Err fail) old new → AddsNoLet old new
quiet-event e old new fail none calm (inl adds) = quiet-empty old new adds
quiet-event e old new fail none calm (inr adds) = quiet-one e old new none calm adds

-- a step on the board alone
pub quiet-still : (old new : DeskState) → SameWork old new → AddsNoLet old new
quiet-still old new same = quiet-empty old new (record {
  plan = ap (λ (w : Work). plan_in w) same.work;
  begun_with = same.begun_with;
  list = ap (λ (w : Work). list_in w) same.work ∙ sym (append-nil (list_at old));
})

-- an end that is kept or not, and no event
pub quiet-kept : (old new : DeskState) → SameList old new → AddsNoLet old new
quiet-kept old new same = quiet-empty old new (record {
  plan = ap (λ (m : Machine). plan_of m) same.machine;
  begun_with = same.begun_with;
  list = ap (λ (j : Journal). list_of j) same.journal ∙ sym (append-nil (list_at old));
})

-- one after the other
pub quiet-after : (old mid new : DeskState) → AddsNoLet old mid → AddsNoLet mid new → AddsNoLet old new
quiet-after old mid new first second = record {
  added = first.added ++ second.added;
  adds = record {
    plan = second.adds.plan ∙ first.adds.plan;
    begun_with = second.adds.begun_with ∙ first.adds.begun_with;
    list = second.adds.list ∙ (ap (λ (l : List Event). l ++ second.added) first.adds.list ∙ append_assoc (list_at old) first.added second.added);
  };
  no_resume = any-append first.added second.added first.no_resume second.no_resume;
  no_let = lets_of-append first.added second.added ∙ (ap (λ (l : List RequestId). l ++ lets_of second.added) first.no_let ∙ second.no_let);
}

-- ---- kinds of event

pub tick-quiet : (t : Moment) → lets_of (event.Tick t ∷ []) ≡ []
unfolding lets_of
tick-quiet t = refl

pub start-quiet : (r : RequestId) (p : PlaceId) → lets_of (event.Started r p ∷ []) ≡ []
unfolding lets_of
start-quiet r p = refl

end_quiet : (r : RequestId) (o : Outcome) (x : Option Extent) → lets_of (event.Ended r o x ∷ []) ≡ []
unfolding lets_of
end_quiet r o x = refl

pub end-quiet : (plan : Plan) (past : List Event) (r : RequestId) (e : Event) → end_in plan past r ≡ Some e → lets_of (e ∷ []) ≡ []
end-quiet plan past r e is =
    let x = and_then-some (end_of plan (state plan past)) (request plan r) e is in
    let its = ends_it (state plan past) plan x.0 e (is_stopping (facts_at (state plan past) x.0)) x.2 in
    subst (λ (d : Event). lets_of (d ∷ []) ≡ []) its.2 (end_quiet x.0.number its.0 its.1)
