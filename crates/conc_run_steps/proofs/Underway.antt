-- A run that is under way.
use Rattle.std.proofs.Common.{◌≡◌, List, [], Option, Some, IfSome, refl, sym, ◌∙◌, ap, subst, arith}
use Rattle.std.specs.Prelude.{unwrap_or}
use Rattle.conc_types.specs.declared.plan.Plan.{Plan}
use Rattle.conc_types.specs.declared.script.Reading.{Reading}
use Rattle.conc_disk.specs.Disk.{DiskState}
use Rattle.conc_journal.specs.Journals.{state_of}
use Rattle.conc_run_state.specs.Machines.{readings_of}
use Rattle.conc_run_state.specs.Works.{AreReady, list_in}
use Rattle.conc_run_state.specs.declared.work.Work.{Work}
use Rattle.conc_run_state.specs.Disks.{Disks, disks}
use Rattle.conc_run_steps.specs.Going.{IsUnderway, WentOn}
use Rattle.conc_run_steps.specs.Steps.{IsReady, plan_in, readings_in}
use Rattle.conc_run_steps.proofs.Going.{went-none, went-twice}
use Rattle.conc_run_steps.proofs.Texts.{stores-still}
use Rattle.conc_journal_spool.specs.Spools.{used_of}

-- a run that does nothing
pub went-still : (work : Work) (journal spool : DiskState) → IsReady work journal spool → IfSome spool.seen spool.may_leave → WentOn (plan_in work) (readings_in work) (disks journal journal spool spool) work work
went-still work journal spool ready left =
    went-none (plan_in work) (readings_in work) work work journal spool spool ready.tied.lawful ready.sound refl ready.tied
    (stores-still (plan_in work) (used_of work.spool) (list_in work) spool left ready.tied.spool_on)

pub underway-still : (work : Work) (journal spool : DiskState) → IsReady work journal spool → IfSome spool.seen spool.may_leave → IsUnderway work work (disks journal journal spool spool)
underway-still work journal spool ready left = record {
  began = ready;
  ready = ready;
  went = went-still work journal spool ready left;
  state = refl;
  faults = omega arith;
}

-- what holds by the plan and the readings of a work holds by those that are the same
module _ (plan : Plan) (readings : List Reading) (work : Work) (same : plan_in work ≡ plan) (known : readings_of work.machine ≡ Some readings) where
  same-readings : readings_in work ≡ readings
  same-readings = ap (λ (o : Option (List Reading)). unwrap_or o []) known

  pub by-same : (P : Plan → List Reading → Type 0) → P (plan_in work) (readings_in work) → P plan readings
  by-same P own = subst (λ (p : Plan). P p readings) same (subst (λ (l : List Reading). P (plan_in work) l) same-readings own)

  -- and the other way round
  pub by-own : (P : Plan → List Reading → Type 0) → P plan readings → P (plan_in work) (readings_in work)
  by-own P given =
      subst (λ (p : Plan). P p (readings_in work)) (sym same)
      (subst (λ (l : List Reading). P plan l) (sym same-readings) given)

-- such are those that a work has gone on with
pub by-first : (first new : Work) (d : Disks) → WentOn (plan_in first) (readings_in first) d first new → (P : Plan → List Reading → Type 0) → P (plan_in new) (readings_in new) → P (plan_in first) (readings_in first)
by-first first new d went = by-same (plan_in first) (readings_in first) new went.tied.plan_is went.tied.readings_are

-- one step more
module _ (first mid new : Work) (journal journal' journal'' spool spool' spool'' : DiskState) (under : IsUnderway first mid (disks journal journal' spool spool'))
    (more : WentOn (plan_in mid) (readings_in mid) (disks journal' journal'' spool' spool'') mid new) where
  by-mid : (P : Plan → List Reading → Type 0) → P (plan_in mid) (readings_in mid) → P (plan_in first) (readings_in first)
  by-mid = by-first first mid (disks journal journal' spool spool') under.went

  pub went-further : WentOn (plan_in first) (readings_in first) (disks journal journal'' spool spool'') first new
  went-further =
      went-twice (plan_in first) (readings_in first) first mid new journal journal' journal'' spool spool' spool''
      (by-mid (λ p l. AreReady p l mid journal' spool') under.ready)
      under.began.tied.used_is under.state under.went
      (by-mid (λ p l. WentOn p l (disks journal' journal'' spool' spool'') mid new) more)

  pub underway-more : IsReady new journal'' spool'' → state_of new.journal ≡ state_of mid.journal → IsUnderway first new (disks journal journal'' spool spool'')
  underway-more ready state = record {
    began = under.began;
    ready = ready;
    went = went-further;
    state = state ∙ under.state;
    faults = omega (arith, under.faults, more.journal_faults);
  }
