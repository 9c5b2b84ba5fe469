-- The journal and the spool fit throughout a step, of which each part writes one of them.
use Rattle.std.proofs.Common.{◌≡◌, ℕ, List, [], ◌∷◌, ◌++◌, None, Some, sym, ap, subst}
use Rattle.std.specs.Prelude.{IfSome, unwrap_or}
use Rattle.std.proofs.lemmas.Option.{IfSome_then}
use Rattle.conc_types.specs.declared.digests.Digests.{Digests}
use Rattle.conc_types.specs.declared.event.Event.{Event}
use Rattle.conc_types.specs.declared.event.Event.TheVariants as event
use Rattle.conc_types.specs.declared.plan.Plan.{Plan}
use Rattle.conc_base_law.specs.Law.{Lawful}
use Rattle.conc_disk.specs.Disk.{DiskState}
use Rattle.conc_disk.specs.Left.{EachImage, LeavesOnly}
use Rattle.conc_disk.proofs.Leaving.{leaves-none}
use Rattle.conc_journal.specs.Journals.{list_of}
use Rattle.conc_journal.specs.Journals.{IsOn as JournalIsOn}
use Rattle.conc_journal.specs.declared.journal.Journal.{Journal}
use Rattle.conc_run_state.specs.Machines.{Machine, plan_of, readings_of}
use Rattle.conc_journal_spool.specs.Spools.{KeepsBelow, used_of}
use Rattle.conc_run_state.specs.Disks.{disks}
use Rattle.conc_run_state.specs.Fits.{FitThroughout}
use Rattle.conc_run_state.specs.Inputs.{IsBegunFor}
use Rattle.conc_run_state.specs.Stored.{AreStored}
use Rattle.conc_run_state.specs.Survival.{Survives}
use Rattle.conc_run_state.specs.Works.{list_in}
use Rattle.conc_run_state.specs.declared.work.Work.{Work}
use Rattle.conc_run_steps.specs.Steps.{any_disk, FitInTurn, IsReady, IsTied, MayLog, plan_in, readings_in, StoresOn, SurvivesFor}
use Rattle.conc_run_steps.proofs.Fitting.{fit-event, fit-text, get-more}
use Rattle.conc_run_steps.proofs.Stepping.{tied-by}

abbrev pub OnlyNow : DiskState → Type 0
OnlyNow disk = (c : List ℕ) → disk.left_since disk.moment c → disk.may_leave c

module _ (old mid : Work) (digests : Digests) (from : ℕ) (journal spool spool' : DiskState) (ready : IsReady old journal spool) (machine : mid.machine ≡ old.machine) (same : mid.journal ≡ old.journal)
    (begun : IsBegunFor (plan_in old) digests old.journal) (stored : EachImage (AreStored (plan_in old) from (list_in old)) spool) (journal-now : OnlyNow journal) (spool-now : OnlyNow spool) (seen : IfSome spool.seen spool.may_leave)
    (spool-now' : OnlyNow spool') (seen' : IfSome spool'.seen spool'.may_leave) where
  on : JournalIsOn mid.journal journal
  on = subst (λ (j : Journal). JournalIsOn j journal) (sym same) ready.tied.journal_on

  same-plan : plan_in mid ≡ plan_in old
  same-plan = ap (λ (m : Machine). plan_of m) machine

  same-readings : readings_in mid ≡ readings_in old
  same-readings = ap (λ (m : Machine). unwrap_or (readings_of m) []) machine

  still-begun : IsBegunFor (plan_in old) digests mid.journal
  still-begun = subst (λ (j : Journal). IsBegunFor (plan_in old) digests j) (sym same) begun

  -- the spool's part
  written : LeavesOnly (KeepsBelow (used_of old.spool) spool) spool spool' → FitThroughout (plan_in old) digests from (disks journal journal spool spool')
  written run = fit-text (plan_in old) (readings_in old) digests from old begun journal spool spool' ready.tied stored journal-now spool-now seen run

  -- no event was journaled
  pub turn-unstored : IsTied None mid any_disk spool' → StoresOn (plan_in old) (used_of old.spool) (list_in old) (list_in old) spool spool' → FitInTurn (plan_in old) digests from (disks journal journal spool spool')
  turn-unstored tied stores =
      let mid-tied = tied-by (plan_in old) (readings_in old) None mid any_disk journal spool' spool' same-plan same-readings on tied.spool_on tt tied in
      let mid-stored = subst (λ (j : Journal). EachImage (AreStored (plan_in old) from (list_of j)) spool') (sym same) (stores.stored from stored) in (
        written stores.left,
        fit-text (plan_in old) (readings_in old) digests from mid still-begun journal spool' spool' mid-tied mid-stored journal-now spool-now' seen' (leaves-none (KeepsBelow (used_of mid.spool) spool') spool'),
      )

  -- an event was journaled, or its append met a fault
  module _ (e : Event) (journal' : DiskState) (may : MayLog mid e) (tied : IsTied (Some e) mid any_disk spool') (stores : StoresOn (plan_in old) (used_of old.spool) (list_in old) (list_in old ++ e ∷ []) spool spool')
      (survives : SurvivesFor mid (list_in mid) (list_in mid ++ e ∷ []) journal journal') where
    mid-stored : EachImage (AreStored (plan_in old) from (list_in mid)) spool'
    mid-stored =
        subst (λ (j : Journal). EachImage (AreStored (plan_in old) from (list_of j)) spool') (sym same)
        (IfSome_then spool'.seen (stores.stored from stored) (λ bytes each image left i id o x at here. each image left i id o x at (get-more (list_in old) (e ∷ []) i (event.Ended id o (Some x)) here)))

    lawful : Lawful (plan_in old) (readings_in old) (list_in mid ++ e ∷ [])
    lawful = subst (λ (m : Machine). Lawful (plan_of m) (unwrap_or (readings_of m) []) (list_in mid ++ e ∷ [])) machine may.lawful

    left : LeavesOnly (Survives (plan_in old) digests (list_in mid) (list_in mid ++ e ∷ [])) journal journal'
    left =
        subst (λ (p : Plan). IsBegunFor p digests mid.journal → LeavesOnly (Survives p digests (list_in mid) (list_in mid ++ e ∷ [])) journal journal') same-plan
        (survives.images digests) still-begun

    pub turn-logged : FitInTurn (plan_in old) digests from (disks journal journal' spool spool')
    turn-logged =
        let mid-tied = tied-by (plan_in old) (readings_in old) (Some e) mid any_disk journal spool' spool' same-plan same-readings on tied.spool_on tied.pending_text tied in (
          written stores.left,
          fit-event (plan_in old) (readings_in old) digests from mid still-begun e journal journal' spool' mid-tied lawful mid-stored journal-now spool-now' left,
        )

-- nothing was written
pub turn-still : (work : Work) (digests : Digests) (from : ℕ) (journal spool : DiskState) → IsReady work journal spool → IsBegunFor (plan_in work) digests work.journal → EachImage (AreStored (plan_in work) from (list_in work)) spool
    → OnlyNow journal → OnlyNow spool → IfSome spool.seen spool.may_leave → FitInTurn (plan_in work) digests from (disks journal journal spool spool)
turn-still work digests from journal spool ready begun stored journal-now spool-now seen =
    let still = fit-text (plan_in work) (readings_in work) digests from work begun journal spool spool ready.tied stored journal-now spool-now seen (leaves-none (KeepsBelow (used_of work.spool) spool) spool) in
    (still, still)
