-- A crash at any moment of a step of a run.
use Rattle.std.proofs.Common.{◌≡◌, ◌∷◌, ◌++◌, [], ℕ, true, List, Option, None, Some, IfSome, IsTrue, is_some, refl, sym, subst}
use Rattle.conc_types.specs.declared.digests.Digests.{Digests}
use Rattle.conc_types.specs.declared.event.Event.{Event}
use Rattle.conc_types.specs.declared.plan.Plan.{Plan}
use Rattle.conc_types.specs.declared.script.Reading.{Reading}
use Rattle.conc_types.specs.Scripts.{are_in_order}
use Rattle.conc_disk.specs.Disk.{DiskState}
use Rattle.conc_disk.specs.Left.{EachImage, LeavesOnly}
use Rattle.conc_disk.proofs.Leaving.{left-is-kind, leaves-none}
use Rattle.std.proofs.lemmas.Option.{IfSome_then}
use Rattle.conc_journal.specs.Journals.{FitsState, stamps_held}
use Rattle.conc_journal.specs.Opens.{events_of}
use Rattle.conc_journal.specs.declared.journal.JournalState.{JournalState}
use Rattle.conc_journal.specs.declared.journal.JournalState.TheVariants.{Begun}
use Rattle.conc_run_state.specs.Disks.{Disks, disks}
use Rattle.conc_run_state.specs.Fits.{Fit, FitThroughout}
use Rattle.conc_run_state.specs.Handed.{Handed}
use Rattle.conc_run_state.specs.Inputs.{IsBegunFor}
use Rattle.conc_run_state.specs.Lists.{IsPrefix}
use Rattle.conc_run_state.specs.Survival.{Survives}
use Rattle.conc_run_state.specs.Works.{list_in}
use Rattle.conc_run_state.specs.declared.work.Work.{Work}
use Rattle.conc_run_state.proofs.Prefixes.{prefix-self}
use Rattle.conc_run_state.proofs.Surviving.{journal-survives}
use Rattle.conc_run_steps.proofs.Fitting.{fit-event, fit-text}
use Rattle.conc_run_laws.specs.Moments.{HasComeTo, HasCrashed, IsRunOver, WritesEvent, WritesText}
use Rattle.conc_run_laws.specs.Next.{IsFit, IsNextRun}
use Rattle.conc_run_laws.proofs.Crashed.{finds-events, finishes-interrupts, goes-right, OnlyNow, refuses-for_room}

-- what holds where something is there holds of it
exposed : {X P : Type 0} (o : Option X) → IsTrue (is_some o) → IfSome o (λ x. P) → P
exposed (Some x) is holds = holds
exposed None is holds = cc is

-- images that fit together, of which the journal's begins with the list
goes-on : (next : Handed) (list : List Event) (image texts : List ℕ) → Fit next.plan next.digests 0 image texts → IsPrefix list (events_of image) → are_in_order next.readings ≡ true → IsRunOver next image texts
    → IsNextRun next list image
goes-on next list image texts fit begins order over =
    let is_fit : IsFit next.plan next.digests image texts = record { own = fit.own; good = fit.good } in record {
      refuses = refuses-for_room next image texts is_fit over.journal over.spool;
      begins = begins;
      finds = finds-events next image texts is_fit over.journal over.spool;
      goes_on = goes-right next image texts is_fit over.journal over.spool order;
      finishes = finishes-interrupts next image texts is_fit over.journal over.spool;
    }

-- a pair of images of two disks that expose their bytes
fits : (plan : Plan) (digests : Digests) (d : Disks) (image texts : List ℕ) → HasCrashed d image texts → FitThroughout plan digests 0 d → Fit plan digests 0 image texts
fits plan digests d image texts crashed throughout =
    exposed d.spool_before.seen crashed.spool_exposes (exposed d.journal_before.seen crashed.journal_exposes throughout) image texts crashed.journal crashed.spool

-- each image that was left of a journal with a list, to which one event at most was added, begins with the list
begins-with : (plan : Plan) (digests : Digests) (work : Work) (last : List Event) (old new : DiskState) (image : List ℕ) → IsBegunFor plan digests work.journal → IsPrefix (list_in work) last
    → EachImage (FitsState work.journal.state (stamps_held work.journal) (list_in work)) old → OnlyNow old → LeavesOnly (Survives plan digests (list_in work) last) old new
    → IsTrue (is_some old.seen) → new.left_since old.moment image → IsPrefix (list_in work) (events_of image)
begins-with plan digests work last old new image begun within on now run exposes left =
    let label = begun.label in
    let here : EachImage (FitsState (Begun label) (stamps_held work.journal) (list_in work)) old =
    subst (λ (s : JournalState). EachImage (FitsState s (stamps_held work.journal) (list_in work)) old) begun.state on in
    let each : EachImage (Survives plan digests (list_in work) last) old = IfSome_then old.seen here (λ bytes all c may.
    journal-survives plan digests label (stamps_held work.journal) (list_in work) (list_in work) last c (prefix-self (list_in work)) within begun.of_input (all c may)) in
    (exposed old.seen exposes (left-is-kind (Survives plan digests (list_in work) last) old new now each run) image left).begins

module _ (plan : Plan) (readings : List Reading) (digests : Digests) (work : Work) where
  pub from-text : (journal old new : DiskState) (next : Handed) (image texts : List ℕ) → next.plan ≡ plan → next.digests ≡ digests → WritesText plan readings digests work journal old new
      → OnlyNow journal → OnlyNow old → IfSome old.seen old.may_leave → HasCrashed (disks journal journal old new) image texts → are_in_order next.readings ≡ true → IsRunOver next image texts
      → IsNextRun next (list_in work) image
  from-text journal old new next image texts same_plan same_digests step journal_now spool_now seen crashed order over =
      let before = step.before in
      let throughout = fit-text plan readings digests 0 work before.begun journal old new before.tied before.stored journal_now spool_now seen step.written in
      let fit = fits plan digests (disks journal journal old new) image texts crashed throughout in
      goes-on next (list_in work) image texts
      (subst (λ (p : Plan). Fit p next.digests 0 image texts) (sym same_plan) (subst (λ (x : Digests). Fit plan x 0 image texts) (sym same_digests) fit))
      (begins-with plan digests work (list_in work) journal journal image before.begun (prefix-self (list_in work)) before.tied.journal_on journal_now
      (leaves-none (Survives plan digests (list_in work) (list_in work)) journal) crashed.journal_exposes crashed.journal)
      order over

  pub from-event : (event : Event) (old new spool : DiskState) (next : Handed) (image texts : List ℕ) → next.plan ≡ plan → next.digests ≡ digests → WritesEvent plan readings digests work event old new spool
      → OnlyNow old → OnlyNow spool → HasCrashed (disks old new spool spool) image texts → are_in_order next.readings ≡ true → IsRunOver next image texts → IsNextRun next (list_in work) image
  from-event event old new spool next image texts same_plan same_digests step journal_now spool_now crashed order over =
      let before = step.before in
      let throughout = fit-event plan readings digests 0 work before.begun event old new spool before.tied step.lawful before.stored journal_now spool_now step.written in
      let fit = fits plan digests (disks old new spool spool) image texts crashed throughout in
      goes-on next (list_in work) image texts
      (subst (λ (p : Plan). Fit p next.digests 0 image texts) (sym same_plan) (subst (λ (x : Digests). Fit plan x 0 image texts) (sym same_digests) fit))
      (begins-with plan digests work (list_in work ++ event ∷ []) old new image before.begun (event ∷ [], refl) before.tied.journal_on journal_now step.written crashed.journal_exposes crashed.journal)
      order over
