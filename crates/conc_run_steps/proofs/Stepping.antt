-- One step of a run: its text is stored, and then its event is logged.
use Rattle.std.proofs.Common.{◌≡◌, inl, inr, ◌+◌, true, false, length, List, [], ◌∷◌, ◌++◌, Option, None, Some, refl, sym, ◌∙◌, ap, subst}
use Rattle.std.specs.Prelude.{unwrap_or}
use Rattle.conc_types.specs.declared.digests.Digests.{Digests}
use Rattle.conc_types.specs.declared.event.Event.{Event}
use Rattle.conc_types.specs.declared.plan.Plan.{Plan}
use Rattle.conc_types.specs.declared.script.Reading.{Reading}
use Rattle.conc_base_law.specs.Kinds.{is_resume}
use Rattle.conc_base_law.specs.Law.{Lawful}
use Rattle.conc_disk.specs.Disk.{DiskState}
use Rattle.conc_disk.specs.Left.{LeavesOnly}
use Rattle.conc_journal.specs.Journals.{list_of, room_of, state_of}
use Rattle.conc_journal.specs.Journals.{IsOn as JournalIsOn}
use Rattle.conc_journal.specs.JournalStates.{after_fault, has_faulted, state_label, takes_events}
use Rattle.conc_journal.specs.declared.journal.Journal.{Journal}
use Rattle.conc_run_state.specs.Machines.{Machine, plan_of, readings_of}
use Rattle.conc_journal_spool.specs.Spools.{used_of}
use Rattle.conc_journal_spool.specs.Spools.{IsOn as SpoolIsOn}
use Rattle.conc_run_state.specs.Inputs.{IsBegunFor}
use Rattle.conc_run_state.specs.Lists.{failed_in}
use Rattle.conc_run_state.specs.Survival.{Survives}
use Rattle.conc_run_state.specs.Works.{AreTied, HasPendingText, HasRoom, list_in, longest_in}
use Rattle.conc_run_state.specs.declared.work.Work.{Work}
use Rattle.conc_run_state.specs.Disks.{disks}
use Rattle.conc_run_steps.specs.Going.{TellsReport, WentOn}
use Rattle.conc_run_state.specs.Adding.{AddsRecords, stamp_for}
use Rattle.conc_run_steps.specs.Steps.{any_disk, IsReady, IsTied, plan_in, readings_in, StaysBegun, StaysHeld, StoresOn, SurvivesFor}
use Rattle.conc_run_steps.proofs.Coming.{has-room}
use Rattle.conc_run_steps.proofs.Going.{sound-longest, went-none, went-one}
use Rattle.conc_run_steps.proofs.Logs.{begun-held, fault-shows, faulted-label, faulted-longest}

-- what is tied by its own plan and readings is tied by those that are the same
pub tied-by : (plan : Plan) (readings : List Reading) (pending : Option Event) (work : Work) (journal journal' spool spool' : DiskState) → plan_in work ≡ plan → readings_in work ≡ readings
    → JournalIsOn work.journal journal' → SpoolIsOn work.spool spool' → HasPendingText (plan_in work) (list_in work) spool' pending → IsTied pending work journal spool → AreTied plan readings pending work journal' spool'
tied-by plan readings pending work journal journal' spool spool' same known journal_on spool_on text tied = record {
  plan_is = same;
  readings_are = tied.readings_are ∙ ap (λ (l : List Reading). Some l) known;
  stands = tied.stands;
  lawful =
      subst (λ (p : Plan). Lawful p readings (list_in work)) same
      (subst (λ (l : List Reading). Lawful (plan_in work) l (list_in work)) known tied.lawful);
  takes = tied.takes;
  used_is = tied.used_is;
  pending_text = subst (λ (p : Plan). HasPendingText p (list_in work) spool' pending) same text;
  journal_on = journal_on;
  spool_on = spool_on;
}

module _ (old mid : Work) (journal spool spool' : DiskState) (ready : IsReady old journal spool) (machine : mid.machine ≡ old.machine) (same : mid.journal ≡ old.journal) where
  mid-on : JournalIsOn mid.journal journal
  mid-on = subst (λ (j : Journal). JournalIsOn j journal) (sym same) ready.tied.journal_on

  mid-plan : plan_in mid ≡ plan_in old
  mid-plan = ap (λ (m : Machine). plan_of m) machine

  mid-readings : readings_in mid ≡ readings_in old
  mid-readings = ap (λ (m : Machine). unwrap_or (readings_of m) []) machine

  -- the text met a fault
  pub went-unstored : IsTied None mid any_disk spool' → StoresOn (plan_in old) (used_of old.spool) (list_in old) (list_in old) spool spool'
      → WentOn (plan_in old) (readings_in old) (disks journal journal spool spool') old mid
  went-unstored tied stores =
      went-none (plan_in old) (readings_in old) old mid journal spool spool' ready.tied.lawful ready.sound same
      (tied-by (plan_in old) (readings_in old) None mid any_disk journal spool' spool' mid-plan mid-readings mid-on tied.spool_on tt tied) stores

  module _ (new : Work) (e : Event) (journal' : DiskState) (none : is_resume e ≡ false) (told : TellsReport (plan_in old) e) (lawful : Lawful (plan_in old) (readings_in old) (list_in old ++ e ∷ [])) (takes : takes_events (state_of mid.journal) ≡ true)
      (stores : StoresOn (plan_in old) (used_of old.spool) (list_in old) (list_in old ++ e ∷ []) spool spool')
      (survives : SurvivesFor mid (list_in mid) (list_in mid ++ e ∷ []) journal journal')
      (plan : plan_in new ≡ plan_in mid) (readings : readings_in new ≡ readings_in mid) where
    new-plan : plan_in new ≡ plan_in old
    new-plan = plan ∙ mid-plan

    new-readings : readings_in new ≡ readings_in old
    new-readings = readings ∙ mid-readings

    old-survives : SurvivesFor old (list_in old) (list_in old ++ e ∷ []) journal journal'
    old-survives = record {
      faults = survives.faults;
      images = subst (λ (z : Plan × Journal). (digests : Digests) → IsBegunFor z.0 digests z.1 → LeavesOnly (Survives z.0 digests (list_of z.1) (list_of z.1 ++ e ∷ [])) journal journal') (λ i. (mid-plan i, same i)) survives.images;
    }

    -- what is held of the journal is so by the plan of the first work
    old-held : StaysHeld (plan_in mid) mid.journal new.journal → StaysHeld (plan_in old) old.journal new.journal
    old-held = subst (λ (z : Plan × Journal). StaysHeld z.0 z.1 new.journal) (λ i. (mid-plan i, same i))

    mid-sound : has_faulted (state_of mid.journal) ≡ false
    mid-sound = ap (λ (j : Journal). has_faulted (state_of j)) same ∙ ready.sound

    -- the journal met a fault
    pub longest-unlogged : list_in new ≡ list_in mid → state_of new.journal ≡ after_fault e (stamp_for (plan_in mid) e) (state_of mid.journal) → longest_in new ≡ list_in old ++ e ∷ []
    longest-unlogged stays failed =
        ap (λ l. list_in new ++ l) (ap failed_in failed ∙ faulted-longest e (stamp_for (plan_in mid) e) (state_of mid.journal) takes mid-sound)
        ∙ ap (λ l. l ++ e ∷ []) (stays ∙ ap (λ j. list_of j) same)

    pub went-unlogged : (pending : Option Event) → IsTied pending new journal' spool' → list_in new ≡ list_in mid → state_of new.journal ≡ after_fault e (stamp_for (plan_in mid) e) (state_of mid.journal)
        → StaysHeld (plan_in mid) mid.journal new.journal → WentOn (plan_in old) (readings_in old) (disks journal journal' spool spool') old new
    went-unlogged pending tied stays failed held =
        let behind : failed_in (state_of new.journal) ≡ e ∷ [] = ap failed_in failed ∙ faulted-longest e (stamp_for (plan_in mid) e) (state_of mid.journal) takes mid-sound in
        let longest : longest_in new ≡ list_in new ++ e ∷ [] = ap (λ l. list_in new ++ l) behind in
        went-one (plan_in old) (readings_in old) old new e pending journal journal' spool spool' none
        (longest-unlogged stays failed) told refl
        (tied-by (plan_in old) (readings_in old) pending new journal' journal' spool' spool' new-plan new-readings tied.journal_on tied.spool_on tied.pending_text tied)
        lawful (inr (e, longest)) stores
        (ap state_label failed ∙ faulted-label e (stamp_for (plan_in mid) e) (state_of mid.journal) ∙ ap (λ j. state_label (state_of j)) same)
        (λ is. absurd (fault-shows e (stamp_for (plan_in mid) e) (state_of mid.journal) takes mid-sound (sym failed ∙ (is ∙ sym (ap (λ j. state_of j) same)))))
        (old-held held) old-survives

    module _ (tied : IsTied None new journal' spool') (added : list_in new ≡ list_in mid ++ e ∷ []) (state : state_of new.journal ≡ state_of mid.journal) where
      added-to : list_in new ≡ list_in old ++ e ∷ []
      added-to = added ∙ ap (λ j. list_of j ++ e ∷ []) same

      new-sound : has_faulted (state_of new.journal) ≡ false
      new-sound = ap has_faulted state ∙ mid-sound

      pub longest-logged : longest_in new ≡ list_in old ++ e ∷ []
      longest-logged = sound-longest new new-sound ∙ added-to

      pub went-logged : AddsRecords (plan_in mid) (length (list_in mid)) (e ∷ []) journal journal' → StaysBegun (plan_in mid) mid.journal new.journal → WentOn (plan_in old) (readings_in old) (disks journal journal' spool spool') old new
      went-logged wrote begun =
          went-one (plan_in old) (readings_in old) old new e None journal journal' spool spool' none
          longest-logged told refl
          (tied-by (plan_in old) (readings_in old) None new journal' journal' spool' spool' new-plan new-readings tied.journal_on tied.spool_on tt tied)
          lawful (inl (sound-longest new new-sound)) stores
          (ap state_label state ∙ ap (λ j. state_label (state_of j)) same)
          (λ is. subst (λ (z : Plan × Journal). AddsRecords z.0 (length (list_of z.1)) (e ∷ []) journal journal') (λ i. (mid-plan i, same i)) wrote)
          (old-held (λ digests is. begun-held (plan_in mid) digests new.journal (begun digests is))) old-survives

      pub ready-logged : room_of new.journal + 1 ≡ room_of mid.journal → IsReady new journal' spool'
      ready-logged room = record {
        tied = tied-by (plan_in new) (readings_in new) None new journal' journal' spool' spool' refl refl tied.journal_on tied.spool_on tt tied;
        room =
            subst (λ (p : Plan). HasRoom p (readings_in new) new) (sym new-plan)
            (subst (λ (l : List Reading). HasRoom (plan_in old) l new) (sym new-readings)
            (has-room (plan_in old) (readings_in old) old e ready.tied.readings_are none ready.room new added-to (room ∙ ap (λ j. room_of j) same)));
        sound = new-sound;
      }
