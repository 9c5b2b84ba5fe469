-- What a crash leaves of a journal to which an event is added, and at which state it is then.
use Rattle.std.proofs.Common.{◌≡◌, ◌⊎◌, inl, inr, ⊎_elim, ℕ, Bool, true, false, IsFalse, IsTrue, List, [], ◌∷◌, ◌++◌, append-nil, refl, sym, ◌∙◌, ap, subst}
use Rattle.conc_types.specs.declared.digests.Digests.{Digests}
use Rattle.conc_types.specs.declared.event.Event.{Event}
use Rattle.conc_types.specs.declared.plan.Plan.{Plan}
use Rattle.conc_disk.specs.Disk.{DiskState}
use Rattle.conc_disk.specs.Left.{LeavesOnly}
use Rattle.conc_disk.proofs.Leaving.{if_some-any, leaves-wider}
use Rattle.conc_journal_image.specs.Fields.{command_stamp}
use Rattle.conc_journal_image.specs.Image.{IsJournal}
use Rattle.conc_journal_image.specs.declared.label.Label.{Label}
use Rattle.conc_journal.specs.Journals.{FitsState, list_of, stamps_held, state_of}
use Rattle.conc_journal.specs.JournalStates.{after_fault, has_faulted, state_label, takes_events}
use Rattle.conc_journal.specs.declared.journal.Journal.{Journal}
use Rattle.conc_journal.specs.declared.journal.JournalState.{JournalState}
use Rattle.conc_journal.specs.declared.journal.JournalState.TheVariants.{AppendFailed, Begun}
use Rattle.conc_run_state.specs.Inputs.{failed_stamps, IsBegunFor, IsHeldFor, IsOfInput, migrate_failed}
use Rattle.conc_run_state.specs.Lists.{failed_in}
use Rattle.conc_run_state.specs.Survival.{Survives}
use Rattle.conc_run_state.specs.Works.{list_in}
use Rattle.conc_run_state.specs.declared.work.Work.{Work}
use Rattle.conc_run_state.proofs.Prefixes.{prefix-self}
use Rattle.conc_run_state.proofs.Surviving.{held-begun, journal-survives}
use Rattle.conc_run_steps.specs.Steps.{plan_in, StaysBegun, StaysHeld, SurvivesFor}
use Rattle.conc_run_steps.proofs.Stamped.{HasStamp, of-input-more}

-- ---- images

module _ (plan : Plan) (digests : Digests) (label : Label) (list : List Event) (stamps : List ℕ) (e : Event) (s : ℕ) (without_it : IsOfInput plan digests label list stamps)
    (with_it : IsOfInput plan digests label (list ++ e ∷ []) (stamps ++ command_stamp e s)) where
  fits-survives : (image : List ℕ) → FitsState (AppendFailed label e s) stamps list image → Survives plan digests list (list ++ e ∷ []) image
  fits-survives image fits = ⊎_elim
      (λ (as_before : IsJournal label stamps list image). journal-survives plan digests label stamps list list (list ++ e ∷ []) image (prefix-self list) (e ∷ [], refl) without_it as_before)
      (λ (longer : IsJournal label (stamps ++ command_stamp e s) (list ++ e ∷ []) image).
      journal-survives plan digests label (stamps ++ command_stamp e s) list (list ++ e ∷ []) (list ++ e ∷ []) image (e ∷ [], refl) (prefix-self (list ++ e ∷ [])) with_it longer)
      fits

-- at each moment of an append
pub append-survives : (work : Work) (e : Event) (s : ℕ) (old new : DiskState) → HasStamp (plan_in work) e s → LeavesOnly (FitsState (after_fault e s (state_of work.journal)) (stamps_held work.journal) (list_in work)) old new
    → SurvivesFor work (list_in work) (list_in work ++ e ∷ []) old new
append-survives work e s old new is left = record {
  faults = left.faults;
  images = λ digests begun.
      let list = list_in work in
      let stamps = stamps_held work.journal in
      leaves-wider (FitsState (AppendFailed begun.label e s) stamps list) (Survives (plan_in work) digests list (list ++ e ∷ [])) old new
      (subst (λ (t : JournalState). LeavesOnly (FitsState (after_fault e s t) stamps list) old new) begun.state left)
      (if_some-any old.seen (λ bytes image fits.
      fits-survives (plan_in work) digests begun.label list stamps e s begun.of_input (of-input-more (plan_in work) digests begun.label list stamps e s is begun.of_input) image fits));
}

-- ---- states

-- a journal to which no append met a fault takes events where it is begun
pub sound-begun : (state : JournalState) → takes_events state ≡ true → has_faulted state ≡ false → (label : Label) × (state ≡ Begun label)
sound-begun (Begun label) takes sound = (label, refl)
sound-begun state takes sound = cc

pub sound-whole : (state : JournalState) → has_faulted state ≡ false → failed_in state ≡ []
sound-whole (AppendFailed label e s) sound = cc
sound-whole state sound = refl

-- after an append that met a fault
pub faulted-label : (e : Event) (s : ℕ) (state : JournalState) → state_label (after_fault e s state) ≡ state_label state
faulted-label e s (Begun label) = refl
faulted-label e s state = refl

pub faulted-longest : (e : Event) (s : ℕ) (state : JournalState) → takes_events state ≡ true → has_faulted state ≡ false → failed_in (after_fault e s state) ≡ e ∷ []
faulted-longest e s (Begun label) takes sound = refl
faulted-longest e s state takes sound = cc

-- a fault shows in the state
pub fault-shows : (e : Event) (s : ℕ) (state : JournalState) → takes_events state ≡ true → has_faulted state ≡ false → after_fault e s state ≡ state → ⊥
fault-shows e s (Begun label) takes sound is = cc is
fault-shows e s state takes sound is = cc

-- ---- the input of a journal

-- a journal that is begun for an input is held for it
pub begun-held : (plan : Plan) (digests : Digests) (journal : Journal) → IsBegunFor plan digests journal → IsHeldFor plan digests journal
begun-held plan digests journal begun = record {
  label = begun.label;
  labelled = ap state_label begun.state;
  not_migrating = ap migrate_failed begun.state;
  of_input = subst (λ (z : List Event × List ℕ). IsOfInput plan digests begun.label z.0 z.1)
      (λ i. (
        sym (ap (λ (t : JournalState). list_of journal ++ failed_in t) begun.state ∙ append-nil (list_of journal)) i,
        sym (ap (λ (t : JournalState). stamps_held journal ++ failed_stamps t) begun.state ∙ append-nil (stamps_held journal)) i,
      )) begun.of_input;
}

-- and one that is held for an input is begun for it, where no call met a fault
pub begun-again : (plan : Plan) (digests : Digests) (journal : Journal) (label : Label) → state_of journal ≡ Begun label → IsHeldFor plan digests journal → IsBegunFor plan digests journal
begun-again plan digests journal label state held = record { label = label; state = state; of_input = held-begun plan digests journal label held state }

pub sound-held : (plan : Plan) (digests : Digests) (journal : Journal) → takes_events (state_of journal) ≡ true → has_faulted (state_of journal) ≡ false → IsHeldFor plan digests journal → IsBegunFor plan digests journal
sound-held plan digests journal takes sound held = let is = sound-begun (state_of journal) takes sound in begun-again plan digests journal is.0 is.1 held

module _ (plan : Plan) (old new : Journal) (e : Event) (s : ℕ) (is : HasStamp plan e s) where
  -- after an append
  pub append-begun : list_of new ≡ list_of old ++ e ∷ [] → stamps_held new ≡ stamps_held old ++ command_stamp e s → state_of new ≡ state_of old → StaysBegun plan old new
  append-begun list stamps state = λ digests begun. record {
    label = begun.label;
    state = state ∙ begun.state;
    of_input = subst (λ (z : List Event × List ℕ). IsOfInput plan digests begun.label z.0 z.1) (λ i. (sym list i, sym stamps i)) (of-input-more plan digests begun.label (list_of old) (stamps_held old) e s is begun.of_input);
  }

  -- and after one that met a fault
  pub append-held : list_of new ≡ list_of old → stamps_held new ≡ stamps_held old → state_of new ≡ after_fault e s (state_of old) → StaysHeld plan old new
  append-held list stamps failed = λ digests begun.
      let state : state_of new ≡ AppendFailed begun.label e s = failed ∙ ap (λ (t : JournalState). after_fault e s t) begun.state in record {
        label = begun.label;
        labelled = ap state_label state;
        not_migrating = ap migrate_failed state;
        of_input = subst (λ (z : List Event × List ℕ). IsOfInput plan digests begun.label z.0 z.1)
            (λ i. (
              sym (ap (λ (t : JournalState). list_of new ++ failed_in t) state ∙ ap (λ (l : List Event). l ++ e ∷ []) list) i,
              sym (ap (λ (t : JournalState). stamps_held new ++ failed_stamps t) state ∙ ap (λ (l : List ℕ). l ++ command_stamp e s) stamps) i,
            ))
            (of-input-more plan digests begun.label (list_of old) (stamps_held old) e s is begun.of_input);
      }

-- a fault of an append to a journal that had met none
pub rose-sound : (X : Type 0) (faulted : Bool) → X ⊎ IsTrue faulted → IsFalse faulted → X
rose-sound X faulted (inl rose) sound = rose
rose-sound X faulted (inr is) sound = absurd (cc (is, sound))
