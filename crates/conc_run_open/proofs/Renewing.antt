-- A journal of version 1 that is brought to version 2.
use Rattle.std.proofs.Common.{Result, Ok, Err, OnOk, OnErr, ◌≡◌, inl, inr, ℕ, false, List, take, Some, refl, sym, ◌∙◌, ap, subst}
use Rattle.conc_types.specs.declared.digests.Digests.{Digests}
use Rattle.conc_types.specs.declared.event.Event.{Event}
use Rattle.conc_types.specs.declared.plan.Plan.{Plan}
use Rattle.conc_disk.specs.Disk.{DiskState}
use Rattle.conc_disk.specs.Left.{EachImage, LeavesOnly}
use Rattle.conc_journal_image.specs.Headers.{migrated}
use Rattle.conc_journal_image.specs.Image.{IsJournal}
use Rattle.conc_journal_image.specs.declared.label.Label.{Label}
use Rattle.conc_journal_image.specs.declared.label.Version.{Version}
use Rattle.conc_journal_image.specs.declared.label.Version.TheVariants.{One, Two}
use Rattle.conc_journal.specs.Journals.{FitsState, IsOn, list_of, stamps_held, state_of}
use Rattle.conc_journal.specs.JournalStates.{is_of_version_one, is_one, state_label}
use Rattle.conc_journal.specs.declared.journal.Journal.{Journal}
use Rattle.conc_journal.specs.declared.journal.JournalState.{JournalState}
use Rattle.conc_journal.specs.declared.journal.JournalState.TheVariants.{Begun, MigrateFailed}
use Rattle.conc_run_state.specs.Inputs.{AreStampsOf, IsBegunFor, IsOfInput, IsOfVersionTwo, NamesInput}
use Rattle.conc_run_state.specs.Survival.{Survives}
use Rattle.conc_run_state.proofs.Prefixes.{prefix-self}
use Rattle.conc_run_state.proofs.Surviving.{journal-survives}
use Rattle.conc_run_open.proofs.Surviving.{each-wider, left-wider}

-- its label has the digest of all files
pub one-named : (plan : Plan) (digests : Digests) (journal : Journal) (label : Label) → IsBegunFor plan digests journal → state_of journal ≡ Begun label → label.version ≡ One → label.digest ≡ digests.full
one-named plan digests journal label is state version =
    let same : is.label ≡ label = let both : Begun is.label ≡ Begun label = sym is.state ∙ state in cc in
    subst (λ (v : Version). NamesInput v plan digests label (list_of journal) (stamps_held journal)) version (subst (λ (l : Label). IsOfInput plan digests l (list_of journal) (stamps_held journal)) same is.of_input)

-- while it is brought there
pub migrating-survives : (plan : Plan) (digests : Digests) (label : Label) (due : List ℕ) (list : List Event) (image : List ℕ) → label.version ≡ One → label.digest ≡ digests.full → AreStampsOf plan list due
    → FitsState (MigrateFailed label (take 15 digests.base)) due list image → Survives plan digests list list image
migrating-survives plan digests label due list image version digest these (inl journal) =
    journal-survives plan digests label due list list list image (prefix-self list) (prefix-self list) (subst (λ (v : Version). NamesInput v plan digests label list due) (sym version) digest) journal
migrating-survives plan digests label due list image version digest these (inr journal) =
    journal-survives plan digests (migrated label (take 15 digests.base)) due list list list image (prefix-self list) (prefix-self list) (refl, these) journal

pub migrating-left : (plan : Plan) (digests : Digests) (label : Label) (due : List ℕ) (list : List Event) (old new : DiskState) → label.version ≡ One → label.digest ≡ digests.full → AreStampsOf plan list due
    → LeavesOnly (FitsState (MigrateFailed label (take 15 digests.base)) due list) old new → LeavesOnly (Survives plan digests list list) old new
migrating-left plan digests label due list old new version digest these left =
    left-wider (FitsState (MigrateFailed label (take 15 digests.base)) due list) (Survives plan digests list list) old new (λ c fits. migrating-survives plan digests label due list c version digest these fits) left

-- where it was
pub migrated-now : {E : Type 0} (r : Result (Unit {0}) E) (plan : Plan) (digests : Digests) (label : Label) (due : List ℕ) (list : List Event) (journal : Journal) (disk : DiskState) → label.version ≡ One → label.digest ≡ digests.full
    → AreStampsOf plan list due → OnOk r (state_of journal ≡ Begun (migrated label (take 15 digests.base))) → OnErr r (state_of journal ≡ MigrateFailed label (take 15 digests.base)) → list_of journal ≡ list → stamps_held journal ≡ due
    → IsOn journal disk → EachImage (Survives plan digests list list) disk
migrated-now r plan digests label due list journal disk version digest these begun failed list_is stamps_are on =
    each-wider (FitsState (state_of journal) due list) (Survives plan digests list list) disk (survives r begun failed)
    (subst (λ (l : List Event). EachImage (FitsState (state_of journal) due l) disk) list_is (subst (λ (s : List ℕ). EachImage (FitsState (state_of journal) s (list_of journal)) disk) stamps_are on))
  where
    survives : {E : Type 0} (r : Result (Unit {0}) E) → OnOk r (state_of journal ≡ Begun (migrated label (take 15 digests.base))) → OnErr r (state_of journal ≡ MigrateFailed label (take 15 digests.base)) → (c : List ℕ)
        → FitsState (state_of journal) due list c → Survives plan digests list list c
    survives (Ok x) is other c fits = migrating-survives plan digests label due list c version digest these (inr (subst (λ (s : JournalState). FitsState s due list c) is fits))
    survives (Err e) other is c fits = migrating-survives plan digests label due list c version digest these (subst (λ (s : JournalState). FitsState s due list c) is fits)

pub migrated-for : {E : Type 0} (r : Result (Unit {0}) E) (plan : Plan) (digests : Digests) (label : Label) (due : List ℕ) (list : List Event) (journal : Journal) → AreStampsOf plan list due
    → OnOk r (state_of journal ≡ Begun (migrated label (take 15 digests.base))) → list_of journal ≡ list → stamps_held journal ≡ due → OnOk r (IsBegunFor plan digests journal)
migrated-for (Ok x) plan digests label due list journal these begun list_is stamps_are = record {
  label = migrated label (take 15 digests.base);
  state = begun;
  of_input = (refl, subst (λ (l : List Event). AreStampsOf plan l (stamps_held journal)) (sym list_is) (subst (AreStampsOf plan list) (sym stamps_are) these));
}
migrated-for (Err e) plan digests label due list journal these begun list_is stamps_are = tt

-- of a journal that stays as it is
pub begun-now : (plan : Plan) (digests : Digests) (journal : Journal) (disk : DiskState) → IsBegunFor plan digests journal → IsOn journal disk → EachImage (Survives plan digests (list_of journal) (list_of journal)) disk
begun-now plan digests journal disk is on =
    let list = list_of journal in
    each-wider (IsJournal is.label (stamps_held journal) list) (Survives plan digests list list) disk
    (λ c journal'. journal-survives plan digests is.label (stamps_held journal) list list list c (prefix-self list) (prefix-self list) is.of_input journal')
    (subst (λ (s : JournalState). EachImage (FitsState s (stamps_held journal) list) disk) is.state on)

-- ---- the version

-- a journal that is begun with a label of version 2 is of version 2
pub version-two : (journal : Journal) (label : Label) → state_of journal ≡ Begun label → label.version ≡ Two → IsOfVersionTwo journal
version-two journal label state two = λ other labelled.
    let both : Some label ≡ Some other = sym (ap state_label state) ∙ labelled in
    let same : label ≡ other = cc in
    subst (λ (l : Label). l.version ≡ Two) same two

-- one that was brought there
pub migrated-two : {E : Type 0} (r : Result (Unit {0}) E) (label : Label) (base : List ℕ) (journal : Journal) → OnOk r (state_of journal ≡ Begun (migrated label base)) → OnOk r (IsOfVersionTwo journal)
migrated-two (Ok x) label base journal begun = version-two journal (migrated label base) begun refl
migrated-two (Err e) label base journal begun = tt

-- and one that needed none of that
pub begun-two : (plan : Plan) (digests : Digests) (journal : Journal) → IsBegunFor plan digests journal → is_of_version_one (state_of journal) ≡ false → IsOfVersionTwo journal
begun-two plan digests journal begun other = version-two journal begun.label begun.state (go begun.label.version (sym (ap is_of_version_one begun.state) ∙ other))
  where
    go : (v : Version) → is_one v ≡ false → v ≡ Two
    go One h = absurd (cc)
    go Two h = refl

-- it stays so at the same state
pub two-still : (one other : Journal) → state_of other ≡ state_of one → IsOfVersionTwo one → IsOfVersionTwo other
two-still one other same two = λ label labelled. two label (sym (ap state_label same) ∙ labelled)
