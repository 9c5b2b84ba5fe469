-- What is on a journal's disk while a life is begun there.
use Rattle.std.proofs.Common.{Result, Ok, Err, OnOk, OnErr, ◌≡◌, ◌==◌, inl, inr, ℕ, ◌<◌, true, false, List, [], ◌∷◌, ◌++◌, length, map, Some, refl, sym, ◌∙◌, ap, subst, arith, append-nil}
use Rattle.std.specs.Prelude.{cond, count_by}
use Rattle.std.specs.List.{filter_map}
use Rattle.std.proofs.lemmas.List.{length-map}
use Rattle.std.proofs.lemmas.List.Elements.{filter_map-append}
use Rattle.std.proofs.lemmas.List.Sums.{sum_by-cons}
use Rattle.conc_types.specs.Plans.{stamp}
use Rattle.conc_types.specs.declared.digests.Digests.{Digests}
use Rattle.conc_types.specs.declared.event.Event.{Event}
use Rattle.conc_types.specs.declared.event.Event.TheVariants as event
use Rattle.conc_types.specs.declared.plan.Plan.{Plan}
use Rattle.conc_disk.specs.Disk.{DiskState}
use Rattle.conc_disk.specs.Left.{EachImage, LeavesOnly}
use Rattle.conc_journal_image.specs.Fields.{has_stamp}
use Rattle.conc_journal_image.specs.Headers.{label_for}
use Rattle.conc_journal_image.specs.Image.{IsJournal}
use Rattle.conc_journal_image.specs.declared.label.Label.{Label}
use Rattle.conc_journal_image.specs.declared.label.Version.{Version}
use Rattle.conc_journal_image.specs.declared.label.Version.TheVariants.{One, Two}
use Rattle.conc_journal.specs.Journals.{FitsState, list_of, stamps_held, state_of}
use Rattle.conc_journal.specs.JournalStates.{after_fault, has_faulted, is_of_version_one, is_one, takes_events}
use Rattle.conc_journal.specs.declared.error.AppendFail.{AppendFail}
use Rattle.conc_journal.specs.declared.error.AppendFail.TheVariants as append_fail
use Rattle.conc_journal.specs.declared.journal.Journal.{Journal}
use Rattle.conc_journal.specs.declared.journal.JournalState.{JournalState}
use Rattle.conc_journal.specs.declared.journal.JournalState.TheVariants.{AppendFailed, Begun, BeginFailed, Broken, MigrateFailed, NotBegun}
use Rattle.conc_base_law.specs.Alone.{opening}
use Rattle.conc_run_state.specs.Inputs.{AreStampsOf, command_of, IsBegunFor, IsOfInput, NamesInput}
use Rattle.conc_run_state.specs.Survival.{Survives}
use Rattle.conc_run_state.proofs.Prefixes.{prefix-opening, prefix-self}
use Rattle.conc_run_state.proofs.Surviving.{journal-survives}
use Rattle.conc_run_open.specs.Examined.{MayStart}
use Rattle.conc_run_open.proofs.Surviving.{each-wider, left-wider, unbegun-survives}

-- ---- the state

pub is-begun : (plan : Plan) (digests : Digests) (journal : Journal) → MayStart plan digests journal → takes_events (state_of journal) ≡ true → IsBegunFor plan digests journal
is-begun plan digests journal (inl none) h = let no : false ≡ true = sym (ap takes_events none) ∙ h in absurd (cc)
is-begun plan digests journal (inr begun) h = begun

-- a journal that may be migrated has a label of version 1
pub is-one : (state : JournalState) → is_of_version_one state ≡ true → (label : Label) × (state ≡ Begun label) × (label.version ≡ One)
is-one (Begun label) h = (label, refl, go label.version h)
  where
    go : (v : Version) → is_one v ≡ true → v ≡ One
    go One h = refl
    go Two h = absurd (cc)
is-one NotBegun h = absurd (cc)
is-one (BeginFailed label) h = absurd (cc)
is-one (Broken label) h = absurd (cc)
is-one (AppendFailed label e stamp) h = absurd (cc)
is-one (MigrateFailed label base) h = absurd (cc)

-- ---- stamps

-- a resume is no command
resume-no-command : (list : List Event) → filter_map command_of (list ++ event.Resume ∷ []) ≡ filter_map command_of list
resume-no-command list = filter_map-append command_of list (event.Resume ∷ []) ∙ append-nil (filter_map command_of list)

opening-commands : (list : List Event) → filter_map command_of (opening list) ≡ filter_map command_of list
opening-commands [] = refl
opening-commands (e ∷ es) = resume-no-command (e ∷ es)

pub opening-of-input : (plan : Plan) (digests : Digests) (label : Label) (list : List Event) (stamps : List ℕ) → IsOfInput plan digests label list stamps → IsOfInput plan digests label (opening list) stamps
opening-of-input plan digests label list stamps is = go label.version is
  where
    go : (v : Version) → NamesInput v plan digests label list stamps → NamesInput v plan digests label (opening list) stamps
    go One names = names
    go Two (base, these) = (base, ap (map (stamp plan)) (opening-commands list) ∙ these)

-- there are as many stamps as commands
commands-counted : (list : List Event) → length (filter_map command_of list) ≡ count_by has_stamp list
commands-counted [] = refl
commands-counted (event.Command n ∷ es) = omega (arith, commands-counted es, sum_by-cons (λ (e : Event). cond (has_stamp e) 1 0) (event.Command n) es)
commands-counted (e ∷ es) = commands-counted es

-- ---- images

-- while the header is written
pub header-survives : (plan : Plan) (digests : Digests) (image : List ℕ) → FitsState (BeginFailed (label_for digests)) [] [] image → Survives plan digests [] [] image
header-survives plan digests image (inl none) = unbegun-survives plan digests image none
header-survives plan digests image (inr journal) = journal-survives plan digests (label_for digests) [] [] [] [] image (prefix-self []) (prefix-self []) (refl, refl) journal

-- of a journal with no event or with some
pub begun-survives : (plan : Plan) (digests : Digests) (label : Label) (stamps : List ℕ) (list : List Event) (image : List ℕ) → IsOfInput plan digests label list stamps → IsJournal label stamps list image
    → Survives plan digests list (opening list) image
begun-survives plan digests label stamps list image is journal = journal-survives plan digests label stamps list list (opening list) image (prefix-self list) (prefix-opening list) is journal

pub opened-survives : (plan : Plan) (digests : Digests) (label : Label) (stamps : List ℕ) (list : List Event) (image : List ℕ) → IsOfInput plan digests label list stamps → IsJournal label stamps (opening list) image
    → Survives plan digests list (opening list) image
opened-survives plan digests label stamps list image is journal =
    journal-survives plan digests label stamps list (opening list) (opening list) image (prefix-opening list) (prefix-self (opening list)) (opening-of-input plan digests label list stamps is) journal

-- while the resume is added
pub resume-survives : (plan : Plan) (digests : Digests) (label : Label) (stamps : List ℕ) (list : List Event) (image : List ℕ) → IsOfInput plan digests label list stamps → opening list ≡ list ++ event.Resume ∷ []
    → FitsState (AppendFailed label event.Resume 0) stamps list image → Survives plan digests list (opening list) image
resume-survives plan digests label stamps list image is more (inl journal) = begun-survives plan digests label stamps list image is journal
resume-survives plan digests label stamps list image is more (inr journal) =
    opened-survives plan digests label stamps list image is
    (subst (λ (s : List ℕ). IsJournal label s (opening list) image) (append-nil stamps) (subst (λ (l : List Event). IsJournal label (stamps ++ []) l image) (sym more) journal))

pub opening-more : (list : List Event) → 0 < length list → opening list ≡ list ++ event.Resume ∷ []
opening-more [] some = absurd (omega arith)
opening-more (e ∷ es) some = refl

-- ---- the header that is written

pub header-left : (plan : Plan) (digests : Digests) (list : List Event) (old new : DiskState) → list ≡ [] → LeavesOnly (FitsState (BeginFailed (label_for digests)) [] []) old new → LeavesOnly (Survives plan digests list (opening list)) old new
header-left plan digests list old new none left =
    subst (λ (l : List Event). LeavesOnly (Survives plan digests l (opening l)) old new) (sym none)
    (left-wider (FitsState (BeginFailed (label_for digests)) [] []) (Survives plan digests [] []) old new (λ c fits. header-survives plan digests c fits) left)

pub header-now : {E : Type 0} (r : Result (Unit {0}) E) (plan : Plan) (digests : Digests) (list list' : List Event) (stamps : List ℕ) (state : JournalState) (disk : DiskState) → OnOk r (state ≡ Begun (label_for digests))
    → OnErr r (state ≡ BeginFailed (label_for digests)) → list' ≡ list → list' ≡ [] → stamps ≡ [] → EachImage (FitsState state stamps list') disk → EachImage (Survives plan digests list (opening list)) disk
header-now r plan digests list list' stamps state disk begun failed same none no_stamps on =
    subst (λ (l : List Event). EachImage (Survives plan digests l (opening l)) disk) (sym none ∙ same)
    (each-wider (FitsState state [] []) (Survives plan digests [] []) disk (survives r begun failed)
    (subst (λ (s : List ℕ). EachImage (FitsState state s []) disk) no_stamps (subst (λ (l : List Event). EachImage (FitsState state stamps l) disk) none on)))
  where
    survives : {E : Type 0} (r : Result (Unit {0}) E) → OnOk r (state ≡ Begun (label_for digests)) → OnErr r (state ≡ BeginFailed (label_for digests)) → (c : List ℕ) → FitsState state [] [] c → Survives plan digests [] [] c
    survives (Ok x) is other c fits = begun-survives plan digests (label_for digests) [] [] c (refl, refl) (subst (λ (s : JournalState). FitsState s [] [] c) is fits)
    survives (Err e) other is c fits = header-survives plan digests c (subst (λ (s : JournalState). FitsState s [] [] c) is fits)

-- a journal that is begun with it
pub header-begun-for : (plan : Plan) (digests : Digests) (journal : Journal) → state_of journal ≡ Begun (label_for digests) → list_of journal ≡ [] → stamps_held journal ≡ [] → IsBegunFor plan digests journal
header-begun-for plan digests journal begun none no_stamps = record {
  label = label_for digests;
  state = begun;
  of_input = (refl, ap (λ (l : List Event). map (stamp plan) (filter_map command_of l)) none ∙ sym (ap (map Some) no_stamps));
}

-- ---- the resume that is added

-- while it is added
pub resume-left : (plan : Plan) (digests : Digests) (journal : Journal) (old new : DiskState) → IsBegunFor plan digests journal → 0 < length (list_of journal)
    → LeavesOnly (FitsState (after_fault event.Resume 0 (state_of journal)) (stamps_held journal) (list_of journal)) old new → LeavesOnly (Survives plan digests (list_of journal) (opening (list_of journal))) old new
resume-left plan digests journal old new begun some left =
    left-wider (FitsState (AppendFailed begun.label event.Resume 0) (stamps_held journal) (list_of journal)) (Survives plan digests (list_of journal) (opening (list_of journal))) old new
    (λ c fits. resume-survives plan digests begun.label (stamps_held journal) (list_of journal) c begun.of_input (opening-more (list_of journal) some) fits)
    (subst (λ (s : JournalState). LeavesOnly (FitsState (after_fault event.Resume 0 s) (stamps_held journal) (list_of journal)) old new) begun.state left)

-- where it is there
pub resume-there : (plan : Plan) (digests : Digests) (journal list' : Journal) (disk : DiskState) → IsBegunFor plan digests journal → 0 < length (list_of journal) → state_of list' ≡ state_of journal
    → list_of list' ≡ list_of journal ++ event.Resume ∷ [] → stamps_held list' ≡ stamps_held journal ++ [] → EachImage (FitsState (state_of list') (stamps_held list') (list_of list')) disk
    → EachImage (Survives plan digests (list_of journal) (opening (list_of journal))) disk
resume-there plan digests journal list' disk begun some state more stamps on =
    let list = list_of journal in
    let held = stamps_held journal in
    each-wider (IsJournal begun.label held (opening list)) (Survives plan digests list (opening list)) disk (λ c journal. opened-survives plan digests begun.label held list c begun.of_input journal)
    (subst (λ (l : List Event). EachImage (IsJournal begun.label held l) disk) (more ∙ sym (opening-more list some))
    (subst (λ (s : List ℕ). EachImage (IsJournal begun.label s (list_of list')) disk) (stamps ∙ append-nil held)
    (subst (λ (s : JournalState). EachImage (FitsState s (stamps_held list') (list_of list')) disk) (state ∙ begun.state) on)))

-- and the journal is the input's still
pub resume-begun-for : (plan : Plan) (digests : Digests) (journal list' : Journal) → IsBegunFor plan digests journal → 0 < length (list_of journal) → state_of list' ≡ state_of journal → list_of list' ≡ list_of journal ++ event.Resume ∷ []
    → stamps_held list' ≡ stamps_held journal ++ [] → IsBegunFor plan digests list'
resume-begun-for plan digests journal list' begun some state more stamps = record {
  label = begun.label;
  state = state ∙ begun.state;
  of_input =
      subst (λ (l : List Event). IsOfInput plan digests begun.label l (stamps_held list')) (opening-more (list_of journal) some ∙ sym more)
      (subst (λ (s : List ℕ). IsOfInput plan digests begun.label (opening (list_of journal)) s) (sym (append-nil (stamps_held journal)) ∙ sym stamps)
      (opening-of-input plan digests begun.label (list_of journal) (stamps_held journal) begun.of_input));
}

-- where it failed
pub resume-failed : (plan : Plan) (digests : Digests) (journal list' : Journal) (fail : AppendFail) (disk : DiskState) → IsBegunFor plan digests journal → 0 < length (list_of journal) → list_of list' ≡ list_of journal → stamps_held list' ≡ stamps_held journal
    → (fail ≡ append_fail.DiskFault → state_of list' ≡ after_fault event.Resume 0 (state_of journal)) → (fail ≡ append_fail.Failed → has_faulted (state_of journal) ≡ true)
    → EachImage (FitsState (state_of list') (stamps_held list') (list_of list')) disk → EachImage (Survives plan digests (list_of journal) (opening (list_of journal))) disk
resume-failed plan digests journal list' append_fail.DiskFault disk begun some list stamps faulted failed on =
    let is : state_of list' ≡ AppendFailed begun.label event.Resume 0 = faulted refl ∙ ap (after_fault event.Resume 0) begun.state in
    each-wider (FitsState (AppendFailed begun.label event.Resume 0) (stamps_held journal) (list_of journal)) (Survives plan digests (list_of journal) (opening (list_of journal))) disk
    (λ c fits. resume-survives plan digests begun.label (stamps_held journal) (list_of journal) c begun.of_input (opening-more (list_of journal) some) fits)
    (subst (λ (l : List Event). EachImage (FitsState (AppendFailed begun.label event.Resume 0) (stamps_held journal) l) disk) list
    (subst (λ (s : List ℕ). EachImage (FitsState (AppendFailed begun.label event.Resume 0) s (list_of list')) disk) stamps (subst (λ (s : JournalState). EachImage (FitsState s (stamps_held list') (list_of list')) disk) is on)))
resume-failed plan digests journal list' append_fail.Failed disk begun some list stamps faulted failed on =
    let no : false ≡ true = sym (ap has_faulted begun.state) ∙ failed refl in
    absurd (cc)

-- a list that is not empty has an element
pub not-empty : (list seen : List Event) → seen ≡ list → (length seen == 0) ≡ false → 0 < length list
not-empty [] seen is some = let none : (length seen == 0) ≡ true = ap (λ (l : List Event). length l == 0) is in absurd (cc)
not-empty (e ∷ es) seen is some = omega arith

-- there are as many stamps as commands in the list
pub stamps-counted : (plan : Plan) (list : List Event) (due : List ℕ) → AreStampsOf plan list due → length due ≡ count_by has_stamp list
stamps-counted plan list due these = sym (length-map due Some) ∙ sym (ap length these) ∙ length-map (filter_map command_of list) (stamp plan) ∙ commands-counted list
