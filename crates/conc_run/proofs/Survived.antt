-- What a crash may leave of a journal.
use Rattle.std.proofs.Common.{◌≡◌, ◌⊎◌, inl, inr, ⊎_elim, ℕ, List, [], ◌∷◌, ◌++◌, Some, IsFalse, IsTrue, refl, sym, ◌∙◌, ap, subst}
use Rattle.std.proofs.lemmas.List.{append-nil}
use Rattle.conc_types.specs.declared.digests.Digests.{Digests}
use Rattle.conc_types.specs.declared.event.Event.{Event}
use Rattle.conc_types.specs.declared.plan.Plan.{Plan}
use Rattle.conc_disk.specs.Disk.{DiskState}
use Rattle.conc_disk.specs.Left.{LeavesOnly}
use Rattle.conc_disk.proofs.Leaving.{if_some-any, leaves-twice, leaves-wider}
use Rattle.conc_journal_image.specs.Fields.{command_stamp}
use Rattle.conc_journal_image.specs.Image.{IsJournal}
use Rattle.conc_journal_image.specs.declared.label.Label.{Label}
use Rattle.conc_journal.specs.Journals.{FitsState}
use Rattle.conc_journal.specs.JournalStates.{state_label, takes_events}
use Rattle.conc_journal.specs.declared.journal.JournalState.{JournalState}
use Rattle.conc_journal.specs.declared.journal.JournalState.TheVariants.{NotBegun, BeginFailed, Begun, Broken, AppendFailed, MigrateFailed}
use Rattle.conc_base_law.specs.Alone.{opening}
use Rattle.conc_run_state.specs.Inputs.{failed_stamps, IsOfInput, migrate_failed}
use Rattle.conc_run_state.specs.Lists.{failed_in, IsPrefix}
use Rattle.conc_run_state.specs.Survival.{Survives}
use Rattle.conc_run_state.proofs.Prefixes.{prefix-opening, prefix-self}
use Rattle.conc_run_state.proofs.Surviving.{journal-survives, of_input-less, survives-wider}

-- what fits the state of a journal, whose longest list is of this input, has its list, or the longest
module _ (plan : Plan) (digests : Digests) (list : List Event) (stamps image : List ℕ) where
  one-longer : (own label : Label) (e : Event) (stamp : ℕ) → Some own ≡ Some label → IsOfInput plan digests label (list ++ e ∷ []) (stamps ++ command_stamp e stamp)
      → IsJournal own stamps list image ⊎ IsJournal own (stamps ++ command_stamp e stamp) (list ++ e ∷ []) image → Survives plan digests list (list ++ e ∷ []) image
  one-longer own label e stamp is of_input fits =
      let same : own ≡ label = cc in
      let of_own = subst (λ (l : Label). IsOfInput plan digests l (list ++ e ∷ []) (stamps ++ command_stamp e stamp)) (sym same) of_input in
      ⊎_elim
      (λ (without : IsJournal own stamps list image). journal-survives plan digests own stamps list list (list ++ e ∷ []) image (prefix-self list) (e ∷ [], refl) (of_input-less plan digests own list e stamps stamp of_own) without)
      (λ (with_it : IsJournal own (stamps ++ command_stamp e stamp) (list ++ e ∷ []) image). journal-survives plan digests own (stamps ++ command_stamp e stamp) list (list ++ e ∷ []) (list ++ e ∷ []) image (e ∷ [], refl) (prefix-self (list ++ e ∷ [])) of_own with_it)
      fits

  pub fits-survives : (state : JournalState) (label : Label) → IsTrue (takes_events state) → IsFalse (migrate_failed state) → state_label state ≡ Some label
      → IsOfInput plan digests label (list ++ failed_in state) (stamps ++ failed_stamps state) → FitsState state stamps list image → Survives plan digests list (list ++ failed_in state) image
  fits-survives (Begun own) label takes not is of_input fits =
      let same : own ≡ label = cc in
      let of_label = subst (λ (l : List Event). IsOfInput plan digests label l stamps) (append-nil list) (subst (λ (s : List ℕ). IsOfInput plan digests label (list ++ []) s) (append-nil stamps) of_input) in
      journal-survives plan digests own stamps list list (list ++ []) image (prefix-self list) ([], refl) (subst (λ (l : Label). IsOfInput plan digests l list stamps) (sym same) of_label) fits
  fits-survives (AppendFailed own e stamp) label takes not is of_input fits = one-longer own label e stamp is of_input fits
  fits-survives NotBegun label takes not is of_input fits = cc
  fits-survives (BeginFailed own) label takes not is of_input fits = cc
  fits-survives (Broken own) label takes not is of_input fits = cc
  fits-survives (MigrateFailed own base) label takes not is of_input fits = cc

-- at a state that is begun, the list is the longest
pub begun-longest : (state : JournalState) (label : Label) (list : List Event) → state ≡ Begun label → list ++ failed_in state ≡ list
begun-longest state label list is = ap (λ (s : JournalState). list ++ failed_in s) is ∙ append-nil list

-- ---- the journal's disk of a whole run

-- what it may have left before, or a journal with a list between these
abbrev pub Between : DiskState → Plan → Digests → List Event → List Event → List ℕ → Type 0
Between before plan digests first last image = before.may_leave image ⊎ Survives plan digests first last image

-- the beginning of a life, and then the run
pub journal-left : (plan : Plan) (digests : Digests) (found last : List Event) (before mid after : DiskState) → IsPrefix (opening found) last
    → LeavesOnly (Between before plan digests found (opening found)) before mid → LeavesOnly (Survives plan digests (opening found) last) mid after → LeavesOnly (Between before plan digests found last) before after
journal-left plan digests found last before mid after begins opened ran =
    let wide : (image : List ℕ) → Survives plan digests found (opening found) image → Survives plan digests found last image =
    λ image is. survives-wider plan digests found found (opening found) last image (prefix-self found) begins is in
    leaves-twice (Between before plan digests found last) before mid after
    (leaves-wider (Between before plan digests found (opening found)) (Between before plan digests found last) before mid opened
    (if_some-any before.seen (λ bytes image is. ⊎_elim inl (λ survives. inr (wide image survives)) is)))
    (leaves-wider (Survives plan digests (opening found) last) (Between before plan digests found last) mid after ran
    (if_some-any mid.seen (λ bytes image is. inr (survives-wider plan digests found (opening found) last last image (prefix-opening found) (prefix-self last) is))))
