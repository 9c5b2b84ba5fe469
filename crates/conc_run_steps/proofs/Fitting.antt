-- A journal and a spool fit together while one of them is written.
use Rattle.std.proofs.Common.{◌≡◌, ℕ, zero, suc, ◌≤◌, List, [], ◌∷◌, ◌++◌, length, reverse, Option, None, Some, refl, ◌∙◌, ap, subst, arith}
use Rattle.std.specs.Prelude.{IfSome, slice_get}
use Rattle.std.proofs.lemmas.Option.{IfSome_then}
use Rattle.conc_types.specs.declared.digests.Digests.{Digests}
use Rattle.conc_types.specs.declared.event.Event.{Event}
use Rattle.conc_types.specs.declared.event.Event.TheVariants as event
use Rattle.conc_types.specs.declared.plan.Plan.{Plan}
use Rattle.conc_types.specs.declared.script.Reading.{Reading}
use Rattle.conc_base_law.specs.Law.{Lawful, LawfulSoFar}
use Rattle.conc_base_law.specs.State.{used}
use Rattle.conc_base_law.proofs.Prefixes.{is_lawful_so_far-prefix}
use Rattle.conc_disk.specs.Disk.{DiskState}
use Rattle.conc_disk.specs.Left.{EachImage, LeavesOnly}
use Rattle.conc_disk.proofs.Leaving.{if_some-both, left-is-kind}
use Rattle.conc_journal_image.specs.declared.label.Label.{Label}
use Rattle.conc_journal.specs.Journals.{FitsState, stamps_held, state_of}
use Rattle.conc_journal.specs.Opens.{events_of}
use Rattle.conc_journal.specs.declared.journal.JournalState.{JournalState}
use Rattle.conc_journal.specs.declared.journal.JournalState.TheVariants.{Begun}
use Rattle.conc_journal_spool.specs.Spools.{Agrees, KeepsBelow, used_of}
use Rattle.conc_run_state.specs.Disks.{disks}
use Rattle.conc_run_state.specs.Fits.{Fit, FitThroughout}
use Rattle.conc_run_state.specs.Inputs.{IsBegunFor}
use Rattle.conc_run_state.specs.Lists.{IsPrefix}
use Rattle.conc_run_state.specs.Stored.{AreStored}
use Rattle.conc_run_state.specs.Survival.{Survives}
use Rattle.conc_run_state.specs.Works.{AreTied, list_in}
use Rattle.conc_run_state.specs.declared.work.Work.{Work}
use Rattle.conc_run_state.proofs.Prefixes.{prefix-self}
use Rattle.conc_run_state.proofs.Surviving.{journal-survives}
use Rattle.conc_run_steps.proofs.Coming.{lawful-past}
use Rattle.conc_run_steps.proofs.Extents.{used-more, within-used}
use Rattle.conc_run_steps.proofs.Texts.{pending-stored, stored-alike, stored-more}

-- ---- one image of each

pub get-more : (list added : List Event) (i : ℕ) (e : Event) → slice_get list i ≡ Some e → slice_get (list ++ added) i ≡ Some e
get-more [] added i e is = cc is
get-more (first ∷ list) added zero e is = is
get-more (first ∷ list) added (suc i) e is = get-more list added i e is

-- a list that is a beginning of one whose texts are all there
fit : (plan : Plan) (digests : Digests) (from : ℕ) (first last : List Event) (journal spool : List ℕ) → LawfulSoFar plan last → Survives plan digests first last journal
    → used (reverse last) ≤ length spool → AreStored plan from last spool → Fit plan digests from journal spool
fit plan digests from first last journal spool past is long stored =
    let events = events_of journal in
    let so_far = is_lawful_so_far-prefix plan events is.within.0 (subst (LawfulSoFar plan) is.within.1 past) in
    let shorter : used (reverse events) ≤ length spool = omega (arith, used-more events is.within.0, ap (λ (l : List Event). used (reverse l)) is.within.1, long) in
    record {
      own = record { opens = is.opens; own = is.own };
      good = record { whole = is.whole; so_far = so_far; within = λ i id o x here. omega (arith, within-used plan events i id o x so_far here, shorter) };
      stored = λ i id o x at here.
          stored i id o x at (ap (λ (l : List Event). slice_get l i) is.within.1 ∙ get-more events is.within.0 i (event.Ended id o (Some x)) here);
    }

-- ---- what a crash at some moment left

-- a journal that is begun and has this list, which only an event more may have followed
journal-left : (plan : Plan) (digests : Digests) (label : Label) (stamps : List ℕ) (list last : List Event) (old new : DiskState) → EachImage (FitsState (Begun label) stamps list) old
    → ((c : List ℕ) → old.left_since old.moment c → old.may_leave c) → ((image : List ℕ) → FitsState (Begun label) stamps list image → Survives plan digests list last image) → LeavesOnly (Survives plan digests list last) old new
    → IfSome old.seen (λ bytes. (c : List ℕ) → new.left_since old.moment c → Survives plan digests list last c)
journal-left plan digests label stamps list last old new on now wide run =
    left-is-kind (Survives plan digests list last) old new now (IfSome_then old.seen on (λ bytes each image left. wide image (each image left))) run

-- a spool whose first bytes stayed
bytes-left : (n : ℕ) (old new : DiskState) → IfSome old.seen (λ bytes. (image : List ℕ) → old.may_leave image → Agrees n bytes image) → ((c : List ℕ) → old.left_since old.moment c → old.may_leave c)
    → LeavesOnly (KeepsBelow n old) old new → IfSome old.seen (λ bytes. (c : List ℕ) → new.left_since old.moment c → Agrees n bytes c)
bytes-left n old new on now run =
    within old.seen (left-is-kind (KeepsBelow n old) old new now (each old.seen on) run)
  where
    each : (seen : Option (List ℕ)) → IfSome seen (λ bytes. (image : List ℕ) → old.may_leave image → Agrees n bytes image)
        → IfSome seen (λ bytes. (image : List ℕ) → old.may_leave image → IfSome seen (λ b. Agrees n b image))
    each None on = tt
    each (Some bytes) on = on

    within : (seen : Option (List ℕ)) → IfSome seen (λ bytes. (c : List ℕ) → new.left_since old.moment c → IfSome seen (λ b. Agrees n b c))
        → IfSome seen (λ bytes. (c : List ℕ) → new.left_since old.moment c → Agrees n bytes c)
    within None left = tt
    within (Some bytes) left = left

-- ---- the steps

-- a spool's image with all bytes of the texts of these events' ends, which it holds from a position on
abbrev HasAll : Plan → ℕ → List Event → List ℕ → Type 0
HasAll plan from list image = (used (reverse list) ≤ length image) × AreStored plan from list image

module _ (plan : Plan) (readings : List Reading) (digests : Digests) (from : ℕ) (work : Work) (begun : IsBegunFor plan digests work.journal) where
  on-begun : (journal : DiskState) → EachImage (FitsState (state_of work.journal) (stamps_held work.journal) (list_in work)) journal → EachImage (FitsState (Begun begun.label) (stamps_held work.journal) (list_in work)) journal
  on-begun journal on = subst (λ (s : JournalState). EachImage (FitsState s (stamps_held work.journal) (list_in work)) journal) begun.state on

  -- an image of its disk has its list, and is of the input
  image-survives : (last : List Event) → IsPrefix (list_in work) last → (image : List ℕ) → FitsState (Begun begun.label) (stamps_held work.journal) (list_in work) image → Survives plan digests (list_in work) last image
  image-survives last within image fits =
      journal-survives plan digests begun.label (stamps_held work.journal) (list_in work) (list_in work) last image (prefix-self (list_in work)) within begun.of_input fits

  -- the spool's disk is written behind the texts
  pub fit-text : (journal spool spool' : DiskState) → AreTied plan readings None work journal spool → EachImage (AreStored plan from (list_in work)) spool
      → ((c : List ℕ) → journal.left_since journal.moment c → journal.may_leave c) → ((c : List ℕ) → spool.left_since spool.moment c → spool.may_leave c) → IfSome spool.seen spool.may_leave
      → LeavesOnly (KeepsBelow (used_of work.spool) spool) spool spool' → FitThroughout plan digests from (disks journal journal spool spool')
  fit-text journal spool spool' tied stored journal-now spool-now seen run =
      let past = lawful-past plan work.machine readings (list_in work) tied.readings_are tied.lawful in
      let n = used_of work.spool in
      let same : n ≡ used (reverse (list_in work)) = tied.used_is in
      let texts : IfSome spool.seen (λ bytes. AreStored plan from (list_in work) bytes) = if_some-both spool.seen stored seen (λ bytes each left. each bytes left) in
      let agrees = bytes-left n spool spool' tied.spool_on spool-now run in
      let spools : IfSome spool.seen (λ bytes. (c : List ℕ) → spool'.left_since spool.moment c → HasAll plan from (list_in work) c) =
      if_some-both spool.seen texts agrees (λ bytes held each c left.
      (omega (arith, same, (each c left).no_shorter), stored-alike plan n from (list_in work) bytes c past (omega (arith, same)) (each c left) held)) in
      IfSome_then journal.seen (on-begun journal tied.journal_on) (λ bytes each.
      IfSome_then spool.seen spools (λ texts of_spool j s left left'.
      let survives = image-survives (list_in work) (prefix-self (list_in work)) j (each j (journal-now j left)) in
      let held = of_spool s left' in
      fit plan digests from (list_in work) (list_in work) j s past survives held.0 held.1))

  -- the event is added to the journal
  pub fit-event : (e : Event) (journal journal' spool : DiskState) → AreTied plan readings (Some e) work journal spool → Lawful plan readings (list_in work ++ e ∷ []) → EachImage (AreStored plan from (list_in work)) spool
      → ((c : List ℕ) → journal.left_since journal.moment c → journal.may_leave c) → ((c : List ℕ) → spool.left_since spool.moment c → spool.may_leave c)
      → LeavesOnly (Survives plan digests (list_in work) (list_in work ++ e ∷ [])) journal journal' → FitThroughout plan digests from (disks journal journal' spool spool)
  fit-event e journal journal' spool tied lawful stored journal-now spool-now run =
      let longer : List Event = list_in work ++ e ∷ [] in
      let past = lawful-past plan work.machine readings longer tied.readings_are lawful in
      let same : used_of work.spool ≡ used (reverse longer) = tied.used_is in
      let journals = journal-left plan digests begun.label (stamps_held work.journal) (list_in work) longer journal journal' (on-begun journal tied.journal_on) journal-now
      (image-survives longer (e ∷ [], refl)) run in
      let all : IfSome spool.seen (λ bytes. (c : List ℕ) → spool.may_leave c → AreStored plan from longer c) =
      if_some-both spool.seen stored (pending-stored plan (list_in work) e spool tied.pending_text) (λ bytes each pending c left. stored-more plan from (list_in work) e c (each c left) (pending c left)) in
      let spools : IfSome spool.seen (λ bytes. (c : List ℕ) → spool.may_leave c → HasAll plan from longer c) =
      if_some-both spool.seen all tied.spool_on (λ bytes held agrees c left. (omega (arith, same, (agrees c left).no_shorter), held c left)) in
      IfSome_then journal.seen journals (λ bytes of_journal.
      IfSome_then spool.seen spools (λ texts of_spool j s left left'.
      let held = of_spool s (spool-now s left') in
      fit plan digests from (list_in work) longer j s past (of_journal j left) held.0 held.1))
