-- What a run makes of its work, event by event.
use Rattle.std.proofs.Common.{◌≡◌, ◌⊎◌, inl, inr, ℕ, zero, suc, ◌+◌, ◌<◌, ◌≤◌, Bool, false, ◌||◌, List, [], ◌∷◌, ◌++◌, length, reverse, Option, None, Some, refl, sym, ◌∙◌, ap, subst, le_refl, arith, append_assoc, append-nil, length-append}
use Rattle.std.specs.Prelude.{IfSome, IsSomeAnd, MatchOption, slice_get}
use Rattle.std.proofs.lemmas.Bool.{cases_lt}
use Rattle.std.proofs.lemmas.List.Folds.{list_any-append}
use Rattle.std.proofs.lemmas.Option.{same_Some, slice_get_within}
use Rattle.conc_types.specs.declared.digests.Digests.{Digests}
use Rattle.conc_types.specs.declared.event.Event.{Event}
use Rattle.conc_types.specs.declared.event.Event.TheVariants as event
use Rattle.conc_types.specs.declared.event.Extent.{Extent}
use Rattle.conc_types.specs.declared.event.Outcome.{Outcome}
use Rattle.conc_types.specs.declared.event.RequestId.{RequestId}
use Rattle.conc_types.specs.declared.plan.Plan.{Plan}
use Rattle.conc_types.specs.declared.script.Reading.{Reading}
use Rattle.conc_base_law.specs.Ends.{IsReported}
use Rattle.conc_base_law.specs.Kinds.{is_resume}
use Rattle.conc_base_law.specs.Law.{Lawful}
use Rattle.conc_base_law.specs.State.{used}
use Rattle.conc_disk.specs.Disk.{DiskState, SeenFollows}
use Rattle.conc_disk.specs.Left.{EachImage, LeavesOnly}
use Rattle.conc_disk.proofs.Leaving.{if_some-any, leaves-none, leaves-twice, leaves-wider}
use Rattle.conc_journal.specs.Journals.{list_of, state_of}
use Rattle.conc_journal.specs.JournalStates.{has_faulted, state_label}
use Rattle.conc_journal.specs.declared.journal.Journal.{Journal}
use Rattle.conc_journal_spool.specs.Spools.{Agrees, KeepsBelow, used_of}
use Rattle.conc_run_state.specs.Inputs.{IsBegunFor, IsHeldFor}
use Rattle.conc_run_state.specs.Lists.{GoesOn, IsPrefix, longest_of}
use Rattle.conc_run_state.specs.Survival.{Survives}
use Rattle.conc_run_state.specs.Stored.{AreStored}
use Rattle.conc_run_state.specs.Works.{AreReady, AreTied, list_in, longest_in}
use Rattle.conc_run_state.specs.declared.work.Work.{Work}
use Rattle.conc_run_state.specs.Disks.{disks}
use Rattle.conc_run_state.specs.Adding.{AddsRecords}
use Rattle.conc_run_state.proofs.Adding.{adds-none, adds-twice}
use Rattle.conc_run_steps.specs.Going.{TellsReport, WentOn}
use Rattle.conc_run_steps.specs.Steps.{plan_in, StaysHeld, StoresOn, SurvivesFor}
use Rattle.conc_run_steps.proofs.Extents.{used-more}
use Rattle.conc_run_state.proofs.Prefixes.{prefix-self}
use Rattle.conc_run_state.proofs.Surviving.{survives-wider}
use Rattle.conc_run_steps.proofs.Logs.{begun-held, sound-held, sound-whole}
use Rattle.conc_run_steps.proofs.Texts.{agrees-on}

-- where no append met a fault, the disk has at most the list
pub sound-longest : (work : Work) → has_faulted (state_of work.journal) ≡ false → longest_in work ≡ list_in work
sound-longest work sound = ap (λ l. list_in work ++ l) (sound-whole (state_of work.journal) sound) ∙ append-nil (list_in work)

-- ---- where an event of a list stands

-- behind the last event there is none
behind-end : (first list : List Event) → list ≡ first → (i : ℕ) (e : Event) → length first ≤ i → slice_get list i ≡ Some e → ⊥
behind-end first list same i e from there = let within = slice_get_within list i e there in omega (arith, from, within, ap length same)

pub get-front : (list added : List Event) (i : ℕ) → i < length list → slice_get (list ++ added) i ≡ slice_get list i
get-front [] added i below = absurd (omega arith)
get-front (e ∷ list) added zero below = refl
get-front (e ∷ list) added (suc i) below = get-front list added i (omega arith)

get-last : (list : List Event) (e d : Event) (i : ℕ) → length list ≤ i → slice_get (list ++ e ∷ []) i ≡ Some d → e ≡ d
get-last [] e d zero from there = same_Some e d there
get-last [] e d (suc i) from there = cc
get-last (f ∷ list) e d zero from there = absurd (omega arith)
get-last (f ∷ list) e d (suc i) from there = get-last list e d i (omega arith) there

last-there : (first list : List Event) (e : Event) → list ≡ first ++ e ∷ [] → (i : ℕ) (d : Event) → length first ≤ i → slice_get list i ≡ Some d → e ≡ d
last-there first list e same i d from there = get-last first e d i from (ap (λ l. slice_get l i) (sym same) ∙ there)

told-end : (plan : Plan) (id : RequestId) (o : Outcome) (x : Extent) {e : Event} → e ≡ event.Ended id o (Some x) → TellsReport plan e → IsReported plan id o x
told-end plan id o x is told = subst (TellsReport plan) is told

-- ---- no event

module _ (plan : Plan) (readings : List Reading) (old new : Work) (journal spool spool' : DiskState) (lawful : Lawful plan readings (list_in old)) (sound : has_faulted (state_of old.journal) ≡ false)
    (same : new.journal ≡ old.journal) where
  longest : longest_in new ≡ list_in old
  longest = ap (λ j. longest_of j) same ∙ sound-longest old sound

  pub went-none : AreTied plan readings None new journal spool' → StoresOn plan (used_of old.spool) (list_in old) (list_in old) spool spool' → WentOn plan readings (disks journal journal spool spool') old new
  went-none tied stores = record {
    pending = None;
    tied = tied;
    list = record {
      added = [];
      all = longest ∙ sym (append-nil (list_in old));
      lawful = subst (λ (l : List Event). Lawful plan readings l) (sym longest) lawful;
      no_resume = refl;
      reported = λ i id o x from there. absurd (behind-end (list_in old) (longest_in new) longest i (event.Ended id o (Some x)) from there);
    };
    last_is = inl (longest ∙ sym (ap (λ j. list_of j) same));
    stored = λ from. subst (λ (l : List Event). EachImage (AreStored plan from (list_in old)) spool → EachImage (AreStored plan from l) spool') (sym longest) (stores.stored from);
    label = ap (λ j. state_label (state_of j)) same;
    written = λ is. adds-none plan (length (list_in old)) journal;
    held = λ digests begun. subst (λ (j : Journal). IsHeldFor plan digests j) (sym same) (begun-held plan digests old.journal begun);
    journal = λ digests begun. leaves-none (Survives plan digests (list_in old) (longest_in new)) journal;
    journal_faults = le_refl journal.faults;
    spool = stores.left;
    spool_now = stores.now;
  }

-- ---- one event

module _ (plan : Plan) (readings : List Reading) (old new : Work) (e : Event) (pending : Option Event) (journal journal' spool spool' : DiskState) (none : is_resume e ≡ false)
    (longest : longest_in new ≡ list_in old ++ e ∷ []) (told : TellsReport plan e) where
  pub went-one : plan_in old ≡ plan → AreTied plan readings pending new journal' spool' → Lawful plan readings (list_in old ++ e ∷ [])
      → (longest_in new ≡ list_in new) ⊎ ((e : Event) × (longest_in new ≡ list_in new ++ e ∷ []))
      → StoresOn plan (used_of old.spool) (list_in old) (list_in old ++ e ∷ []) spool spool'
      → state_label (state_of new.journal) ≡ state_label (state_of old.journal)
      → (state_of new.journal ≡ state_of old.journal → AddsRecords plan (length (list_in old)) (e ∷ []) journal journal')
      → StaysHeld plan old.journal new.journal
      → SurvivesFor old (list_in old) (list_in old ++ e ∷ []) journal journal'
      → WentOn plan readings (disks journal journal' spool spool') old new
  went-one own tied lawful last_is stores label wrote held left = record {
    pending = pending;
    tied = tied;
    list = record {
      added = e ∷ [];
      all = longest;
      lawful = subst (λ (l : List Event). Lawful plan readings l) (sym longest) lawful;
      no_resume = ap (λ b. b || false) none;
      reported = λ i id o x from there. told-end plan id o x (last-there (list_in old) (longest_in new) e longest i (event.Ended id o (Some x)) from there) told;
    };
    last_is = last_is;
    stored = λ from. subst (λ (l : List Event). EachImage (AreStored plan from (list_in old)) spool → EachImage (AreStored plan from l) spool') (sym longest) (stores.stored from);
    label = label;
    written = wrote;
    held = held;
    journal = λ digests begun.
        subst (λ (z : Plan × List Event). LeavesOnly (Survives z.0 digests (list_in old) z.1) journal journal') (λ i. (own i, sym longest i))
        (left.images digests (subst (λ (p : Plan). IsBegunFor p digests old.journal) (sym own) begun));
    journal_faults = left.faults;
    spool = stores.left;
    spool_now = stores.now;
  }

-- ---- what follows twice

pub goes-twice : (plan : Plan) (readings : List Reading) (a b c : List Event) → GoesOn plan readings a b → GoesOn plan readings b c → GoesOn plan readings a c
goes-twice plan readings a b c first second = record {
  added = first.added ++ second.added;
  all = second.all ∙ ap (λ l. l ++ second.added) first.all ∙ append_assoc a first.added second.added;
  lawful = second.lawful;
  no_resume = list_any-append is_resume first.added second.added ∙ either first.no_resume second.no_resume;
  reported = λ i id o x from there. elim (cases_lt i (length b)) [
    | inl lt ↦ first.reported i id o x from (sym (ap (λ l. slice_get l i) second.all ∙ get-front b second.added i lt) ∙ there)
    | inr ge ↦ second.reported i id o x ge there
  ];
}
  where
    either : {p q : Bool} → p ≡ false → q ≡ false → (p || q) ≡ false
    either p q = grind (arith, p, q)

-- the bytes below the first end stay
follows-twice : (m n : ℕ) (old mid new : DiskState) → m ≤ n → SeenFollows (Agrees m) old mid → SeenFollows (Agrees n) mid new → SeenFollows (Agrees m) old new
follows-twice m n old mid new le first second = go old.seen mid.seen new.seen first second where
  go : (o s t : Option (List ℕ)) → MatchOption o (s ≡ None) (λ a. IsSomeAnd s (λ b. Agrees m a b)) → MatchOption s (t ≡ None) (λ b. IsSomeAnd t (λ c. Agrees n b c)) → MatchOption o (t ≡ None) (λ a. IsSomeAnd t (λ c. Agrees m a c))
  go None None t first second = second
  go None (Some b) t first second = absurd (cc first)
  go (Some a) None t first second = absurd first
  go (Some a) (Some b) None first second = absurd second
  go (Some a) (Some b) (Some c) first second = agrees-on m n a b c le first second

keeps-below : (m n : ℕ) (old mid : DiskState) → m ≤ n → SeenFollows (Agrees m) old mid → IfSome mid.seen (λ bytes. (image : List ℕ) → KeepsBelow n mid image → KeepsBelow m old image)
keeps-below m n old mid le follows = go old.seen mid.seen follows where
  go : (o s : Option (List ℕ)) → MatchOption o (s ≡ None) (λ a. IsSomeAnd s (λ b. Agrees m a b)) → IfSome s (λ bytes. (image : List ℕ) → IfSome s (λ b. Agrees n b image) → IfSome o (λ a. Agrees m a image))
  go o None follows = tt
  go None (Some b) follows = λ image keeps. tt
  go (Some a) (Some b) follows = λ image keeps. agrees-on m n a b image le follows keeps

-- ---- a run that goes on from a sound work

module _ (plan : Plan) (readings : List Reading) (old mid new : Work) (journal journal' journal'' spool spool' spool'' : DiskState) (ready : AreReady plan readings mid journal' spool')
    (begins : used_of old.spool ≡ used (reverse (list_in old))) (mid_state : state_of mid.journal ≡ state_of old.journal) where
  whole : longest_in mid ≡ list_in mid
  whole = sound-longest mid ready.sound

  module _ (first : WentOn plan readings (disks journal journal' spool spool') old mid) (second : WentOn plan readings (disks journal' journal'' spool' spool'') mid new) where
    goes : GoesOn plan readings (list_in old) (list_in mid)
    goes = record {
      added = first.list.added;
      all = sym whole ∙ first.list.all;
      lawful = subst (λ (l : List Event). Lawful plan readings l) whole first.list.lawful;
      no_resume = first.list.no_resume;
      reported = λ i id o x from there. first.list.reported i id o x from (ap (λ l. slice_get l i) whole ∙ there);
    }

    -- the records of both parts
    both : state_of new.journal ≡ state_of old.journal → AddsRecords plan (length (list_in old)) (first.list.added ++ second.list.added) journal journal''
    both same =
        let behind : length (list_in mid) ≡ length (list_in old) + length first.list.added = ap length (sym whole ∙ first.list.all) ∙ length-append (list_in old) first.list.added in
        adds-twice plan (length (list_in old)) first.list.added second.list.added journal journal' journal'' (first.written mid_state)
        (subst (λ (n : ℕ). AddsRecords plan n second.list.added journal' journal'') behind (second.written (same ∙ sym mid_state)))

    -- so the texts of the first part are as many or fewer
    fewer : used_of old.spool ≤ used_of mid.spool
    fewer = omega (arith, begins, ready.tied.used_is, used-more (list_in old) goes.added, ap (λ l. used (reverse l)) goes.all)

    still-begun : (digests : Digests) → IsBegunFor plan digests old.journal → IsBegunFor plan digests mid.journal
    still-begun digests begun = sound-held plan digests mid.journal ready.tied.takes ready.sound (first.held digests begun)

    pub went-twice : WentOn plan readings (disks journal journal'' spool spool'') old new
    unfolding goes goes-twice
    went-twice = record {
      pending = second.pending;
      tied = second.tied;
      list = goes-twice plan readings (list_in old) (list_in mid) (longest_in new) goes second.list;
      last_is = second.last_is;
      stored = λ from stored. second.stored from (subst (λ (l : List Event). EachImage (AreStored plan from l) spool') whole (first.stored from stored));
      label = second.label ∙ first.label;
      written = both;
      held = λ digests begun. second.held digests (still-begun digests begun);
      journal = λ digests begun.
          let kind = Survives plan digests (list_in old) (longest_in new) in
          let before : IsPrefix (list_in old) (list_in mid) = (goes.added, goes.all) in
          let behind : IsPrefix (longest_in mid) (longest_in new) = (second.list.added, second.list.all ∙ ap (λ l. l ++ second.list.added) (sym whole)) in
          leaves-twice kind journal journal' journal''
          (leaves-wider (Survives plan digests (list_in old) (longest_in mid)) kind journal journal' (first.journal digests begun)
          (if_some-any journal.seen (λ bytes image. survives-wider plan digests (list_in old) (list_in old) (longest_in mid) (longest_in new) image (prefix-self (list_in old)) behind)))
          (leaves-wider (Survives plan digests (list_in mid) (longest_in new)) kind journal' journal'' (second.journal digests (still-begun digests begun))
          (if_some-any journal'.seen (λ bytes image. survives-wider plan digests (list_in old) (list_in mid) (longest_in new) (longest_in new) image before (prefix-self (longest_in new)))));
      journal_faults = omega (arith, first.journal_faults, second.journal_faults);
      spool =
          leaves-twice (KeepsBelow (used_of old.spool) spool) spool spool' spool'' first.spool
          (leaves-wider (KeepsBelow (used_of mid.spool) spool') (KeepsBelow (used_of old.spool) spool) spool' spool'' second.spool (keeps-below (used_of old.spool) (used_of mid.spool) spool spool' fewer first.spool_now));
      spool_now = follows-twice (used_of old.spool) (used_of mid.spool) spool spool' spool'' fewer first.spool_now second.spool_now;
    }
