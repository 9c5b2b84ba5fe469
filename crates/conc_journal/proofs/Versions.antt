-- A journal of version 1 that has its stamps becomes one of version 2.
use Rattle.std.proofs.Common.{◌≡◌, inl, ℕ, ◌+◌, ◌*◌, ◌≤◌, List, [], ◌∷◌, length, get_or, take, drop, Option, Some, None, IfSome, is_some, refl, sym, ap, ◌∙◌, subst, arith}
use Rattle.std.specs.Prelude.{slice_index}
use Rattle.std.proofs.lemmas.List.{get_or-take, length-append, length-drop, length-take}
use Rattle.conc_types.specs.declared.event.Event.{Event}
use Rattle.conc_disk.specs.Disk.{DiskState, Follows, Reaches, Torn, written}
use Rattle.conc_disk.specs.Left.{EachImage, HasWritten, LeavesOnly, TornFrom}
use Rattle.conc_disk.proofs.Leaving.{leaves-twice}
use Rattle.conc_journal_image.specs.Headers.{migrated}
use Rattle.conc_journal_image.specs.Image.{base_in, HasStamps, IsJournal, stamps_from, stamps_in}
use Rattle.conc_journal_image.specs.declared.label.Label.{Label}
use Rattle.conc_journal_image.specs.declared.label.Version.TheVariants.{One}
use Rattle.conc_journal_image.proofs.Appends.{gate_at, length-journal}
use Rattle.conc_journal_image.proofs.Fronts.{behind-same}
use Rattle.conc_journal_image.proofs.Stamps.{stamps_in-is}
use Rattle.conc_journal_image.proofs.Turns.{basing-keeps, version-turned, version-turns}
use Rattle.conc_journal_image.proofs.Writes.{drop-written, part-written, take-written}
use Rattle.conc_journal.specs.Journals.{FitsState, IsOn}
use Rattle.conc_journal.specs.Left.{LeavesWritten}
use Rattle.conc_journal.specs.Migrating.{HaveStamps, IsOfOne, IsOfTwo, StaysOfOne}
use Rattle.conc_journal.specs.declared.journal.Journal.{Journal}
use Rattle.conc_journal.specs.declared.journal.JournalState.{JournalState}
use Rattle.conc_journal.specs.declared.journal.JournalState.TheVariants.{Begun, MigrateFailed}
use Rattle.conc_journal.proofs.Appended.{begun-images}
use Rattle.conc_journal.proofs.Stamping.{torn-long}
use Rattle.conc_journal.proofs.Steps.{each-more, each-torn, each-written, exposed-if, left-more, left-torn}

module _ (label : Label) (base stamps : List ℕ) (events : List Event) (one : label.version ≡ One) where
  Migrates : List ℕ → Type 0
  Migrates image = FitsState (MigrateFailed label base) stamps events image

  -- in version 1 the stamps do not count
  pub any-stamps : (image : List ℕ) (some : List ℕ) → IsJournal label some events image → IsJournal label stamps events image
  any-stamps image some j = record { header = j.header; labelled = j.labelled; found = j.found; stamped = subst (λ v. HasStamps v stamps image) (sym one) tt }

  pub still-one : (image : List ℕ) → IsOfOne label events image → FitsState (MigrateFailed label base) stamps events image
  still-one image j = inl (any-stamps image [] j)

  -- ---- one image

  -- while the base digest is written
  torn-base : (old new : List ℕ) → length base ≡ 15 → IsOfOne label events old → Torn 48 (length base) old new → IsOfOne label events new
  torn-base old new short j torn =
      let long : 64 + 32 * length events + 1 ≤ length old = length-journal label [] events old j in
      let far : 48 + length base ≡ 63 = omega arith in
      basing-keeps
      label [] old new events one j
      (torn-long 48 (length base) old new (omega arith) torn)
      torn.before
      (ap (λ i. drop i new) (sym far) ∙ torn.after ∙ ap (λ i. drop i old) far)

  -- it has the base digest and the stamps, and is of version 1 still
  record IsBased (image : List ℕ) : Type 0 where
    pub journal : IsJournal label stamps events image
    pub base_is : base_in image ≡ base
    pub stamps_are : stamps_in image ≡ stamps

  written-base : (old : List ℕ) → length base ≡ 15 → IsOfOne label events old → HaveStamps events stamps old → IsBased (written 48 base old)
  written-base old short j has =
      let long : 64 + 32 * length events + 1 ≤ length old = length-journal label [] events old j in
      let new : List ℕ = written 48 base old in
      let far : 48 + length base ≡ 63 = omega arith in
      let front : take 48 new ≡ take 48 old = take-written 48 base old (drop (48 + length base) old) (omega arith) in
      let back : drop 63 new ≡ drop 63 old =
      ap (λ i. drop i new) (sym far) ∙ drop-written 48 base old (drop (48 + length base) old) (omega arith) ∙ ap (λ i. drop i old) far in
      let same : length new ≡ length old = simp (length-append, length-take, length-drop) (omega arith) in
      let journal = basing-keeps label [] old new events one j same front back in
      record {
        journal = any-stamps new [] journal;
        base_is = ap (λ n. take n (drop 48 new)) (sym short) ∙ part-written 48 base old (drop (48 + length base) old) (omega arith);
        stamps_are =
            stamps_in-is new events (ap (λ f. f.events) journal.found)
            ∙ ap (λ xs. stamps_from events xs) (behind-same 63 64 new old (omega arith) back)
            ∙ has;
      }

  -- while the version is written
  torn-version : (old new : List ℕ) → IsBased old → Torn 63 1 old new → FitsState (MigrateFailed label base) stamps events new
  torn-version old new is torn =
      let long : 64 + 32 * length events + 1 ≤ length old = length-journal label stamps events old is.journal in
      version-turns
      label (migrated label base) stamps old new events one refl is.journal is.base_is is.stamps_are
      (torn-long 63 1 old new (omega arith) torn) torn.before torn.after

  written-version : (old new : List ℕ) → IsBased old → new ≡ written 63 (1 ∷ []) old → IsOfTwo label base stamps events new
  written-version old new is wrote =
      let long : 64 + 32 * length events + 1 ≤ length old = length-journal label stamps events old is.journal in
      let rest : List ℕ = drop 64 old in
      let there : slice_index (written 63 (1 ∷ []) old) 63 ≡ 1 =
      sym (gate_at 63 (written 63 (1 ∷ []) old))
      ∙ sym (get_or-take 1 (drop 63 (written 63 (1 ∷ []) old)) 0 0 (omega arith))
      ∙ ap (λ xs. get_or xs 0 0) (part-written 63 (1 ∷ []) old rest (omega arith)) in
      subst
      (λ c. IsOfTwo label base stamps events c)
      (sym wrote)
      (version-turned
      label (migrated label base) stamps old (written 63 (1 ∷ []) old) events refl is.journal is.base_is is.stamps_are
      (simp (length-append, length-take, length-drop) (omega arith))
      (take-written 63 (1 ∷ []) old rest (omega arith))
      (drop-written 63 (1 ∷ []) old rest (omega arith))
      (λ none. let no_gate : 1 ≡ 0 = sym there ∙ none in absurd (omega arith)))

  -- ---- the disk

  module _ (old mid : DiskState) (short : length base ≡ 15) (stays : StaysOfOne events old mid) (each : EachImage (IsOfOne label events) old) where
    mid-images : EachImage (IsOfOne label events) mid
    mid-images = stays.images label one each

    -- after a fault of the stamps
    pub unstamped-images : EachImage (FitsState (MigrateFailed label base) stamps events) mid
    unstamped-images = each-more (IsOfOne label events) (FitsState (MigrateFailed label base) stamps events) mid mid-images still-one

    pub unstamped-left : LeavesOnly (FitsState (MigrateFailed label base) stamps events) old mid
    unstamped-left = left-more (IsOfOne label events) (FitsState (MigrateFailed label base) stamps events) old mid (stays.survives label one each) still-one

    module _ (headed : DiskState) (exposes : is_some headed.seen ≡ is_some mid.seen) (follows : Follows (Torn 48 (length base)) mid headed)
        (left : LeavesOnly (TornFrom mid 48 (length base)) mid headed) where
      -- after the base digest, whether it met a fault or not
      pub based-images : EachImage (FitsState (MigrateFailed label base) stamps events) headed
      based-images =
          each-torn (IsOfOne label events) (FitsState (MigrateFailed label base) stamps events) 48 (length base) mid headed exposes mid-images follows (λ before image j torn.
          still-one image (torn-base before image short j torn))

      pub based-left : LeavesOnly (FitsState (MigrateFailed label base) stamps events) old headed
      based-left =
          leaves-twice (FitsState (MigrateFailed label base) stamps events) old mid headed unstamped-left
          (left-torn (IsOfOne label events) (FitsState (MigrateFailed label base) stamps events) 48 (length base) mid headed mid-images left (λ before image j torn.
          still-one image (torn-base before image short j torn)))

      module _ (is_left : IfSome mid.seen mid.may_leave) (has : IfSome mid.seen (HaveStamps events stamps)) (wrote : HasWritten 48 base mid headed) where
        all-based : EachImage IsBased headed
        all-based = exposed-if mid.seen headed.seen ((c : List ℕ) → headed.may_leave c → IsBased c) ((c : List ℕ) → headed.may_leave c → IsBased c) exposes (go mid.seen is_left mid-images has wrote) (λ all. all)
          where
            go : (seen : Option (List ℕ)) → IfSome seen mid.may_leave → IfSome seen (λ bytes. (image : List ℕ) → mid.may_leave image → IsOfOne label events image)
                → IfSome seen (HaveStamps events stamps)
                → IfSome seen (λ before. (headed.seen ≡ Some (written 48 base before)) × ((image : List ℕ) → headed.may_leave image → image ≡ written 48 base before))
                → IfSome seen (λ bytes. (c : List ℕ) → headed.may_leave c → IsBased c)
            go None is all has wrote = tt
            go (Some bytes) is all has wrote = λ c now. subst (λ xs. IsBased xs) (sym (wrote.1 c now)) (written-base bytes short (all bytes is) has)

        module _ (new : DiskState) (shows : is_some new.seen ≡ is_some headed.seen) (turns : Follows (Torn 63 1) headed new) (turned : LeavesOnly (TornFrom headed 63 1) headed new) where
          pub turned-images : EachImage (FitsState (MigrateFailed label base) stamps events) new
          turned-images = each-torn IsBased (FitsState (MigrateFailed label base) stamps events) 63 1 headed new shows all-based turns torn-version

          pub turned-left : LeavesOnly (FitsState (MigrateFailed label base) stamps events) old new
          turned-left =
              leaves-twice (FitsState (MigrateFailed label base) stamps events) old headed new based-left
              (left-torn IsBased (FitsState (MigrateFailed label base) stamps events) 63 1 headed new all-based turned torn-version)

          pub all-turned : LeavesWritten 63 (1 ∷ []) headed new → EachImage (IsOfTwo label base stamps events) new
          all-turned done = each-written IsBased (IsOfTwo label base stamps events) 63 (1 ∷ []) headed new shows all-based done written-version

-- a disk reaches as far as before where bytes within it were written
pub reaches-written : (at n : ℕ) (bytes : List ℕ) (old new : DiskState) → at + length bytes ≤ n → is_some new.seen ≡ is_some old.seen → Reaches old n → HasWritten at bytes old new → Reaches new n
reaches-written at n bytes old new within exposes reach wrote = go old.seen new.seen exposes reach wrote
  where
    go : (seen then : Option (List ℕ)) → is_some then ≡ is_some seen → IfSome seen (λ c. n ≤ length c)
        → IfSome seen (λ before. (then ≡ Some (written at bytes before)) × ((image : List ℕ) → new.may_leave image → image ≡ written at bytes before)) → IfSome then (λ c. n ≤ length c)
    go None None exposes reach wrote = tt
    go None (Some c) exposes reach wrote = absurd (cc)
    go (Some before) then exposes reach wrote =
        let long : n ≤ length (written at bytes before) = simp (length-append, length-take, length-drop) (omega arith) in
        subst (λ (s : Option (List ℕ)). IfSome s (λ c. n ≤ length c)) (sym wrote.0) long

pub reaches-less : (m n : ℕ) (disk : DiskState) → m ≤ n → Reaches disk n → Reaches disk m
reaches-less m n disk le reach = go disk.seen reach
  where
    go : (seen : Option (List ℕ)) → IfSome seen (λ c. n ≤ length c) → IfSome seen (λ c. m ≤ length c)
    go None reach = tt
    go (Some c) reach = omega arith

-- ---- of a journal

-- a state has one label
pub same-begun : (a b : Label) (state : JournalState) → state ≡ Begun a → state ≡ Begun b → a ≡ b
same-begun a b state is other = cc

-- the images of a journal that was begun in version 1
pub one-images : (journal : Journal) (label : Label) (disk : DiskState) → label.version ≡ One → journal.state ≡ Begun label → IsOn journal disk
    → EachImage (IsOfOne label journal.events.items) disk
one-images journal label disk one is on =
    each-more (IsJournal label journal.stamps.items journal.events.items) (IsOfOne label journal.events.items) disk (begun-images journal label disk is on) (λ image j.
    any-stamps label [] [] journal.events.items one image journal.stamps.items j)
