-- What was acknowledged stays in the list and in each image.
use Rattle.std.proofs.Common.{◌≡◌, ⊎_elim, ℕ, zero, suc, ◌+◌, ◌<◌, Bool, if◌then◌else◌, List, [], ◌∷◌, ◌++◌, length, length-append, Option, None, Some, IfSome, IfOk, Result, Ok, Err, IsTrue, refl, sym, ap, subst, ◌∙◌, arith}
use Rattle.std.specs.List.{slice_get}
use Rattle.std.proofs.lemmas.Option.{get_or_from_slice_get, slice_get-get_or, slice_get_within}
use Rattle.std.proofs.lemmas.List.{get_or_append_left}
use Rattle.conc_types.specs.declared.event.Event.{Event}
use Rattle.conc_disk.specs.Disk.{DiskState, LeavesWhatWasSeen, Stays}
use Rattle.conc_disk.specs.Left.{EachImage, LeavesOnly}
use Rattle.conc_journal_image.proofs.Beginning.{header-begun}
use Rattle.conc_journal_image.specs.Image.{found_in, IsJournal, label_in}
use Rattle.conc_journal_image.specs.Fields.{command_stamp}
use Rattle.conc_journal_image.specs.Headers.{migrated}
use Rattle.conc_journal_image.specs.declared.label.Label.{Label}
use Rattle.conc_journal.specs.Acknowledged.{event_at, HasEventOf, IsAcknowledged, HasReceipt, StaysIn}
use Rattle.conc_journal.specs.Journals.{FitsState, IsOn, list_of, stamps_held, state_of}
use Rattle.conc_journal.specs.JournalStates.{after_fault, state_with, takes_events}
use Rattle.conc_journal.specs.Opens.{IsFoundIn}
use Rattle.conc_journal.specs.Receipts.{event_of, number_of}
use Rattle.conc_journal.specs.declared.journal.Journal.{Journal}
use Rattle.conc_journal.specs.declared.journal.JournalState.{JournalState}
use Rattle.conc_journal.specs.declared.journal.JournalState.TheVariants.{NotBegun, BeginFailed, Begun, Broken, AppendFailed, MigrateFailed}
use Rattle.conc_journal.specs.declared.error.JournalFail.{JournalFail}
use Rattle.conc_journal.specs.declared.opened.Opened.{Opened}
use Rattle.conc_journal.specs.declared.receipt.Receipt.{Receipt}
use Rattle.conc_journal.proofs.Steps.{each-more, left-more}

slice_get-front : (events more : List Event) (n : ℕ) (e : Event) → slice_get events n ≡ Some e → slice_get (events ++ more) n ≡ Some e
slice_get-front events more n e at =
    let within : n < length events = slice_get_within events n e at in
    slice_get-get_or (events ++ more) n e (omega (arith, length-append events more))
    ∙ ap (λ (x : Event). Some x) (get_or_append_left events more e n within ∙ get_or_from_slice_get events n e e at)

pub event_at-front : (events more : List Event) (n : ℕ) (e : Event) → event_at events n ≡ Some e → event_at (events ++ more) n ≡ Some e
event_at-front events more zero e at = absurd (cc at)
event_at-front events more (suc n) e at = slice_get-front events more n e at

slice_get-last : (events : List Event) (e : Event) → slice_get (events ++ e ∷ []) (length events) ≡ Some e
slice_get-last [] e = refl
slice_get-last (x ∷ events) e = slice_get-last events e

-- the event that was added has the number of the list's end
pub event_at-last : (events : List Event) (e : Event) (n : ℕ) → n ≡ length events + 1 → event_at (events ++ e ∷ []) n ≡ Some e
event_at-last events e zero is = absurd (omega (arith, is))
event_at-last events e (suc n) is = let same : n ≡ length events = omega (arith, is) in ap (λ (k : ℕ). slice_get (events ++ e ∷ []) k) same ∙ slice_get-last events e

module _ (receipt : Receipt) where
  journal-has : (label : Label) (stamps : List ℕ) (events : List Event) (image : List ℕ) → event_at events (number_of receipt) ≡ Some (event_of receipt) → IsJournal label stamps events image → HasEventOf receipt image
  journal-has label stamps events image at journal = record {
    header = journal.header;
    whole = ap (λ f. f.broken) journal.found;
    at_number = ap (λ f. event_at f.events (number_of receipt)) journal.found ∙ at;
  }

  -- each image of a journal that has it
  pub fits-has : (state : JournalState) (stamps : List ℕ) (events : List Event) (image : List ℕ) → IsTrue (takes_events state) → event_at events (number_of receipt) ≡ Some (event_of receipt)
      → FitsState state stamps events image → HasEventOf receipt image
  fits-has NotBegun stamps events image takes at fits = absurd (cc takes)
  fits-has (BeginFailed label) stamps events image takes at fits = absurd (cc takes)
  fits-has (Begun label) stamps events image takes at fits = journal-has label stamps events image at fits
  fits-has (Broken label) stamps events image takes at fits = absurd fits
  fits-has (AppendFailed label event stamp) stamps events image takes at fits =
      ⊎_elim (journal-has label stamps events image at)
      (journal-has label (stamps ++ command_stamp event stamp) (events ++ event ∷ []) image (event_at-front events (event ∷ []) (number_of receipt) (event_of receipt) at)) fits
  fits-has (MigrateFailed label base) stamps events image takes at fits =
      ⊎_elim (journal-has label stamps events image at) (journal-has (migrated label base) stamps events image at) fits

  after-takes : (event : Event) (stamp : ℕ) (state : JournalState) → IsTrue (takes_events state) → IsTrue (takes_events (after_fault event stamp state))
  after-takes event stamp NotBegun takes = takes
  after-takes event stamp (BeginFailed label) takes = takes
  after-takes event stamp (Begun label) takes = refl
  after-takes event stamp (Broken label) takes = takes
  after-takes event stamp (AppendFailed label other mark) takes = takes
  after-takes event stamp (MigrateFailed label base) takes = takes

  pub on-has : (journal : Journal) (disk : DiskState) → HasReceipt journal receipt → IsOn journal disk → IsAcknowledged receipt journal disk
  on-has journal disk keeps on = record {
    in_list = keeps;
    images = each-more (FitsState (state_of journal) (stamps_held journal) (list_of journal)) (HasEventOf receipt) disk on (λ c fits. fits-has (state_of journal) (stamps_held journal) (list_of journal) c keeps.takes keeps.at_number fits);
  }

  -- an append keeps it
  pub append-keeps : (event : Event) (stamp : ℕ) (was journal : Journal) (old new : DiskState) → HasReceipt was receipt → HasReceipt journal receipt → IsOn journal new
      → LeavesOnly (FitsState (after_fault event stamp (state_of was)) (stamps_held was) (list_of was)) old new → StaysIn receipt journal old new
  append-keeps event stamp was journal old new before keeps on left = record {
    now = on-has journal new keeps on;
    at_each_moment = left-more (FitsState (after_fault event stamp (state_of was)) (stamps_held was) (list_of was)) (HasEventOf receipt) old new left (λ c fits.
        fits-has (after_fault event stamp (state_of was)) (stamps_held was) (list_of was) c (after-takes event stamp (state_of was) before.takes) before.at_number fits);
  }

  -- and so does a migration
  pub migrate-keeps : (label : Label) (base stamps : List ℕ) (was journal : Journal) (old new : DiskState) → HasReceipt was receipt → HasReceipt journal receipt → IsOn journal new
      → LeavesOnly (FitsState (MigrateFailed label base) stamps (list_of was)) old new → StaysIn receipt journal old new
  migrate-keeps label base stamps was journal old new before keeps on left = record {
    now = on-has journal new keeps on;
    at_each_moment = left-more (FitsState (MigrateFailed label base) stamps (list_of was)) (HasEventOf receipt) old new left (λ c fits.
        fits-has (MigrateFailed label base) stamps (list_of was) c refl before.at_number fits);
  }

  -- ---- a journal that is opened

  opened-keeps : (image : List ℕ) (opened : Opened) → HasEventOf receipt image → IsFoundIn image opened → state_of opened.journal ≡ state_with opened.label opened.broken → HasReceipt opened.journal receipt
  opened-keeps image opened has found state =
      let begun = header-begun image has.header in
      let label : opened.label ≡ Some (label_in image) = found.label ∙ ap (λ (b : Bool). if b then None else Some (label_in image)) begun in
      let broken : opened.broken ≡ None = found.broken ∙ ap (λ (b : Bool). if b then None else (found_in image).broken) begun ∙ has.whole in
      let events : opened.journal.events.items ≡ (found_in image).events = found.events ∙ ap (λ (b : Bool). if b then [] else (found_in image).events) begun in
      let is : state_of opened.journal ≡ Begun (label_in image) = state ∙ ap (λ (l : Option Label). state_with l opened.broken) label ∙ ap (λ (b : Option ℕ). state_with (Some (label_in image)) b) broken in
      record {
        takes = ap takes_events is;
        at_number = ap (λ (l : List Event). event_at l (number_of receipt)) events ∙ has.at_number;
      }

  module _ (old new : DiskState) (is_left : IfSome old.seen old.may_leave) (each : EachImage (HasEventOf receipt) old) (settled : LeavesWhatWasSeen old new) (stays : Stays old new) where
    images-have : EachImage (HasEventOf receipt) new
    images-have = subst (λ (s : Option (List ℕ)). IfSome s (λ bytes. (c : List ℕ) → new.may_leave c → HasEventOf receipt c)) (sym stays.seen) (go old.seen each)
      where
        go : (seen : Option (List ℕ)) → IfSome seen (λ bytes. (c : List ℕ) → old.may_leave c → HasEventOf receipt c) → IfSome seen (λ bytes. (c : List ℕ) → new.may_leave c → HasEventOf receipt c)
        go None all = tt
        go (Some bytes) all = λ c left. all c (stays.images c left)

    -- it has what was acknowledged
    pub opened-has : (opened : Opened) → IfSome old.seen (λ image. IsFoundIn image opened) → state_of opened.journal ≡ state_with opened.label opened.broken
        → IfSome old.seen (λ image. IsAcknowledged receipt opened.journal new)
    opened-has opened found state = go old.seen is_left each found
      where
        go : (seen : Option (List ℕ)) → IfSome seen old.may_leave → IfSome seen (λ bytes. (c : List ℕ) → old.may_leave c → HasEventOf receipt c) → IfSome seen (λ image. IsFoundIn image opened)
            → IfSome seen (λ image. IsAcknowledged receipt opened.journal new)
        go None is all finds = tt
        go (Some bytes) is all finds = record { in_list = opened-keeps bytes opened (all bytes is) finds state; images = images-have }

    pub answer-has : (answer : Result Opened JournalFail) → IfOk answer (λ opened. IfSome old.seen (λ image. IsFoundIn image opened)) → IfOk answer (λ opened. state_of opened.journal ≡ state_with opened.label opened.broken)
        → IfOk answer (λ opened. IfSome old.seen (λ image. IsAcknowledged receipt opened.journal new))
    answer-has (Ok opened) found state = opened-has opened found state
    answer-has (Err fail) found state = tt
