-- The disk of a journal to which an event is added.
use Rattle.std.proofs.Common.{◌≡◌, ◌⊎◌, ℕ, ◌+◌, ◌*◌, ◌<◌, List, [], ◌∷◌, ◌++◌, length, is_some, IfSome, subst, arith}
use Rattle.conc_types.specs.declared.event.Event.{Event}
use Rattle.conc_disk.specs.Disk.{DiskState, Reaches, written}
use Rattle.conc_journal_image.specs.Fields.{command_stamp}
use Rattle.conc_journal_image.specs.Image.{IsJournal}
use Rattle.conc_journal_image.specs.declared.label.Label.{Label}
use Rattle.conc_journal.specs.Journals.{FitsState, IsOn}
use Rattle.conc_journal.specs.declared.journal.Journal.{Journal}
use Rattle.conc_journal.specs.declared.journal.JournalState.{JournalState}
use Rattle.conc_journal.specs.declared.journal.JournalState.TheVariants.{Begun}
use Rattle.conc_disk.specs.Left.{EachImage, LeavesOnly}
use Rattle.conc_journal.specs.Left.{AddedFrom, LeavesAdded}
use Rattle.conc_journal.specs.Records.{IsSpelled}
use Rattle.conc_journal.proofs.Added.{added-fits, adds-fits}
use Rattle.conc_journal_image.proofs.Appends.{length-journal}
use Rattle.conc_journal.proofs.Steps.{each-from, left-from, reaches}

-- a journal has these events, or these and one more
abbrev pub HasOrAdds : Label → List ℕ → List Event → Event → ℕ → List ℕ → Type 0
HasOrAdds label stamps events event stamp image =
    IsJournal label stamps events image ⊎ IsJournal label (stamps ++ command_stamp event stamp) (events ++ event ∷ []) image

-- the images of a begun journal
pub begun-images : (journal : Journal) (label : Label) (disk : DiskState) → journal.state ≡ Begun label → IsOn journal disk → EachImage (IsJournal label journal.stamps.items journal.events.items) disk
begun-images journal label disk is on = subst (λ (s : JournalState). EachImage (FitsState s journal.stamps.items journal.events.items) disk) is on

-- it reaches the gate behind the list
pub journal-reaches : (label : Label) (stamps : List ℕ) (events : List Event) (at : ℕ) (disk : DiskState) → at ≡ 64 + 32 * length events → IfSome disk.seen disk.may_leave → EachImage (IsJournal label stamps events) disk → Reaches disk (at + 1)
journal-reaches label stamps events at disk is is_left each =
    reaches (IsJournal label stamps events) (at + 1) disk is_left each (λ c journal. omega (arith, length-journal label stamps events c journal))

module _ (label : Label) (stamps : List ℕ) (events : List Event) (event : Event) (stamp at : ℕ) (spelled : List ℕ) (at_is : at ≡ 64 + 32 * length events) (room : length events < 1048576) (is : IsSpelled event stamp spelled) (old new : DiskState) (was : EachImage (IsJournal label stamps events) old) where
  -- while it is added
  pub images-fit : is_some new.seen ≡ is_some old.seen → EachImage (AddedFrom old at spelled) new → EachImage (HasOrAdds label stamps events event stamp) new
  images-fit exposes each =
      each-from (AddedFrom old at spelled) (HasOrAdds label stamps events event stamp) (IsJournal label stamps events) old new exposes was each (λ before c from.
      adds-fits label stamps events event stamp spelled from.0 room is (before from.0 from.1) at c at_is from.2)

  -- when it is added
  pub images-have : is_some new.seen ≡ is_some old.seen → LeavesAdded at spelled old new → EachImage (IsJournal label (stamps ++ command_stamp event stamp) (events ++ event ∷ [])) new
  images-have exposes each =
      each-from (λ image. (before : List ℕ) × old.may_leave before × (at < length before) × (image ≡ written at (1 ∷ []) (written (at + 1) spelled before))) (IsJournal label (stamps ++ command_stamp event stamp) (events ++ event ∷ [])) (IsJournal label stamps events) old new exposes was each (λ before c from.
      added-fits label stamps events event stamp spelled from.0 room is (before from.0 from.1) at c at_is from.3)

  -- at each moment
  pub left-fits : LeavesOnly (AddedFrom old at spelled) old new → LeavesOnly (HasOrAdds label stamps events event stamp) old new
  left-fits left =
      left-from (AddedFrom old at spelled) (HasOrAdds label stamps events event stamp) (IsJournal label stamps events) old new was left (λ before c from.
      adds-fits label stamps events event stamp spelled from.0 room is (before from.0 from.1) at c at_is from.2)
