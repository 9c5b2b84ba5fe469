-- What was acknowledged, and that it stays.
use Rattle.std.specs.Prelude.{◌≡◌, ℕ, zero, suc, List, Option, None, Some, IsTrue, slice_get}
use Rattle.conc_types.specs.declared.event.Event.{Event}
use Rattle.conc_disk.specs.Disk.{DiskState}
use Rattle.conc_disk.specs.Left.{EachImage, LeavesOnly}
use Rattle.conc_journal_image.specs.Image.{found_in, has_header}
use Rattle.conc_journal.specs.Journals.{list_of, state_of}
use Rattle.conc_journal.specs.JournalStates.{takes_events}
use Rattle.conc_journal.specs.Receipts.{event_of, number_of}
use Rattle.conc_journal.specs.declared.journal.Journal.{Journal}
use Rattle.conc_journal.specs.declared.receipt.Receipt.{Receipt}

-- the event with this number, counted from 1
abbrev pub event_at : List Event → ℕ → Option Event
event_at events zero = None
event_at events (suc before) = slice_get events before

-- the journal has the receipt's event at its number
pub record HasReceipt (journal : Journal) (receipt : Receipt) : Type 0 where
  pub takes : IsTrue (takes_events (state_of journal))
  pub at_number : event_at (list_of journal) (number_of receipt) ≡ Some (event_of receipt)

-- the image is that of a journal without a broken record, and has the receipt's event at its number
pub record HasEventOf (receipt : Receipt) (image : List ℕ) : Type 0 where
  pub header : IsTrue (has_header image)
  pub whole : (found_in image).broken ≡ None
  pub at_number : event_at (found_in image).events (number_of receipt) ≡ Some (event_of receipt)

-- the journal has it, and, where the disk exposes its bytes, so has each image now
pub record IsAcknowledged (receipt : Receipt) (journal : Journal) (disk : DiskState) : Type 0 where
  pub in_list : HasReceipt journal receipt
  pub images : EachImage (HasEventOf receipt) disk

-- after a call they have it still, and a crash in the call leaves it too
pub record StaysIn (receipt : Receipt) (journal : Journal) (old new : DiskState) : Type 0 where
  pub now : IsAcknowledged receipt journal new
  pub at_each_moment : LeavesOnly (HasEventOf receipt) old new
