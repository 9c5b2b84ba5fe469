-- A resume is added to a journal with the same list.
use Rattle.std.proofs.Common.{◌≡◌, ℕ, ◌+◌, List, length, Option, Some, Result, Ok, Err, IfSome, ◌∙◌, ap, subst}
use Rattle.conc_types.specs.declared.event.Event.{Event}
use Rattle.conc_base_law.specs.Alone.{opening}
use Rattle.conc_disk.specs.declared.error.DiskFault.{DiskFault}
use Rattle.conc_journal.specs.Journals.{list_of, room_of}
use Rattle.conc_journal.specs.Receipts.{IsNextOf}
use Rattle.conc_journal.specs.declared.journal.Journal.{Journal}
use Rattle.conc_journal.specs.declared.receipt.Receipt.{Receipt}
use Rattle.conc_run_open.specs.Starting.{HasOpened}

pub opened-same : (answer : Result (Option Receipt) DiskFault) (old mid new : Journal) → list_of mid ≡ list_of old → room_of mid ≡ room_of old → HasOpened answer mid new → HasOpened answer old new
opened-same (Err e) old mid new list room is = record { list = tt; room = tt; receipt = tt; still = tt }
opened-same (Ok resumed) old mid new list room is = record {
  list = is.list ∙ ap opening list;
  room = is.room ∙ ap (λ (z : ℕ × List Event). z.0 + length z.1) (λ i. (room i, list i));
  receipt = subst (λ (l : List Event). IfSome resumed (IsNextOf (Some l) (λ k. k ≡ list_of new))) list is.receipt;
  still = λ none. is.still none ∙ list;
}
