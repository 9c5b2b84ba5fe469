-- What a teller is told of a run.
use Rattle.std.specs.Prelude.{Bool, List, Option, None, Some, IsTrue}
use Rattle.conc_types.specs.declared.event.Event.{Event}
use Rattle.conc_journal.specs.Receipts.{list_with}
use Rattle.conc_journal.specs.declared.receipt.Receipt.{Receipt}
use Rattle.conc_run_steps.specs.Told.{IsUntold}

-- the list, if there is one, with the resume behind it, if one was added
abbrev pub list_resumed : Option Receipt → Option (List Event) → Option (List Event)
list_resumed None list = list
list_resumed (Some receipt) list = list_with receipt list

-- where a teller with this list may find no memory, if it may at all: it was told all but the last event
abbrev pub LacksTelling : Bool → Option (List Event) → List Event → List Event → Type 0
LacksTelling may_lack told found list = IsTrue may_lack × IsUntold told list
