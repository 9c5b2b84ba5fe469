-- What a publisher publishes.
use Rattle.std.specs.Prelude.{List}
use Rattle.conc_types.specs.declared.event.Event.{Event}
use Rattle.conc_types.specs.declared.plan.Plan.{Plan}
use Rattle.left_right.specs.declared.Absorb as changes
use Rattle.conc_view.specs.Line.{shown}
use Rattle.conc_view.specs.declared.listing.Listing as lists
use Rattle.conc_view.specs.declared.naming.Naming as names
use Rattle.conc_view.specs.declared.publisher.Publishing.{Publishing}

module _ {J T O S : Type 0} {n : names.Ghosts J} {c : changes.Ghosts T O S} {l : lists.Ghosts T} where
  -- the plan whose events it takes
  abbrev pub told_plan : Publishing J T O S n c l → Plan
  told_plan publisher = publisher.plan.now

  -- the list that is published: the events that the view began with, and behind them those told since
  abbrev pub list_of : Publishing J T O S n c l → List Event
  list_of publisher = l.list (shown publisher.line)
