use Rattle.std.proofs.Common.{◌≡◌, ◌++◌, take}
use Rattle.std.specs.List.{flat_map}
use Rattle.conc_event_classes.specs.Candidates.{reached}
use Rattle.conc_event_classes.proofs.candidates.add_reached.Given as goal

abbrev pub invariant-loop-entry : goal.invariant-loop-entry
invariant-loop-entry l = l.found.items ≡ l.fn.found.items ++ flat_map (reached l.side l.shelves l.far) (take l.entry-index l.entries)
