use Rattle.std.proofs.Common.{◌≡◌, length}
use Rattle.conc_event_classes.proofs.shelf.Shelf.new.Given as goal

abbrev pub invariant-loop : goal.invariant-loop
invariant-loop l = length l.buckets.items ≡ l.counter
