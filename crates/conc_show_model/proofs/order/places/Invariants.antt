use Rattle.std.proofs.Common.{◌≡◌, drop}
use Rattle.conc_show_model.specs.Places.{places_of, with_places}
use Rattle.conc_show_model.proofs.order.places.Given as goal

abbrev pub invariant-loop-run : goal.invariant-loop-run
invariant-loop-run l = with_places (drop l.run-index l.runs) l.places.items ≡ places_of l.runs
