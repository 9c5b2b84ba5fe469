use Rattle.std.proofs.Common.{◌≡◌, ◌↔◌, ◌<◌, ◌%◌, true}
use Rattle.conc_types.specs.declared.event.PlaceId.{PlaceId}
use Rattle.conc_base_law.specs.Places.{count_of_places}
use Rattle.conc_pool_seats.specs.Places.{has}
use Rattle.conc_run_workers.proofs.crew.dealt.Given as goal

abbrev pub invariant-loop-index : goal.invariant-loop-index
invariant-loop-index l = record {
  all : l.index-end ≡ count_of_places l.plan;
  so_far : (p : PlaceId) → (has l.places.items p ≡ true) ↔ ((p.index < l.index) × (p.index % l.threads ≡ l.rest));
}
