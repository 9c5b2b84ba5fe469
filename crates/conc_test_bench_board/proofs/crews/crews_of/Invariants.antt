use Rattle.std.proofs.Common.{◌≤◌, ◌<◌, All}
use Rattle.std.specs.Prelude.{IsTrue}
use Rattle.conc_types.specs.declared.event.PlaceId.{PlaceId}
use Rattle.conc_pool_seats.specs.Places.{has}
use Rattle.conc_board.specs.Seats.{places_of_lead}
use Rattle.conc_test_bench_board.specs.Crews.{CrewFits, Fits}
use Rattle.conc_test_bench_board.specs.Leads.{IsFresh}
use Rattle.conc_test_bench_board.proofs.crews.crews_of.Given as goal

abbrev pub invariant-loop-index : goal.invariant-loop-index
invariant-loop-index l = record {
  lead : IsFresh l.board 0 l.lead;
  places : (p : PlaceId) → l.index ≤ p.index → p.index < 64 → IsTrue (has (places_of_lead l.lead) p);
  crew : All (Fits l.board) l.crew.items;
  crews : All (CrewFits l.board) l.crews.items;
}
