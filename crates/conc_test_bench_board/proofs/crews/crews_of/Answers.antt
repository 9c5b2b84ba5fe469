use Rattle.conc_board.specs.Seats.{places_of_lead}
use Rattle.conc_test_bench_board.proofs.Facts.{fresh_still, stay_own}
use Rattle.conc_test_bench_board.proofs.crews.crews_of.Goals as goal

pub loop-index-preserved : goal.loop-index-preserved
loop-index-preserved c = let i = c.loop-index.invariant in let e = c.worker_at-worker.ensures.passed in record {
  lead = fresh_still _ 0 _ _ e.lead e.lead_states i.lead;
  places = stay_own (places_of_lead c.loop-index.lead) _ c.loop-index.index e.left i.places;
  crew = c.in_ok-add_worker.ensures.crew;
  crews = c.in_ok-add_worker.ensures.crews;
}
