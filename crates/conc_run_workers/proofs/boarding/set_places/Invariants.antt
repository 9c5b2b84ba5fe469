use Rattle.std.proofs.Common.{◌≡◌, ◌<◌}
use Rattle.conc_types.specs.declared.event.PlaceId.{PlaceId}
use Rattle.conc_base_law.specs.Places.{count_of_places}
use Rattle.conc_board.specs.Seats.{plan_of, switch_of}
use Rattle.conc_pool_seats.specs.Words.{place_word}
use Rattle.conc_run_desk.specs.Desks.{is_usable_at, place_value}
use Rattle.conc_run_workers.specs.Resolving.{MovesAt}
use Rattle.conc_run_workers.proofs.boarding.set_places.Given as goal

abbrev pub invariant-loop-index : goal.invariant-loop-index
invariant-loop-index l = record {
  moves : MovesAt l.board l.initial.desk l.desk;
  all : l.index-end ≡ count_of_places (plan_of l.board);
  set : (p : PlaceId) → p.index < l.index → switch_of l.desk.lead (place_word (plan_of l.board) p) ≡ place_value (is_usable_at l.desk p);
}
