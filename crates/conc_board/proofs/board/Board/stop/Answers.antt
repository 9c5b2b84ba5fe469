use Rattle.std.proofs.Common.{◌∙◌, refl, sym}
use Rattle.conc_board.proofs.Leads.{adds_two, changes_after}
use Rattle.conc_board.proofs.board.Board.stop.Goals as goal

pub stop_at-requires-clause-lead_state : goal.stop_at-requires-clause-lead_state
stop_at-requires-clause-lead_state c = let go = c.place_of_go-place.ensures in (go.place.0, go.same ∙ go.place.1)

pub returns-clause-lead : goal.returns-clause-lead
returns-clause-lead c = changes_after _ _ _ _ _ c.place_of_go-place.ensures.lead c.place_of_go-place.ensures.same c.stop_at.ensures.lead

pub returns-clause-stopped : goal.returns-clause-stopped
returns-clause-stopped c = let go = c.place_of_go-place.ensures in let s = c.stop_at.ensures.stopped in record {
  place = c.place_of_go-place.result;
  marked = s.marked;
  loaded = go.found.0;
  exchanged = s.exchanged;
  was = sym go.same ∙ s.was;
  now = s.now;
  answers = s.answers;
  fits = s.fits;
  found = adds_two _ _ go.found.0 s.exchanged _ _ _ refl go.found.2 s.found;
}
