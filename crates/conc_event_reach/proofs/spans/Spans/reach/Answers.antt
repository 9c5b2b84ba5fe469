use Rattle.std.proofs.Common.{refl, inl, inr}
use Rattle.conc_event_reach.proofs.Around.{around_done, around_none, around_whole}
use Rattle.conc_event_reach.proofs.Unchanged.{leaves_others}
use Rattle.conc_event_reach.specs.Reach.{is_about}
use Rattle.conc_event_reach.proofs.spans.Spans.reach.Goals as goal

pub returns-in-Tick-clause-leaves : goal.returns-in-Tick-clause-leaves
unfolding is_about
returns-in-Tick-clause-leaves c = λ are. leaves_others _ _ _ _ c.in-Tick.is (around_none _ _ refl)

pub returns-in-Command-clause-leaves : goal.returns-in-Command-clause-leaves
returns-in-Command-clause-leaves c = λ are. leaves_others _ _ _ _ c.in-Command.is
    (around_done _ _ _ _ _ _ are c.span_of_command.ensures (c.span_of_act.ensures are) c.cover.ensures)

pub returns-in-CloseSet-clause-leaves : goal.returns-in-CloseSet-clause-leaves
unfolding is_about
returns-in-CloseSet-clause-leaves c = λ are. leaves_others _ _ _ _ c.in-CloseSet.is (c.span_of_set.ensures are)

pub returns-in-Resume-clause-leaves : goal.returns-in-Resume-clause-leaves
returns-in-Resume-clause-leaves c = λ are. leaves_others _ _ _ _ c.in-Resume.is (around_whole _ _ _ are)

pub returns-in-LetOut-clause-leaves : goal.returns-in-LetOut-clause-leaves
unfolding is_about
returns-in-LetOut-clause-leaves c = λ are. elim c.in-LetOut.is [
  | inl let_out ↦ leaves_others _ _ _ _ let_out c.span_of_request.ensures
  | inr (inl started) ↦ leaves_others _ _ _ _ started.1 c.span_of_request.ensures
  | inr (inr (inl ended)) ↦ leaves_others _ _ _ _ ended.2 c.span_of_request.ensures
  | inr (inr (inr interrupt)) ↦ leaves_others _ _ _ _ interrupt c.span_of_request.ensures
]

pub returns-in-OpenSet-clause-leaves : goal.returns-in-OpenSet-clause-leaves
unfolding is_about
returns-in-OpenSet-clause-leaves c = λ are. elim c.in-OpenSet.is [
  | inl opened ↦ leaves_others _ _ _ _ opened c.span_of_request-in-OpenSet.ensures
  | inr stage ↦ leaves_others _ _ _ _ stage.1 c.span_of_request-in-OpenSet.ensures
]
