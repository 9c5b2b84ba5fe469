-- What is kept beside the state at a position.
use Rattle.conc_history_check.specs.Active.{IsActive, IsFirstUndone}
use Rattle.conc_history_check.specs.Marks.{AreMarks}
use Rattle.conc_history_check.specs.declared.position.Position.{Position}

-- the marks of the requests, where they may be active, and the first command that is not done
pub record IsKept (position : Position) : Type 0 where
  pub marks : AreMarks position.plan.now position.prepared.now.classes position.state.now position.marks.now
  pub active : IsActive position.plan.now position.state.now position.active
  pub undone : IsFirstUndone position.state.now position.undone
