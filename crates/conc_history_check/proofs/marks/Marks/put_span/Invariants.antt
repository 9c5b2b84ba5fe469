use Rattle.std.proofs.Common.{◌≡◌, ℕ, ◌<◌, ◌≤◌, Some}
use Rattle.std.specs.Prelude.{slice_get}
use Rattle.conc_types.specs.declared.plan.Req.{Req}
use Rattle.conc_history_check.specs.Marks.{HaveRoom, IsMarked, KeepsMarks}
use Rattle.conc_history_check.proofs.marks.Marks.put_span.Given as goal

-- those from the first one up to here are put anew, and the others keep what was right
abbrev pub invariant-loop-i : goal.invariant-loop-i
invariant-loop-i l =
    HaveRoom l.plan l.prepared.classes l.self
    × KeepsMarks l.plan l.prepared.classes l.state l.fn.self l.self
    × ((k : ℕ) (q : Req) → slice_get l.plan.requests k ≡ Some q → l.fn.span.from ≤ k → k < l.i → IsMarked l.plan l.prepared.classes l.state q l.self)
