use Rattle.std.proofs.Common.{◌≡◌, ℕ, ◌<◌, Some, length, not}
use Rattle.std.specs.Prelude.{slice_get}
use Rattle.std.specs.Bool.{then_some}
use Rattle.conc_types.specs.declared.plan.Req.{Req}
use Rattle.conc_base_law.specs.State.{has_come}
use Rattle.conc_history_check.specs.Coming.{start_key}
use Rattle.conc_history_check.specs.Marks.{HaveRoom, IsMarked, slot_of}
use Rattle.conc_history_check.proofs.coming.renew_all.Given as goal

-- those up to here are put anew
abbrev pub invariant-loop-i : goal.invariant-loop-i
invariant-loop-i l =
    HaveRoom l.plan l.prepared.classes l.marks
    × (length l.coming ≡ length l.plan.requests)
    × ((k : ℕ) (q : Req) → slice_get l.plan.requests k ≡ Some q → k < l.i → IsMarked l.plan l.prepared.classes l.state q l.marks)
    × ((k : ℕ) (q : Req) → slice_get l.plan.requests k ≡ Some q → k < l.i → slot_of l.coming q ≡ Some (then_some (not (has_come l.state.time q.start)) (start_key q)))
