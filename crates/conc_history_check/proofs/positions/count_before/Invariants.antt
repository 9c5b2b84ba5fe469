use Rattle.std.proofs.Common.{◌≡◌, ℕ, ◌≤◌, false, drop, length}
use Rattle.std.specs.List.{list_any}
use Rattle.conc_base_law.specs.Kinds.{is_resume}
use Rattle.conc_history_check.proofs.positions.count_before.Given as goal

-- no resume stands behind so many
abbrev pub invariant-loop-count : goal.invariant-loop-count
invariant-loop-count l = (l.count ≤ length l.events) × ((k : ℕ) → l.count ≤ k → list_any is_resume (drop k l.events) ≡ false)

abbrev pub decreases-loop-count : goal.decreases-loop-count
decreases-loop-count l = l.count
