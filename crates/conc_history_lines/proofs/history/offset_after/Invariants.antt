use Rattle.std.proofs.Common.{◌≡◌, ◌+◌, length}
use Rattle.conc_history_lines.specs.History.{offset_after as offset_after_of, whole_lines}
use Rattle.conc_history_lines.proofs.history.offset_after.Given as goal

abbrev pub invariant-loop-line : goal.invariant-loop-line
invariant-loop-line l =
    (l.offset + length l.text ≡ l.fn.offset + length l.fn.text)
    × (offset_after_of l.fn.offset (whole_lines l.fn.text) ≡ offset_after_of l.offset (whole_lines l.text))

abbrev pub decreases-loop-line : goal.decreases-loop-line
decreases-loop-line l = length l.text
