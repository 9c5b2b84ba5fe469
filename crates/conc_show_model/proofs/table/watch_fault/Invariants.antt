use Rattle.std.proofs.Common.{◌≡◌, ◌+◌, ◌≤◌, length}
use Rattle.conc_history_lines.specs.History.{whole_lines}
use Rattle.conc_show_model.specs.Rows.{bytes_of_lines, is_whole, watch_fault}
use Rattle.conc_show_model.proofs.table.watch_fault.Given as goal

abbrev pub invariant-loop-line : goal.invariant-loop-line
invariant-loop-line l =
    (watch_fault (is_whole l.fn.text) l.fn.number (whole_lines l.fn.text) ≡ watch_fault (is_whole l.fn.text) l.number (whole_lines l.text))
    × (bytes_of_lines (whole_lines l.fn.text) + length l.text ≡ length l.fn.text + bytes_of_lines (whole_lines l.text))
    × (l.number + length l.text ≤ l.fn.number + length l.fn.text)

abbrev pub decreases-loop-line : goal.decreases-loop-line
decreases-loop-line l = length l.text
