use Rattle.std.proofs.Common.{◌≡◌, ◌+◌, ◌∙◌, ap, arith, length, ℕ, sym}
use Rattle.conc_history_lines.specs.History.{bad_at, whole_lines}
use Rattle.conc_history_lines.proofs.Reading.{IsStopped, reads_more, reads_whole, stopped_at, stopped_end}
use Rattle.conc_history_lines.proofs.history.read_history.Goals as goal
use Rattle.conc_history_lines.proofs.history.read_history.Goals.{in-Some+in_default-event_of, in_default}

pub loop-line-preserved : goal.loop-line-preserved
loop-line-preserved c =
    reads_more c.args.starts.now c.args.bytes.now c.loop-line.rest.now c.in-Some.line.now c.in-Some.after.now c.loop-line.events.items c.push.new.self.items c.in-Some-event_of.event
    c.loop-line.invariant c.in-Some.ensures.lines c.in-Some.ensures.length (sym c.in-Some-event_of.ensures) c.in_ok-push.ensures.items

pub returns : goal.returns
returns c =
    let starts = c.args.starts.now in
    let rest = c.loop-line.rest.now in
    let stopped : IsStopped starts (whole_lines rest) = elim c.match-split_line.branch [
      | in-Some+in_default-event_of w ↦ stopped_at starts rest w.in-Some.line.now (whole_lines w.in-Some.after.now) w.in-Some.ensures.lines (sym w.in_default-event_of.ensures)
      | in_default w ↦ stopped_end starts rest w.in_default.ensures.lines
    ] in
    let many : c.len.result ≡ length c.loop-line.events.items = omega arith in
    let bad : c.bad_line.result ≡ bad_at (length c.loop-line.events.items + 1) (whole_lines rest) = c.bad_line.ensures ∙ ap (λ (n : ℕ). bad_at (n + 1) (whole_lines rest)) many in
    reads_whole starts c.args.bytes.now rest c.loop-line.events.items c.from_vec.result c.bad_line.result c.offset_after.result
    c.loop-line.invariant stopped bad c.offset_after.ensures c.from_vec.ensures
