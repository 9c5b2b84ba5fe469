use Rattle.std.proofs.Common.{arith, sym}
use Rattle.conc_history_lines.proofs.Reading.{offset_end, offset_found, offset_later}
use Rattle.conc_history_lines.proofs.history.offset_after.Goals as goal

pub returns-then-is_last : goal.returns-then-is_last
returns-then-is_last c =
    offset_found c.args.offset c.loop-line.offset _ c.args.text.now c.loop-line.text.now c.in-Some.line.now c.in-Some.after.now c.loop-line.invariant.1 c.in-Some.ensures.lines (sym c.if-is_last.ensures)

pub loop-line-preserved : goal.loop-line-preserved
loop-line-preserved c =
    let long = c.in-Some.ensures.length in (
      omega arith,
      offset_later c.args.offset c.loop-line.offset c.args.text.now c.loop-line.text.now c.in-Some.line.now c.in-Some.after.now c.loop-line.invariant.1 c.in-Some.ensures.lines (sym c.if-is_last.ensures),
    )

pub returns : goal.returns
returns c = offset_end c.args.offset c.loop-line.offset _ c.args.text.now c.loop-line.text.now c.loop-line.invariant.1 c.in_default.ensures.lines c.loop-line.invariant.0
