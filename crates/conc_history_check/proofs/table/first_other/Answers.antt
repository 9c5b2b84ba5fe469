use Rattle.std.proofs.Common.{arith}
use Rattle.conc_history_check.proofs.Comparing.{agrees_end, agrees_more, agrees_until}
use Rattle.conc_history_check.proofs.table.first_other.Goals as goal

pub loop-line-preserved : goal.loop-line-preserved
loop-line-preserved c =
    agrees_more c.args.table.now c.args.text.now c.loop-line.table.now c.loop-line.text.now _ _ _ c.loop-line.number c.loop-line.invariant
    c.in-Some.ensures.lines (omega (arith, c.in-Some.ensures.length)) c.in-Some-after_line.ensures.same

pub returns-in_default-after_line-clause-place : goal.returns-in_default-after_line-clause-place
returns-in_default-after_line-clause-place c =
    agrees_until c.args.table.now c.args.text.now c.loop-line.table.now c.loop-line.text.now _ c.in-Some.rest.now c.loop-line.number c.loop-line.invariant
    c.in-Some.ensures.lines c.in_default-after_line.ensures.other

pub returns-clause-place : goal.returns-clause-place
returns-clause-place c =
    agrees_end c.args.table.now c.args.text.now c.loop-line.table.now c.loop-line.text.now c.loop-line.number c.loop-line.invariant
    c.in_default.ensures.lines
