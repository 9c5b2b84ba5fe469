use Rattle.std.proofs.Common.{sym, ◌∙◌, arith}
use Rattle.conc_history_check.proofs.Undone.{done-beyond, done-more}
use Rattle.conc_history_check.proofs.active.first_undone.Goals as goal

pub loop-place-preserved : goal.loop-place-preserved
loop-place-preserved c = done-more c.args.state.now c.loop-place.place c.loop-place.invariant (sym c.is_done_at.ensures ∙ c.if-is_done_at.true)

pub returns-else-is_done_at : goal.returns-else-is_done_at
returns-else-is_done_at c = record { before = c.loop-place.invariant; here = sym c.is_done_at.ensures ∙ c.if-is_done_at.false }

pub returns-after-loop-place : goal.returns-after-loop-place
returns-after-loop-place c = record {
  before = c.loop-place.invariant;
  here = done-beyond c.args.state.now.done c.loop-place.place (omega (arith, c.loop-place-test.false, c.len.ensures));
}
