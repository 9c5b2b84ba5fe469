use Rattle.std.proofs.Common.{sym, ◌∙◌}
use Rattle.conc_time.specs.Fields.{civil}
use Rattle.conc_time.proofs.Spellings.{is_read, not_civil, not_spelled, not_text}
use Rattle.conc_time.proofs.reading.read_moment.Goals as goal

pub returns-in_err-seconds-clause-value : goal.returns-in_err-seconds-clause-value
returns-in_err-seconds-clause-value c =
    c.from_residual.ensures ∙ sym (not_civil c.args.bytes.now _ c.numbers_at-numbers.ensures c.in_err-seconds.ensures.seconds)

pub returns-in_err-seconds-clause-none : goal.returns-in_err-seconds-clause-none
returns-in_err-seconds-clause-none c =
    λ e t h. not_spelled c.args.bytes.now (not_civil c.args.bytes.now _ c.numbers_at-numbers.ensures c.in_err-seconds.ensures.seconds) t h

pub returns-then-eq-clause-value : goal.returns-then-eq-clause-value
returns-then-eq-clause-value c =
    let text = c.as_slice.ensures ∙ c.text.ensures in
    sym (is_read c.args.bytes.now (civil c.numbers_at-numbers.result) _ c.in_ok-seconds.ensures.seconds (rw (← text) (sym c.eq.ensures ∙ c.if-eq.true)))

pub returns-else-eq-clause-value : goal.returns-else-eq-clause-value
returns-else-eq-clause-value c =
    let text = c.as_slice.ensures ∙ c.text.ensures in
    sym (not_text c.args.bytes.now (civil c.numbers_at-numbers.result) c.numbers_at-numbers.ensures (rw (← text) (sym c.eq.ensures ∙ c.if-eq.false)))

pub returns-else-eq-clause-none : goal.returns-else-eq-clause-none
returns-else-eq-clause-none c =
    λ e t h. not_spelled c.args.bytes.now (sym (returns-else-eq-clause-value c)) t h
