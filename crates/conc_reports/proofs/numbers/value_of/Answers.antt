use Rattle.std.proofs.Common.{◌≡◌, sym, ◌∙◌, ap, take, take_all, refl, Some, get_or, arith}
use Rattle.conc_reports.proofs.Digits.{next_digit, no_digits, some_digits, too_few, too_many}
use Rattle.conc_reports.proofs.numbers.value_of.Goals as goal
use Rattle.conc_reports.proofs.numbers.value_of.Goals.{then-is_empty-via-then-is_empty, then-is_empty-via-else-is_empty+then-bytes-gt19}

pub returns-then-is_empty : goal.returns-then-is_empty
returns-then-is_empty c = elim c.then-is_empty.branch [
  | then-is_empty-via-then-is_empty w ↦ rw (too_few c.args.bytes.now (sym c.is_empty.ensures ∙ w.if-is_empty.true)) refl
  | then-is_empty-via-else-is_empty+then-bytes-gt19 w ↦ rw (too_many c.args.bytes.now w.if-bytes-gt19.true) refl
]

pub returns-then-not-is_digit : goal.returns-then-not-is_digit
returns-then-not-is_digit c =
    rw (no_digits c.args.bytes.now c.loop-byte.byte-index (get_or c.args.bytes.now c.loop-byte.byte-index 0) c.loop-byte-test.true refl c.loop-byte.invariant.0 (sym c.is_digit.ensures ∙ c.if-not-is_digit.true)) refl

pub overflow_mul-value : goal.overflow_mul-value
overflow_mul-value c =
    let next = next_digit c.args.bytes.now c.loop-byte.byte-index (get_or c.args.bytes.now c.loop-byte.byte-index 0) (omega arith) c.loop-byte-test.true refl c.loop-byte.invariant.0 (sym c.is_digit.ensures ∙ c.if-not-is_digit.false) in
    omega (arith, next.fits, c.loop-byte.invariant.1)

pub overflow_add-value : goal.overflow_add-value
overflow_add-value c =
    let next = next_digit c.args.bytes.now c.loop-byte.byte-index (get_or c.args.bytes.now c.loop-byte.byte-index 0) (omega arith) c.loop-byte-test.true refl c.loop-byte.invariant.0 (sym c.is_digit.ensures ∙ c.if-not-is_digit.false) in
    omega (arith, next.fits, next.least, c.loop-byte.invariant.1, c.from.ensures)

pub loop-byte-preserved : goal.loop-byte-preserved
loop-byte-preserved c =
    let next = next_digit c.args.bytes.now c.loop-byte.byte-index (get_or c.args.bytes.now c.loop-byte.byte-index 0) (omega arith) c.loop-byte-test.true refl c.loop-byte.invariant.0 (sym c.is_digit.ensures ∙ c.if-not-is_digit.false) in
    (next.all, omega (arith, next.value, next.least, c.loop-byte.invariant.1, c.from.ensures))

pub returns : goal.returns
returns c =
    let bytes = c.args.bytes.now in
    let whole : take c.loop-byte.byte-index bytes ≡ bytes = take_all c.loop-byte.byte-index bytes (omega (arith, c.loop-byte-test.false)) in
    let all = rw whole at c.loop-byte.invariant.0 in
    let value = rw whole at c.loop-byte.invariant.1 in
    rw (some_digits bytes (sym c.is_empty.ensures ∙ c.if-is_empty.false) (omega arith) all) (ap (λ n. Some n) value)
