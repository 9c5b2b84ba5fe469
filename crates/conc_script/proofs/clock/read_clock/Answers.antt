use Rattle.std.proofs.Common.{refl, sym, ap, ◌∙◌, lt-ltb, le-ltb, map, Some, arith, List}
use Rattle.std.proofs.lemmas.Result.{err_from_is_err_and}
use Rattle.conc_types.specs.declared.script.Reading.{Reading}
use Rattle.conc_script.proofs.ClockFaults.{empty_file, line_fault, long_file, no_fault}
use Rattle.conc_script.proofs.clock.read_clock.Goals as goal

pub returns-then-bytes-gt-MOST_BYTES-clause-err : goal.returns-then-bytes-gt-MOST_BYTES-clause-err
returns-then-bytes-gt-MOST_BYTES-clause-err c =
    rw c.refused.ensures (refl, long_file c.args.bytes.now (lt-ltb _ _ c.if-bytes-gt-MOST_BYTES.true))

pub returns-in_err-readings-clause-err : goal.returns-in_err-readings-clause-err
returns-in_err-readings-clause-err c =
    let p = err_from_is_err_and c.from_residual.result c.from_residual.ensures.1 in
    rw (p.1, p.2) (line_fault c.args.bytes.now _ _ (le-ltb _ _ c.if-bytes-gt-MOST_BYTES.false) c.in_err-readings.ensures.err)

pub returns-then-is_empty-clause-err : goal.returns-then-is_empty-clause-err
returns-then-is_empty-clause-err c =
    rw c.refused-then-is_empty.ensures
    (refl, empty_file c.args.bytes.now _ _ (omega arith) (le-ltb _ _ c.if-bytes-gt-MOST_BYTES.false) c.in_ok-readings.ensures.ok (sym c.is_empty.ensures ∙ c.if-is_empty.true))

pub returns-clause-ok : goal.returns-clause-ok
returns-clause-ok c = record {
  faultless = no_fault c.args.bytes.now c.in_ok-readings.readings.items c.in_ok-readings.readings.len (omega arith) (le-ltb _ _ c.if-bytes-gt-MOST_BYTES.false) c.in_ok-readings.ensures.ok (sym c.is_empty.ensures ∙ c.if-is_empty.false);
  list = c.in_ok-readings.ensures.ok.list ∙ ap (λ (readings : List Reading). map (λ q. Some q) readings) (sym c.from_vec.ensures);
}
