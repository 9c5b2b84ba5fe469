use Rattle.std.proofs.Common.{refl, ◌∙◌, sym, lt-ltb, le-ltb}
use Rattle.std.proofs.lemmas.Result.{err_from_is_err_and}
use Rattle.conc_repeat.proofs.Expanded.{expands}
use Rattle.conc_repeat.proofs.FileFaults.{fault_of_file, headless_file, long_file}
use Rattle.conc_repeat.proofs.expanding.expand.Goals as goal

pub returns-then-bytes-gt-MOST_BYTES-clause-err : goal.returns-then-bytes-gt-MOST_BYTES-clause-err
returns-then-bytes-gt-MOST_BYTES-clause-err c =
    rw c.refused.ensures (refl, long_file c.args.bytes.now (lt-ltb _ _ c.if-bytes-gt-MOST_BYTES.true))

pub returns-then-not-branch-clause-err : goal.returns-then-not-branch-clause-err
returns-then-not-branch-clause-err c =
    let none = rw c.of_text-records.ensures.all at (sym c.in_ok-read_header.ensures.value ∙ c.if-not-branch.true) in
    rw c.refused-then-not-branch.ensures (refl, headless_file c.args.bytes.now (le-ltb _ _ c.if-bytes-gt-MOST_BYTES.false) none)

pub returns-in_err-all-clause-err : goal.returns-in_err-all-clause-err
returns-in_err-all-clause-err c =
    let start = sym c.of_text-records.ensures.all ∙ c.in_ok-read_header.ensures.rest c.if-not-branch.false in
    let p = err_from_is_err_and c.from_residual-in_err-all.result c.from_residual-in_err-all.ensures.1 in
    rw (p.1, p.2, fault_of_file c.args.bytes.now _ (le-ltb _ _ c.if-bytes-gt-MOST_BYTES.false) start) c.in_err-all.ensures.err

pub returns-clause-ok : goal.returns-clause-ok
returns-clause-ok c =
    let start = sym c.of_text-records.ensures.all ∙ c.in_ok-read_header.ensures.rest c.if-not-branch.false in
    let ordered = rw c.as_slice.ensures.value at c.in_ok-dues.ensures.by_moment in
    let text = rw (c.as_slice-2.ensures.value, c.as_slice-3.ensures.value) at c.in_ok-script.ensures in
    expands c.args.bytes.now _ c.in_ok-all.all.items c.in_ok-dues.dues.items _ (le-ltb _ _ c.if-bytes-gt-MOST_BYTES.false) start c.in_ok-all.ensures.ok ordered text
