use Rattle.std.proofs.Common.{refl, ◌∙◌, sym, ap, lt-ltb, le-ltb, map, Some, List}
use Rattle.std.proofs.lemmas.Result.{err_from_is_err_and}
use Rattle.conc_types.specs.declared.script.Order.{Order}
use Rattle.conc_script.proofs.ScriptFaults.{commands_of_script, fault_of_script, headless_script, long_script}
use Rattle.conc_script.proofs.script.read_script.Goals as goal

pub returns-then-bytes-gt-MOST_BYTES-clause-err : goal.returns-then-bytes-gt-MOST_BYTES-clause-err
returns-then-bytes-gt-MOST_BYTES-clause-err c =
    rw c.refused.ensures (refl, long_script c.args.setup.now c.args.bytes.now (lt-ltb _ _ c.if-bytes-gt-MOST_BYTES.true))

pub returns-then-not-branch-clause-err : goal.returns-then-not-branch-clause-err
returns-then-not-branch-clause-err c =
    let none = rw c.of_text-records.ensures.all at (sym c.in_ok-read_header.ensures.value ∙ c.if-not-branch.true) in
    rw c.refused-then-not-branch.ensures (refl, headless_script c.args.setup.now c.args.bytes.now (le-ltb _ _ c.if-bytes-gt-MOST_BYTES.false) none)

pub returns-in_err-commands-clause-err : goal.returns-in_err-commands-clause-err
returns-in_err-commands-clause-err c =
    let start = sym c.of_text-records.ensures.all ∙ c.in_ok-read_header.ensures.rest c.if-not-branch.false in
    let p = err_from_is_err_and c.from_residual-in_err-commands.result c.from_residual-in_err-commands.ensures.1 in
    rw (p.1, p.2, fault_of_script c.args.setup.now c.args.bytes.now _ (le-ltb _ _ c.if-bytes-gt-MOST_BYTES.false) start) c.in_err-commands.ensures.err

pub returns-clause-ok : goal.returns-clause-ok
returns-clause-ok c =
    let start = sym c.of_text-records.ensures.all ∙ c.in_ok-read_header.ensures.rest c.if-not-branch.false in
    let read = c.in_ok-commands.ensures.ok in
    record {
      faultless = fault_of_script c.args.setup.now c.args.bytes.now _ (le-ltb _ _ c.if-bytes-gt-MOST_BYTES.false) start ∙ read.faultless;
      commands =
          commands_of_script c.args.setup.now c.args.bytes.now _ _ start read.list
          ∙ ap (λ (orders : List Order). map (λ order. Some order) orders) (sym c.from_vec.ensures);
    }
