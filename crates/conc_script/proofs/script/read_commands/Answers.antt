use Rattle.std.proofs.Common.{refl, ◌∙◌, ap, ℕ, ◌+◌, ◌≤◌, [], ◌∷◌, ◌++◌, arith}
use Rattle.conc_types.specs.declared.script.Act.{Act}
use Rattle.conc_types.specs.Scripts.{entered_by}
use Rattle.conc_script.specs.Actions.{act_by}
use Rattle.conc_script.proofs.ReadRecords.{reads_all, reads_fault, reads_more, reads_none}
use Rattle.conc_script.proofs.script.read_commands.Goals as goal

pub loop-row-init : goal.loop-row-init
loop-row-init c = reads_none c.args.setup.now _ _ c.new-commands.ensures.items

pub returns-in-Err-clause-err : goal.returns-in-Err-clause-err
returns-in-Err-clause-err c =
    let reads = rw (c.in_ok-read.ensures.some c.if-branch.true) at c.loop-row.invariant in
    rw c.refused.ensures (refl, reads_fault c.args.setup.now _ _ _ _ _ _ c.in-Err.kind _ reads (omega arith) c.in-Err.ensures.rules)

pub loop-row-preserved : goal.loop-row-preserved
loop-row-preserved c =
    let reads = rw (c.in_ok-read.ensures.some c.if-branch.true) at c.loop-row.invariant in
    let judged = c.in-Ok.ensures in
    let entered = c.entered_with.ensures in
    let total = ap (λ (n : ℕ). c.loop-row.entered + n) (c.from-entered.ensures ∙ entered.value) in
    let few : entered_by c.args.setup.now (act_by c.in-Ok.action) ≤ 4097 = omega (arith, entered.value, entered.few) in
    let more = c.in_ok-push-in-Ok.ensures.items ∙ ap (λ (a : Act). c.loop-row.commands.items ++ record { at = c.in-Ok.at; act = a } ∷ []) c.in_ok-act-in-Ok.ensures in
    reads_more c.args.setup.now _ _ _ _ _ _ _ _ _ c.in-Ok.at (act_by c.in-Ok.action) reads (omega arith) judged.rules judged.said judged.at judged.later judged.fits judged.enters total few more

pub returns-clause-ok : goal.returns-clause-ok
returns-clause-ok c =
    let ends = c.in_ok-read.ensures.none c.if-branch.false in
    reads_all c.args.setup.now _ _ _ _ (rw ends.0 at c.loop-row.invariant)
