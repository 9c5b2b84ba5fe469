use Rattle.std.proofs.Common.{◌∙◌, ap, ℕ, arith}
use Rattle.std.specs.Prelude.{Option}
use Rattle.std.specs.Option.{option_map}
use Rattle.conc_show_plan.specs.Submits.{in_script}
use Rattle.conc_show_plan.proofs.Submitted.{read_all, read_fine, read_more, read_short}
use Rattle.conc_show_plan.proofs.submits.submits_in.Goals as goal

pub returns-then-len-lt2-clause-err : goal.returns-then-len-lt2-clause-err
returns-then-len-lt2-clause-err c =
    let fault = read_short _ _ _ _ _ _ c.from-place.result c.loop-row.invariant (c.in_ok-read.ensures.some c.if-branch.true) (omega arith) (omega (arith, c.from-place.ensures, c.in_ok-next.ensures)) in
    rw c.refused.ensures (ap (λ (o : Option ℕ). option_map in_script o) fault)

pub loop-row-preserved : goal.loop-row-preserved
loop-row-preserved c = read_more _ _ _ _ _ _ _ _ c.loop-row.invariant (c.in_ok-read.ensures.some c.if-branch.true) (omega arith) c.in_ok-note.ensures c.in_ok-next.ensures

pub returns-clause-submits : goal.returns-clause-submits
returns-clause-submits c =
    let ends = c.in_ok-read.ensures.none c.if-branch.false in
    read_all _ _ _ _ c.loop-row.invariant ends.0

pub returns-clause-ok : goal.returns-clause-ok
returns-clause-ok c =
    let ends = c.in_ok-read.ensures.none c.if-branch.false in
    read_fine _ _ _ _ c.loop-row.invariant ends.0
