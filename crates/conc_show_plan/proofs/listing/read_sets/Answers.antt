use Rattle.std.proofs.Common.{◌∙◌, ap, sym, arith, ℕ, ◌+◌}
use Rattle.std.specs.Prelude.{Option}
use Rattle.std.specs.Option.{option_map}
use Rattle.std.proofs.lemmas.Bool.{eqb-false, eqb-true}
use Rattle.conc_history_lines.specs.History.{whole_lines}
use Rattle.conc_show_plan.specs.Listing.{in_plan}
use Rattle.conc_show_plan.proofs.Listed.{read_all, read_bad, read_fine, read_more, read_none, read_open}
use Rattle.conc_show_plan.proofs.listing.read_sets.Goals as goal

pub loop-line-init : goal.loop-line-init
loop-line-init c = read_none c.args.listing.now c.new-sets.result.items c.new-sets.ensures.items

pub returns-in_default-plan_line-clause-err : goal.returns-in_default-plan_line-clause-err
returns-in_default-plan_line-clause-err c =
    let bad = sym c.in_default-plan_line.ensures in
    let fault = read_bad c.args.listing.now c.loop-line.rest.now c.in-Some.line.now (whole_lines c.in-Some.after.now) c.loop-line.sets.items (c.len.result + 1)
    c.loop-line.invariant c.in-Some.ensures.lines (omega arith) bad in
    rw c.refused.ensures (ap (λ (o : Option ℕ). option_map in_plan o) fault)

pub loop-line-preserved : goal.loop-line-preserved
loop-line-preserved c =
    read_more c.args.listing.now c.loop-line.rest.now c.in-Some.line.now c.in-Some.after.now c.loop-line.sets.items c.push.new.self.items c.in-Some-plan_line.set (c.len.result + 1)
    c.loop-line.invariant c.in-Some.ensures.lines c.in-Some.ensures.length (omega arith) (sym c.in-Some-plan_line.ensures) c.in_ok-push.ensures.items

pub returns-then-not-is_empty-clause-err : goal.returns-then-not-is_empty-clause-err
returns-then-not-is_empty-clause-err c =
    let some = eqb-false _ _ (sym c.is_empty.ensures ∙ c.if-not-is_empty.true) in
    let fault = read_open c.args.listing.now c.loop-line.rest.now c.loop-line.sets.items (c.len-then-not-is_empty.result + 1)
    c.loop-line.invariant c.in_default.ensures.lines some (omega arith) in
    rw c.refused-then-not-is_empty.ensures (ap (λ (o : Option ℕ). option_map in_plan o) fault)

pub returns-clause-sets : goal.returns-clause-sets
returns-clause-sets c = read_all c.args.listing.now c.loop-line.rest.now c.loop-line.sets.items c.loop-line.invariant c.in_default.ensures.lines

pub returns-clause-ok : goal.returns-clause-ok
returns-clause-ok c =
    read_fine c.args.listing.now c.loop-line.rest.now c.loop-line.sets.items c.loop-line.invariant c.in_default.ensures.lines
    (eqb-true _ _ (sym c.is_empty.ensures ∙ c.if-not-is_empty.false))
