use Rattle.std.proofs.Common.{◌≡◌, ◌+◌, ◌++◌, drop, map}
use Rattle.conc_types.specs.declared.item.Item.TheVariants as item
use Rattle.conc_plan.specs.Entering.{entered_by}
use Rattle.conc_plan.proofs.entering.enter_stage.Given as goal

abbrev pub invariant-loop-program : goal.invariant-loop-program
invariant-loop-program l = record {
  next : l.next ≡ l.fn.next + l.program-index;
  entered : let all = entered_by l.command in
      let part = map (λ program. (l.number, item.Program program)) in
      l.out.items ++ all l.next (part (drop l.program-index l.stage.members))
      ≡ l.fn.out.items ++ all l.fn.next (part l.stage.members);
}
