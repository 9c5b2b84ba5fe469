use Rattle.std.proofs.Common.{◌≡◌, ◌+◌, ◌<◌, ◌^◌, ◌++◌, length, drop}
use Rattle.std.specs.List.{enumerate_from, flat_map}
use Rattle.conc_types.specs.Expansion.{members_of}
use Rattle.conc_plan.specs.Entering.{entered_by, members_in}
use Rattle.conc_plan.proofs.entering.enter_members.Given as goal

abbrev pub invariant-loop-stage : goal.invariant-loop-stage
invariant-loop-stage l =
    let rest = flat_map members_of (enumerate_from l.number (drop l.stage-index l.stages)) in
    let all = entered_by l.command in
    record {
      number : l.number ≡ 1 + l.stage-index;
      fits : l.next + length rest < 2 ^ 32;
      entered : l.out.items ++ all l.next rest
          ≡ l.fn.out.items ++ all l.fn.next (members_in l.stages);
    }
