use Rattle.std.proofs.Common.{◌≡◌, ◌++◌, map}
use Rattle.conc_reports.specs.Texts.{group_of, groups_text}
use Rattle.conc_reports.proofs.making.put_groups.Given as goal

abbrev pub invariant-loop-key : goal.invariant-loop-key
invariant-loop-key l =
    l.out.items ++ groups_text l.job.sum (map group_of l.key-iterator) ≡ l.fn.out.items ++ groups_text l.job.sum (map group_of l.groups.entries)
