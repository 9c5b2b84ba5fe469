use Rattle.std.proofs.Common.{◌≡◌, ◌++◌}
use Rattle.conc_data_fields.specs.Arrays.{goods}
use Rattle.conc_data_fields.proofs.lines.goods.Given as goal

abbrev pub invariant-loop-read : goal.invariant-loop-read
invariant-loop-read g l =
    (goal.iterator-loop-read g).can_next l.read-iterator × (goal.iterator-loop-read g).is_finite l.read-iterator
    × (l.values.items ++ goods l.read-iterator.rest.items ≡ goods l.fn.all)
