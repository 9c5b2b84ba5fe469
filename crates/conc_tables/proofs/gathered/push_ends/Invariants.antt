use Rattle.std.proofs.Common.{◌≡◌}
use Rattle.conc_tables.proofs.Joined.{Noted}
use Rattle.conc_tables.proofs.gathered.push_ends.Given as goal

abbrev pub invariant-loop-field : goal.invariant-loop-field
invariant-loop-field l = (l.field-iterator.row.now ≡ l.row)
    × Noted l.row l.start l.end l.full l.initial.ends.items l.ends.items l.field-iterator.at
