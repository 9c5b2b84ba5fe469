use Rattle.std.proofs.Common.{refl}
use Rattle.conc_types.specs.Cells.{AreEnds, cut}
use Rattle.conc_tables.proofs.gathered.Gathered.with_capacity.Goals as goal

pub returns-clause-whole : goal.returns-clause-whole
unfolding AreEnds
returns-clause-whole c = rw (c.new.ensures.items, c.in_ok-with_capacity.ensures.items) refl

pub returns-clause-none : goal.returns-clause-none
unfolding cut
returns-clause-none c = rw c.new.ensures.items refl
