use Rattle.std.proofs.Common.{ap, arith, length}
use Rattle.conc_journal.proofs.opened.open_begun.Goals as goal

pub find_records-requires-clause-within : goal.find_records-requires-clause-within
find_records-requires-clause-within g c = omega (arith, ap length c.in_ok-found.ensures.none, c.requires.header)
