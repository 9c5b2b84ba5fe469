use Rattle.std.proofs.Common.{Ok, ap}
use Rattle.conc_data_entries.proofs.program.to_program.Goals as goal

pub returns : goal.returns
returns c = rw c.in_ok-name.was (ap Ok c.program_with.ensures)
